-- Two's complement of width w, as an integer and back.
use Rattle.std.specs.Prelude.{cond, ℕ, suc, ◌-◌, ◌*◌, ◌^◌, ltb, ℤ, pos, negsuc}
use Rattle.std.proofs.Math.IntN.{sub_ℕ}

-- the integer that w bits mean: from half of 2 ^ w on the number less 2 ^ w
unfoldable pub signed : ℕ → ℕ → ℤ
signed w n = cond (ltb (n * 2) (2 ^ w)) (pos n) (sub_ℕ n (2 ^ w))

-- the w bits that mean an integer
unfoldable pub unsigned : ℕ → ℤ → ℕ
unsigned w (pos n) = n
unsigned w (negsuc n) = 2 ^ w - suc n
