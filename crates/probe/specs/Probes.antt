-- What the functions for C answer for every number there is.
use Rattle.std.specs.Prelude.{Bool, cond, ◌&&◌, List, ℕ, ◌+◌, ◌-◌, ◌*◌, ◌^◌, leb, ltb, ℤ, length}
use Rattle.std.specs.Int.Signed.{mag}
use Rattle.bits.specs.Places.{field}
use Rattle.bits.specs.BitLists.{set_field}
use Rattle.bits.specs.Signed.{unsigned}

-- all ones
abbrev pub none : ℕ
none = 2 ^ 64 - 1

abbrev pub read_or : List ℕ → ℕ → ℕ → ℕ
read_or bs place w = cond (leb w 56) (field bs place w) none

abbrev pub writable : ℕ → ℕ → ℕ → ℕ → Bool
writable count skip w n = ltb skip 8 && (leb w 56 && (leb (skip + w) (8 * count) && ltb n (2 ^ w)))

abbrev pub written_or : List ℕ → ℕ → ℕ → ℕ → List ℕ
written_or bs skip w n = cond (writable (length bs) skip w n) (set_field bs skip w n) bs

abbrev pub bits_or : ℤ → ℕ → ℕ
bits_or z w = cond (leb 1 w && (leb w 32 && ltb (mag z * 2) (2 ^ w))) (unsigned w z) none
