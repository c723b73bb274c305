-- The last digits of a number in a base.
use Rattle.std.specs.Prelude.{List, [], ◌∷◌, ◌++◌, ℕ, zero, suc, ◌/◌, ◌%◌}
use Rattle.format.specs.Text.{digit_char}

-- k of them, zeros in front where there are fewer
unfoldable pub last_digits : ℕ → ℕ → ℕ → List ℕ
last_digits base zero n = []
last_digits base (suc k) n = last_digits base k (n / base) ++ (digit_char (n % base) ∷ [])
