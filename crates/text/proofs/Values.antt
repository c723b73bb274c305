-- A value's text by the tests that code makes of it, and how long it is at most. Assumes nothing.
use mathlib.Core.Path.{◌≡◌, refl}
use mathlib.Core.Bool.{Bool, true, false, cond, false≢true}
use mathlib.Core.List.{[], ◌∷◌}
use Prim.Native.Nat.{ℕ, zero, suc, ◌/◌, ◌^◌, ◌≤◌, ◌<◌}
use native.Mathlib.Decide.{dec_lt}
use native.Mathlib.Nat.{pow-suc}
use Rattle.std.specs.Prelude.{unsigned_abs}
use native.Mathlib.Omega.{arith}
use lib.IntN.{ℤ, pos, negsuc}
use lib.ListN.{length}
use lib.Signed.{mag, le_z}
use borrow.Author.Tests.{eq-eqb, ne_eqb, leb-false}
use mir.Syntax.{w32}
use mir.Facts.{to_z-of_z}
use mir.Val.{SFits, of_z, to_z}
use Rattle.format.specs.Listing.{value_text}
use Rattle.format.specs.Rows.{absent}
use Rattle.format.specs.Same.{sameℤ}
use Rattle.format.specs.Text.{dash, decimal}
use Rattle.text.proofs.LastDigits.{short, longer}

-- -32768 as 32 bits
abbrev pub absent_bits : ℕ
absent_bits = 4294934528

-- absent
pub absent_text : (v : ℤ) → SFits w32 v → of_z w32 v ≡ absent_bits → value_text v ≡ dash ∷ []
unfolding value_text sameℤ
absent_text (pos n) fits e = absurd (omega (arith, fits.sfits))
absent_text (negsuc n) fits e = rw (eq-eqb n 32767 (omega (arith, fits.sfits)))

-- from 0 on
pub plain_text : (v : ℤ) → le_z (pos 0) v ≡ true → value_text v ≡ decimal (unsigned_abs v)
unfolding value_text
plain_text (pos n) e = refl
plain_text (negsuc n) e = absurd (false≢true e)

-- below 0
pub negative_text : (v : ℤ) → SFits w32 v → (of_z w32 v ≡ absent_bits → ⊥) → le_z (pos 0) v ≡ false → value_text v ≡ dash ∷ decimal (unsigned_abs v)
unfolding value_text sameℤ
negative_text (pos n) fits there e = absurd (omega (arith, leb-false 0 n e))
negative_text (negsuc n) fits there e = rw (ne_eqb n 32767 (λ same. there (omega (arith, fits.sfits))))

-- the same of what code reads back from the bits
pub plain_read : (v : ℤ) → SFits w32 v → le_z (pos 0) (to_z w32 (of_z w32 v)) ≡ true → value_text v ≡ decimal (unsigned_abs (to_z w32 (of_z w32 v)))
plain_read v fits e = rw (to_z-of_z fits) (plain_text v (rw (to_z-of_z fits) at e))

pub negative_read : (v : ℤ) → SFits w32 v → (of_z w32 v ≡ absent_bits → ⊥) → le_z (pos 0) (to_z w32 (of_z w32 v)) ≡ false
    → value_text v ≡ dash ∷ decimal (unsigned_abs (to_z w32 (of_z w32 v)))
negative_read v fits there e = rw (to_z-of_z fits) (negative_text v fits there (rw (to_z-of_z fits) at e))

-- ---- how long

-- never empty
decimal_some : (n : ℕ) → 1 ≤ length (decimal n)
decimal_some n = go (dec_lt n 10)
  where
    go : Dec (n < 10) → 1 ≤ length (decimal n)
    go (yes few) = omega (arith, short n few)
    go (no many) = omega (arith, longer n (omega arith))

pub value_some : (v : ℤ) → 1 ≤ length (value_text v)
unfolding value_text
value_some (pos n) = decimal_some n
value_some (negsuc n) = go (sameℤ (negsuc n) absent)
  where
    go : (b : Bool) → 1 ≤ length (cond b (dash ∷ []) (dash ∷ decimal (suc n)))
    go true = omega arith
    go false = omega arith

pub decimal_long : (k n : ℕ) → n < 10 ^ suc k → length (decimal n) ≤ suc k
decimal_long zero n small = omega (arith, short n small)
decimal_long (suc k) n small = go (dec_lt n 10) (decimal_long k (n / 10) (omega (arith, pow-suc 10 (suc k))))
  where
    go : Dec (n < 10) → length (decimal (n / 10)) ≤ suc k → length (decimal n) ≤ suc (suc k)
    go (yes few) fewer = omega (arith, short n few)
    go (no many) fewer = omega (arith, longer n (omega arith))

-- a sign and ten digits
pub value_long : (v : ℤ) → mag v < 2 ^ 31 → length (value_text v) ≤ 11
unfolding value_text sameℤ
value_long (pos n) small = omega (arith, decimal_long 9 n (omega arith))
value_long (negsuc n) small = go (sameℤ (negsuc n) absent)
  where
    go : (b : Bool) → length (cond b (dash ∷ []) (dash ∷ decimal (suc n))) ≤ 11
    go true = omega arith
    go false = omega (arith, decimal_long 9 (suc n) (omega arith))
