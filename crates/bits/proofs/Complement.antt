-- Two's complement: both ways are inverse to each other on their ranges, over the width; and the shifts and the sum by which code goes them.
-- An integer is in the range of w bits where twice its magnitude (`mag`: n for n and for -(n + 1)) is below 2 ^ w.
-- Assumes nothing.
use Rattle.bits.proofs.Words.{◌≡◌, refl, ap, ◌∙◌, true, false, ℕ, suc, ◌+◌, ◌-◌, ◌*◌, ◌%◌, ◌^◌, ◌≤◌, ◌<◌, arith, ℤ, pos}
use mathlib.Core.Bool.{false≢true}
use native.Mathlib.Nat.{pow-suc, mod-eq_of_lt, add-mod_right}
use native.Mathlib.Decide.{dec_lt}
use borrow.Author.Tests.{lt-ltb, le-ltb, ltb-true}
use lib.Dec.{T}
use lib.IntN.{nat_abs, negsuc, ◌+ℤ◌, ◌-ℤ◌}
use lib.Pow.{pow_mono}
use lib.Signed.{mag, lt_z, non_neg}
use mir.Facts.{to_z-of_z, to_z_pos, sfits_widen}
use mir.Syntax.{w32, w64}
use mir.Val.{SFits, to_z, of_z}
use Rattle.bits.specs.Signed.{signed, unsigned}
use Rattle.bits.proofs.Windows.{one_shifted}

-- ---- the definition's two cases

pub signed_pos : (w n : ℕ) → n * 2 < 2 ^ w → signed w n ≡ pos n
unfolding signed
signed_pos w n h = rw (lt-ltb (n * 2) (2 ^ w) h)

pub signed_neg : (w n : ℕ) → 2 ^ w ≤ n * 2 → n < 2 ^ w → signed w n ≡ negsuc (2 ^ w - suc n)
unfolding signed
signed_neg w n h small = rw (le-ltb (n * 2) (2 ^ w) h, lt-ltb n (2 ^ w) small)

-- ---- the ranges, and the two ways

pub signed_range : (w n : ℕ) → n < 2 ^ w → mag (signed w n) * 2 < 2 ^ w
signed_range w n small = go (dec_lt (n * 2) (2 ^ w))
  where
    go : Dec (n * 2 < 2 ^ w) → mag (signed w n) * 2 < 2 ^ w
    go (yes h) = rw (signed_pos w n h) h
    go (no h) = rw (signed_neg w n (omega arith) small) (omega arith)

pub unsigned_range : (w : ℕ) (z : ℤ) → mag z * 2 < 2 ^ w → unsigned w z < 2 ^ w
unfolding unsigned
unsigned_range w (pos n) h = omega arith
unsigned_range w (negsuc n) h = omega arith

pub unsigned_signed : (w n : ℕ) → n < 2 ^ w → unsigned w (signed w n) ≡ n
unfolding unsigned
unsigned_signed w n small = go (dec_lt (n * 2) (2 ^ w))
  where
    go : Dec (n * 2 < 2 ^ w) → unsigned w (signed w n) ≡ n
    go (yes h) = rw (signed_pos w n h)
    go (no h) = rw (signed_neg w n (omega arith) small) (omega arith)

pub even : (w : ℕ) → 1 ≤ w → 2 ^ w ≡ 2 ^ (w - 1) * 2
even w wide =
    let e : w ≡ suc (w - 1) = omega arith in
    ap (λ (k : ℕ). 2 ^ k) e ∙ pow-suc 2 (w - 1)

pub signed_unsigned : (w : ℕ) (z : ℤ) → 1 ≤ w → mag z * 2 < 2 ^ w → signed w (unsigned w z) ≡ z
unfolding unsigned
signed_unsigned w (pos n) wide h = signed_pos w n h
signed_unsigned w (negsuc n) wide h =
    signed_neg w (2 ^ w - suc n) (omega (arith, even w wide)) (omega arith) ∙ ap negsuc (omega arith)

-- ---- to w bits: 2 ^ w is added, and what reaches it taken off again

unfoldable pub lifted : ℕ → ℤ → ℕ
lifted w (pos n) = n + 2 ^ w
lifted w (negsuc n) = 2 ^ w - suc n

lift : (w : ℕ) (z : ℤ) → 1 ≤ w → mag z * 2 < 2 ^ w → z +ℤ pos (2 ^ w) ≡ pos (lifted w z)
unfolding lifted
lift w (pos n) wide h = refl
lift w (negsuc n) wide h = rw (le-ltb (2 ^ w) (suc n) (omega (arith, even w wide)))

pub lifted_lt : (w : ℕ) (z : ℤ) → w ≤ 32 → mag z * 2 < 2 ^ w → lifted w z < 2 ^ 33
unfolding lifted
lifted_lt w (pos n) narrow h = omega (arith, pow_mono narrow)
lifted_lt w (negsuc n) narrow h = omega (arith, pow_mono narrow)

pub lifted_mod : (w : ℕ) (z : ℤ) → mag z * 2 < 2 ^ w → lifted w z % 2 ^ w ≡ unsigned w z
unfolding lifted unsigned
lifted_mod w (pos n) h = add-mod_right n (2 ^ w) ∙ mod-eq_of_lt (omega arith)
lifted_mod w (negsuc n) h = mod-eq_of_lt (omega arith)

-- the sum that code makes
pub lifts :
    (w : ℕ) (z : ℤ) → SFits w32 z → 1 ≤ w → w ≤ 32 → mag z * 2 < 2 ^ w
    → to_z w64 (of_z w64 (to_z w32 (of_z w32 z))) +ℤ to_z w64 (1 * 2 ^ w % 2 ^ 64) ≡ pos (lifted w z)
lifts w z fits wide narrow h =
    let room : 2 ^ w < 2 ^ 63 = omega (arith, pow_mono narrow) in
    rw (to_z-of_z fits, to_z-of_z (sfits_widen {w' = w64} tt fits), one_shifted w (omega arith), to_z_pos w64 room) (lift w z wide h)

-- ---- a magnitude, by the sign

pub below_zero : (z : ℤ) → lt_z z (pos 0) ≡ true → negsuc 0 -ℤ z ≡ pos (mag z)
below_zero (pos n) e = absurd (omega (arith, ltb-true n 0 e))
below_zero (negsuc n) e = rw (le-ltb (suc n) 1 (omega arith)) (ap pos (omega arith))

pub from_zero : (z : ℤ) → lt_z z (pos 0) ≡ false → T (non_neg z) × (nat_abs z ≡ mag z)
from_zero (pos n) e = (tt, refl)
from_zero (negsuc n) e = absurd (false≢true cc)
