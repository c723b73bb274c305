-- The tests of a head's number by its 32 bits. Assumes nothing.
use Rattle.bits.proofs.Words.{◌≡◌, refl, Bool, true, false, ℕ, suc, ◌-◌, ◌*◌, ◌^◌, ◌≤◌, ◌<◌, arith, eqb, ltb, ℤ, pos}
use mathlib.Core.Bool.{false≢true}
use borrow.Author.Tests.{ltb-true, le-ltb, eq-eqb, ne_eqb, eqb-true, eqb-false}
use lib.IntN.{negsuc}
use lib.Pow.{pow_mono}
use lib.Signed.{mag}
use mir.Facts.{to_z-of_z}
use mir.Syntax.{w32}
use mir.Val.{SFits, of_z, to_z}
use Rattle.bits.specs.Signed.{unsigned}
use Rattle.format.specs.Rows.{absent}
use Rattle.format.specs.Same.{sameℤ}
use Rattle.fitting.specs.FitHeads.{number_fits}
use Rattle.pens.specs.Numbers.{word_of}

-- it is one of 32 bits
pub halved : {v : ℤ} → SFits w32 v → mag v * 2 < 2 ^ 32
halved {v} fits = omega (arith, fits.sfits)

abbrev pub is_absent : ℤ → Bool
is_absent z = sameℤ z absent

-- what is found of one that stands in a struct
pub of_struct : {A : Type 0} (f : ℤ → A) (z : ℤ) → mag z < 2 ^ 31 → {r : A} → r ≡ f (to_z w32 (of_z w32 z)) → r ≡ f z
of_struct f z small e = rw (to_z-of_z {w = w32} {z = z} (record { sfits = small })) at e

-- one that fits is what its bits say
pub fits_small : (w : ℕ) (v : ℤ) → number_fits w v ≡ true → word_of v < 2 ^ w
unfolding word_of unsigned number_fits
fits_small w (pos n) fits = ltb-true n (2 ^ w) fits
fits_small w (negsuc n) fits = absurd (false≢true fits)

pub word_small : (v : ℤ) → SFits w32 v → word_of v < 2 ^ 32
unfolding word_of unsigned
word_small (pos n) fits = let half : n * 2 < 2 ^ 32 = halved fits in omega arith
word_small (negsuc n) fits = omega arith

pub word_fits : (v : ℤ) → SFits w32 v → (w : ℕ) → w ≤ 31 → ltb (word_of v) (2 ^ w) ≡ number_fits w v
unfolding word_of unsigned number_fits
word_fits (pos n) fits w few = refl
word_fits (negsuc n) fits w few =
    let most : 2 ^ w ≤ 2 ^ 31 = pow_mono few in
    let half : n * 2 < 2 ^ 32 = halved fits in
    le-ltb (2 ^ 32 - suc n) (2 ^ w) (omega arith)

pub word_absent : (v : ℤ) → SFits w32 v → eqb (word_of v) 4294934528 ≡ sameℤ v absent
unfolding word_of unsigned sameℤ
word_absent (pos n) fits = let half : n * 2 < 2 ^ 32 = halved fits in ne_eqb n 4294934528 (λ e. omega arith)
word_absent (negsuc n) fits =
    let half : n * 2 < 2 ^ 32 = halved fits in
    go (eqb n 32767) refl half
  where
    go : (b : Bool) → eqb n 32767 ≡ b → n * 2 < 2 ^ 32 → eqb (2 ^ 32 - suc n) 4294934528 ≡ b
    go true same half = eq-eqb (2 ^ 32 - suc n) 4294934528 (omega (arith, eqb-true n 32767 same))
    go false other half = ne_eqb (2 ^ 32 - suc n) 4294934528 (λ e. eqb-false n 32767 other (omega arith))

pub word_is : (v : ℤ) → SFits w32 v → (n : ℕ) → n ≤ 255 → eqb (word_of v) n ≡ sameℤ v (pos n)
unfolding word_of unsigned sameℤ
word_is (pos m) fits n few = refl
word_is (negsuc m) fits n few = let half : m * 2 < 2 ^ 32 = halved fits in ne_eqb (2 ^ 32 - suc m) n (λ e. omega arith)
