-- A value that fits its column: its bits as code makes them, and that they are so many. Assumes nothing.
use Rattle.bits.proofs.Words.{◌≡◌, refl, ◌∙◌, subst, true, ℕ, suc, ◌+◌, ◌-◌, ◌*◌, ◌^◌, ◌≤◌, ◌<◌, arith, ℤ, pos}
use mathlib.Core.Bool.{false≢true}
use native.Mathlib.Nat.{add-zero, mod-eq_of_lt, add-mod_right}
use borrow.Author.Tests.{ltb-true, leb-true, le-ltb}
use lib.Bits.{bit_and, and_mask, and_zero_r}
use lib.IntN.{negsuc, ◌+ℤ◌}
use lib.Pow.{pow_mono}
use Rattle.bits.proofs.Complement.{even}
use Rattle.bits.specs.Signed.{unsigned}
use Rattle.format.proofs.Sames.{sameℤ_sound}
use Rattle.format.specs.Rows.{Column, gap, plain, counts, absent, width_of}
use Rattle.rows.proofs.Columns.{Fine, fine_gap, fine_plain, fine_counts, fine_of, width_of_lem}
use Rattle.rows.specs.declared.shape.Column.{Column as CodeColumn}
use Rattle.rows.specs.Shapes.{column_for, column_of, Formed}
use Rattle.fitting.specs.Fits.{column_fits}

-- ---- as many bits as the column has

pub unsigned_small : (c : Column) (v : ℤ) → column_fits c v ≡ true → unsigned (width_of c) v < 2 ^ width_of c
unfolding column_fits width_of unsigned
unsigned_small gap v fits = rw (sameℤ_sound v absent fits) (omega arith)
unsigned_small (plain w) (pos n) fits = ltb-true n (2 ^ w) fits
unsigned_small (plain w) (negsuc n) fits = absurd (false≢true fits)
unsigned_small (counts w) (pos n) fits = omega (arith, ltb-true (n * 2) (2 ^ w) fits)
unsigned_small (counts w) (negsuc n) fits = omega (arith, leb-true (suc n * 2) (2 ^ w) fits)

-- ---- a value and half of what its column can mean

unfoldable pub raised : ℕ → ℤ → ℕ
raised h (pos n) = n + h
raised h (negsuc n) = h - suc n

-- what the sum and the mask of code come to
pub record Raises (c : CodeColumn) (v : ℤ) : Type 0 where
  pub sum : v +ℤ pos c.half ≡ pos (raised c.half v)
  pub low : raised c.half v < 2 ^ 17
  pub bits : bit_and (raised c.half v + c.half) c.mask ≡ unsigned c.width v

-- from half below zero on
sum_from : (h : ℕ) (v : ℤ) → (n : ℕ) → v ≡ negsuc n → n < h → v +ℤ pos h ≡ pos (raised h v)
unfolding raised
sum_from h v n e there = rw (e, le-ltb h (suc n) (omega arith))

raises_for : {k : Column} → Fine k → (v : ℤ) → column_fits k v ≡ true → Raises (column_for k) v
unfolding column_fits column_for raised unsigned
raises_for fine_gap v fits = rw (sameℤ_sound v absent fits) (record { sum = refl; low = omega arith; bits = and_zero_r 32768 })
raises_for (fine_plain w some few) (pos n) fits =
    let small : n < 2 ^ w = ltb-true n (2 ^ w) fits in
    record { sum = refl; low = omega (arith, pow_mono few); bits = rw (add-zero n, add-zero n, and_mask n w) (mod-eq_of_lt small) }
raises_for (fine_plain w some few) (negsuc n) fits = absurd (false≢true fits)
raises_for (fine_counts w some few) (pos n) fits =
    let small : n * 2 < 2 ^ w = ltb-true (n * 2) (2 ^ w) fits in
    let twice : n + 2 ^ (w - 1) + 2 ^ (w - 1) ≡ n + 2 ^ w = omega (arith, even w some) in
    record {
      sum = refl;
      low = omega (arith, pow_mono few, even w some);
      bits = rw (twice, and_mask (n + 2 ^ w) w) (add-mod_right n (2 ^ w) ∙ mod-eq_of_lt (omega arith));
    }
raises_for (fine_counts w some few) (negsuc n) fits =
    let small : suc n * 2 ≤ 2 ^ w = leb-true (suc n * 2) (2 ^ w) fits in
    let twice : 2 ^ (w - 1) - suc n + 2 ^ (w - 1) ≡ 2 ^ w - suc n = omega (arith, even w some) in
    record {
      sum = sum_from (2 ^ (w - 1)) (negsuc n) n refl (omega (arith, even w some));
      low = omega (arith, pow_mono few, even w some);
      bits = rw (twice, and_mask (2 ^ w - suc n) w) (mod-eq_of_lt (omega arith));
    }

pub raises : (c : CodeColumn) (v : ℤ) → Formed c → column_fits (column_of c) v ≡ true → Raises c v
raises c v formed fits = subst (λ (d : CodeColumn). Raises d v) formed.numbers (raises_for (fine_of c formed.narrow) v fits)

pub bits_small : (c : CodeColumn) (v : ℤ) → column_fits (column_of c) v ≡ true → unsigned c.width v < 2 ^ c.width
bits_small c v fits = rw width_of_lem at (unsigned_small (column_of c) v fits)
