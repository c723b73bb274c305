-- A value fits a column just where half more than it, as 32 bits, is a number of the column's bits: the test that code makes.
-- Assumes nothing.
use Rattle.bits.proofs.Words.{◌≡◌, sym, ◌∙◌, subst, Bool, ℕ, suc, ◌+◌, ◌-◌, ◌*◌, ◌%◌, ◌^◌, ◌≤◌, ◌<◌, arith, eqb, ltb, leb, ℤ, pos}
use native.Mathlib.Decide.{dec_lt}
use borrow.Author.Tests.{leb-true, eqb-true, lt-ltb, le-ltb, le-leb, lt-leb, eq-eqb}
use lib.IntN.{negsuc}
use lib.Pow.{pow_pos, pow_mono}
use lib.Signed.{mag}
use Rattle.bits.proofs.Complement.{even}
use Rattle.bits.specs.Signed.{unsigned}
use Rattle.format.proofs.Sames.{same_test}
use Rattle.format.specs.Rows.{Column}
use Rattle.format.specs.Same.{sameℤ}
use Rattle.rows.proofs.Columns.{Fine, fine_gap, fine_plain, fine_counts, fine_of}
use Rattle.rows.specs.declared.shape.Column.{Column as CodeColumn}
use Rattle.rows.specs.Shapes.{column_for, column_of, Formed}
use Rattle.fitting.specs.Fits.{column_fits}

-- what code tells by a column's numbers
abbrev pub told_by : CodeColumn → ℤ → Bool
told_by c v = leb ((unsigned 32 v + c.half) % 2 ^ 32) c.mask

-- two tests of numbers are the same
ltb_leb : (a b c d : ℕ) → (a < b → c ≤ d) → (b ≤ a → d < c) → leb c d ≡ ltb a b
ltb_leb a b c d below above = go (dec_lt a b)
  where
    go : Dec (a < b) → leb c d ≡ ltb a b
    go (yes h) = le-leb c d (below h) ∙ sym (lt-ltb a b h)
    go (no h) = let past : b ≤ a = omega arith in lt-leb c d (above past) ∙ sym (le-ltb a b past)

told_for : {k : Column} → Fine k → (v : ℤ) → mag v < 2 ^ 31 → told_by (column_for k) v ≡ column_fits k v
unfolding unsigned column_for column_fits sameℤ
told_for fine_gap (pos n) small = lt-leb ((n + 32768) % 2 ^ 32) 0 (omega arith)
told_for fine_gap (negsuc n) small =
    let sum : ℕ = 2 ^ 32 - suc n + 32768 in
    same_test (leb (sum % 2 ^ 32) 0) (eqb n 32767) (λ e. eq-eqb n 32767 (omega (arith, leb-true (sum % 2 ^ 32) 0 e))) (λ e. le-leb (sum % 2 ^ 32) 0 (omega (arith, eqb-true n 32767 e)))
told_for (fine_plain w some few) (pos n) small =
    ltb_leb n (2 ^ w) ((n + 0) % 2 ^ 32) (2 ^ w - 1) (λ h. omega (arith, pow_mono few)) (λ h. omega (arith, pow_pos w, pow_mono few))
told_for (fine_plain w some few) (negsuc n) small = lt-leb ((2 ^ 32 - suc n + 0) % 2 ^ 32) (2 ^ w - 1) (omega (arith, pow_mono few, pow_pos w))
told_for (fine_counts w some few) (pos n) small =
    ltb_leb (n * 2) (2 ^ w) ((n + 2 ^ (w - 1)) % 2 ^ 32) (2 ^ w - 1) (λ h. omega (arith, even w some, pow_mono few)) (λ h. omega (arith, even w some, pow_pos w, pow_mono few))
told_for (fine_counts w some few) (negsuc n) small =
    let sum : ℕ = 2 ^ 32 - suc n + 2 ^ (w - 1) in
    same_test (leb (sum % 2 ^ 32) (2 ^ w - 1)) (leb (suc n * 2) (2 ^ w))
    (λ e. le-leb (suc n * 2) (2 ^ w) (omega (arith, leb-true (sum % 2 ^ 32) (2 ^ w - 1) e, even w some, pow_pos w, pow_mono few)))
    (λ e. le-leb (sum % 2 ^ 32) (2 ^ w - 1) (omega (arith, leb-true (suc n * 2) (2 ^ w) e, even w some, pow_pos w, pow_mono few)))

pub told : (c : CodeColumn) → Formed c → (v : ℤ) → mag v < 2 ^ 31 → told_by c v ≡ column_fits (column_of c) v
told c formed v small = subst (λ (d : CodeColumn). told_by d v ≡ column_fits (column_of c) v) formed.numbers (told_for (fine_of c formed.narrow) v small)

-- the bits of a number are no more than it can have
pub unsigned_lt : (v : ℤ) → mag v < 2 ^ 31 → unsigned 32 v < 2 ^ 32
unfolding unsigned
unsigned_lt (pos n) small = omega arith
unsigned_lt (negsuc n) small = omega arith
