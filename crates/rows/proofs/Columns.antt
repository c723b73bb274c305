-- Columns as numbers: which column they are, their bounds, and that the sum, the mask and the difference give the column's value.
-- Assumes nothing.
use Rattle.bits.proofs.Words.{◌≡◌, refl, sym, ap, subst, Bool, true, false, cond, ℕ, zero, suc, ◌+◌, ◌-◌, ◌*◌, ◌%◌, ◌^◌, ◌≤◌, ◌<◌, arith, eqb, ℤ, pos}
use native.Mathlib.Nat.{add-zero, one-mul, mod-lt, mod-eq_of_lt, mod-add-mod, mod-eq-sub-mod}
use native.Mathlib.Decide.{dec_lt}
use borrow.Author.Tests.{lt-ltb, le-ltb, eq-eqb, ne_eqb, eqb-true, eqb-false}
use lib.Bits.{bit_and, and_mask, and_zero_r, and_le_r}
use lib.IntN.{negsuc, sub_ℕ, ◌-ℤ◌}
use lib.Pow.{pow_pos, pow_mono, pow-lt}
use lib.Signed.{mag}
use Rattle.bits.proofs.Complement.{even, signed_pos, signed_neg}
use Rattle.bits.specs.Signed.{signed}
use Rattle.format.specs.Rows.{Column, gap, plain, counts, width_of, value_of}
use Rattle.rows.specs.declared.shape.Column.{Column as CodeColumn}
use Rattle.rows.specs.Shapes.{column_for, column_of, Formed}

-- a column that numbers can be: a gap, or of 1 to 15 bits
pub data Fine : Column → Type 0 where
  fine_gap : Fine gap
  fine_plain : (w : ℕ) → 1 ≤ w → w ≤ 15 → Fine (plain w)
  fine_counts : (w : ℕ) → 1 ≤ w → w ≤ 15 → Fine (counts w)

-- ---- numbers and their column

pub width_of_lem : (c : CodeColumn) → width_of (column_of c) ≡ c.width
unfolding column_of width_of
width_of_lem c = go (eqb c.width 0) (eqb c.half 0) (eqb-true c.width 0)
  where
    go : (p q : Bool) → (p ≡ true → c.width ≡ 0) → width_of (cond p gap (cond q (plain c.width) (counts c.width))) ≡ c.width
    go true q e = sym (e refl)
    go false true e = refl
    go false false e = refl

pub gap_of : (c : CodeColumn) → c.width ≡ 0 → column_of c ≡ gap
unfolding column_of
gap_of c none = rw (eq-eqb c.width 0 none)

pub fine_of : (c : CodeColumn) → c.width ≤ 15 → Fine (column_of c)
unfolding column_of
fine_of c narrow = go (eqb c.width 0) (eqb c.half 0) (eqb-false c.width 0)
  where
    go : (p q : Bool) → (p ≡ false → c.width ≡ 0 → ⊥) → Fine (cond p gap (cond q (plain c.width) (counts c.width)))
    go true q e = fine_gap
    go false true e = let some : ¬ (c.width ≡ 0) = e refl in fine_plain c.width (omega arith) narrow
    go false false e = let some : ¬ (c.width ≡ 0) = e refl in fine_counts c.width (omega arith) narrow

pub column_back : {k : Column} → Fine k → column_of (column_for k) ≡ k
unfolding column_of column_for
column_back fine_gap = refl
column_back (fine_plain w some few) = rw (ne_eqb w 0 λ e. omega arith)
column_back (fine_counts w some few) = rw (ne_eqb w 0 λ e. omega arith, ne_eqb (2 ^ (w - 1)) 0 λ e. omega (arith, pow_pos (w - 1)))

pub width_for : (k : Column) → (column_for k).width ≡ width_of k
unfolding column_for width_of
width_for gap = refl
width_for (plain w) = refl
width_for (counts w) = refl

pub narrow_for : {k : Column} → Fine k → (column_for k).width ≤ 15
unfolding column_for
narrow_for fine_gap = omega arith
narrow_for (fine_plain w some few) = few
narrow_for (fine_counts w some few) = few

pub formed_for : {k : Column} → Fine k → Formed (column_for k)
formed_for fine = record { numbers = ap column_for (column_back fine); narrow = narrow_for fine }

-- 2 ^ w as a shift of 32 bits makes it
pub one_up : (w : ℕ) → w < 32 → 1 * 2 ^ w % 2 ^ 32 ≡ 2 ^ w
one_up w narrow = rw (one-mul (2 ^ w)) (mod-eq_of_lt (pow-lt narrow))

-- ---- bounds

pub record Bounded (c : CodeColumn) : Type 0 where
  pub half : c.half ≤ 2 ^ 15
  pub mask : c.mask < 2 ^ 15

bounded_for : {k : Column} → Fine k → Bounded (column_for k)
unfolding column_for
bounded_for fine_gap = record { half = omega arith; mask = omega arith }
bounded_for (fine_plain w some few) = record { half = omega arith; mask = omega (arith, pow_mono few, pow_pos w) }
bounded_for (fine_counts w some few) =
    let low : w - 1 ≤ 15 = omega arith in
    record { half = pow_mono low; mask = omega (arith, pow_mono few, pow_pos w) }

pub bounded : (c : CodeColumn) → Formed c → Bounded c
bounded c formed = subst (λ (d : CodeColumn). Bounded d) formed.numbers (bounded_for (fine_of c formed.narrow))

-- ---- the value

-- a difference of numbers
minus : (a b : ℕ) → pos a -ℤ pos b ≡ sub_ℕ a b
minus a zero = rw (le-ltb a 0 (omega arith)) (ap pos (omega arith))
minus a (suc b) = refl

-- half of 2 ^ w is added, modulo 2 ^ w, and taken off again
turned : (w n : ℕ) → 1 ≤ w → n < 2 ^ w → sub_ℕ ((n + 2 ^ (w - 1)) % 2 ^ w) (2 ^ (w - 1)) ≡ signed w n
turned w n wide small = go (dec_lt (n * 2) (2 ^ w))
  where
    go : Dec (n * 2 < 2 ^ w) → sub_ℕ ((n + 2 ^ (w - 1)) % 2 ^ w) (2 ^ (w - 1)) ≡ signed w n
    go (yes low) =
        let room : n + 2 ^ (w - 1) < 2 ^ w = omega (arith, even w wide) in
        rw (mod-eq_of_lt room, le-ltb (n + 2 ^ (w - 1)) (2 ^ (w - 1)) (omega arith), signed_pos w n low) (ap pos (omega arith))
    go (no high) =
        let over : 2 ^ w ≤ n + 2 ^ (w - 1) = omega (arith, even w wide) in
        let rest : n + 2 ^ (w - 1) - 2 ^ w ≡ n - 2 ^ (w - 1) = omega (arith, even w wide) in
        let low : n - 2 ^ (w - 1) < 2 ^ w = omega arith in
        let below : n - 2 ^ (w - 1) < 2 ^ (w - 1) = omega (arith, even w wide) in
        rw (mod-eq-sub-mod over, rest, mod-eq_of_lt low, lt-ltb (n - 2 ^ (w - 1)) (2 ^ (w - 1)) below, signed_neg w n (omega arith) small)
        (ap negsuc (omega (arith, even w wide)))

-- what the code computes of bits x
unfoldable pub computed : CodeColumn → ℕ → ℤ
computed c x = pos (bit_and (x + c.half) c.mask) -ℤ pos c.half

computed_for : {k : Column} (x : ℕ) → Fine k → computed (column_for k) x ≡ value_of k (x % 2 ^ (column_for k).width)
unfolding computed column_for value_of
computed_for x fine_gap = rw (and_zero_r (x + 32768))
computed_for x (fine_plain w some few) = rw (add-zero x, and_mask x w) (ap pos (omega arith))
computed_for x (fine_counts w some few) =
    rw (and_mask (x + 2 ^ (w - 1)) w, minus ((x + 2 ^ (w - 1)) % 2 ^ w) (2 ^ (w - 1)), ← (mod-add-mod x (2 ^ w) (2 ^ (w - 1))))
    (turned w (x % 2 ^ w) some (mod-lt x (pow_pos w)))

pub value_computed : (c : CodeColumn) (x : ℕ) → Formed c → computed c x ≡ value_of (column_of c) (x % 2 ^ c.width)
value_computed c x formed =
    subst (λ (d : CodeColumn). computed d x ≡ value_of (column_of c) (x % 2 ^ d.width)) formed.numbers
    (computed_for x (fine_of c formed.narrow))

-- ---- how large it is

pub masked_lt : (c : CodeColumn) (x : ℕ) → Formed c → bit_and (x + c.half) c.mask < 2 ^ 15
masked_lt c x formed = omega (arith, (bounded c formed).mask, and_le_r (x + c.half) c.mask)

sub_mag : (a b m : ℕ) → a < m → b ≤ m → mag (sub_ℕ a b) < m
sub_mag a b m ha hb = go (dec_lt a b)
  where
    go : Dec (a < b) → mag (sub_ℕ a b) < m
    go (yes h) = rw (lt-ltb a b h) (omega arith)
    go (no h) = rw (le-ltb a b (omega arith)) (omega arith)

pub value_small : (c : CodeColumn) (x : ℕ) → Formed c → mag (computed c x) < 2 ^ 15
unfolding computed
value_small c x formed =
    rw (minus (bit_and (x + c.half) c.mask) c.half) (sub_mag (bit_and (x + c.half) c.mask) c.half (2 ^ 15) (masked_lt c x formed) (bounded c formed).half)
