-- `matching::fits::cells::slot` meets its contract. The loop's invariant: how far the rows fit is told by the satellites that are left, with the strips from the
-- n-th on, chosen by the marks that are left. Assumes nothing.
use Rattle.bits.proofs.Words.{◌≡◌, refl, sym, ap, ◌∙◌, List, ◌∷◌, ◌++◌, ℕ, suc, ◌+◌, ◌-◌, ◌*◌, ◌%◌, ◌^◌, ◌≤◌, ◌<◌, add-one, arith, rules, length, get_or, drop}
use native.Mathlib.Nat.{mod-lt}
use lib.Count.{count_leading_zeros}
use Rattle.body.proofs.Groups.{striped_length, striped_nil, striped_next}
use Rattle.body.proofs.Marks.{Moved, moved_start, moved_next, moved_end}
use Rattle.body.proofs.Slots.{Next, next, next_in, none_in}
use Rattle.body.proofs.Walking.{chosen_nil, chosen_set, chosen_clear}
use Rattle.body.specs.Chosen.{cells_in, striped, chosen_lines}
use Rattle.format.specs.Messages.{cell_lines}
use Rattle.format.specs.Rows.{Column, Line}
use Rattle.holding.specs.Held.{satellites_in}
use Rattle.rows.specs.Shapes.{columns_in}
use Rattle.matching.proofs.Matching.{Tests, tests_start, tests_by, call_fits, call_fails, tests_end}
use Rattle.matching.proofs.Passing.{strips_go_on, strips_stop}
use Rattle.matching.proofs.fits.cells.slot.Lts.{then-marks-ge-FIRST+in-To, else-marks-ge-FIRST}
use Rattle.matching.proofs.fits.cells.slot.Statement.{statement}
use Rattle.matching.proofs.fits.cells.slot.Tie as tie

abbrev invariant-loop-left : tie.invariant-loop-left
invariant-loop-left id word strips rows s left₀ marks₀ n₀ k₀ left marks n k =
    (left < 2 ^ 64) × (marks < 2 ^ 64) × (n + length (satellites_in 64 id left) ≡ length (satellites_in 64 id word))
    × Moved marks₀ (length (satellites_in 64 id word)) (length (satellites_in 64 id left)) marks
    × Tests (chosen_lines marks₀ (striped (columns_in s) (satellites_in 64 id word) strips)) rows k₀ (chosen_lines marks (striped (columns_in s) (satellites_in 64 id left) (drop n strips))) k

abbrev decreases-loop-left : tie.decreases-loop-left
decreases-loop-left id word strips rows s left₀ marks₀ n₀ k₀ left marks n k = left

module _ (c : tie.In-loop-left invariant-loop-left decreases-loop-left) where
  abbrev x : tie.Start invariant-loop-left decreases-loop-left
  x = c.before.before.before.before

  abbrev left : ℕ
  left = c.loop-left.left

  abbrev marks : ℕ
  marks = c.loop-left.marks

  abbrev n : ℕ
  n = c.loop-left.n

  abbrev columns : ℕ → List Column
  columns = columns_in x.args.tested.shape

  -- the satellite that comes next, and those behind it, which have strips
  module _ (rest : ℕ) (e : rest ≡ left - 2 ^ (63 - count_leading_zeros 64 left)) where
    fewer : Next left rest
    fewer = next left rest c.loop-left-test.true c.loop-left.invariant.0 e

    all_sats : satellites_in 64 x.args.id left ≡ record { system = x.args.id; number = suc (count_leading_zeros 64 left) } ∷ satellites_in 64 x.args.id rest
    all_sats = next_in left rest c.loop-left-test.true c.loop-left.invariant.0 e x.args.id

    one_less : n + 1 + length (satellites_in 64 x.args.id rest) ≡ length (satellites_in 64 x.args.id x.args.word)
    one_less = omega (arith, c.loop-left.invariant.2, ap length all_sats)

  inside : n < length x.args.strips.now
  inside = omega (arith, one_less _ refl, x.requires.0)

  -- the lines of this satellite, and those of the satellites behind it
  abbrev here : ℕ → List Line
  here number = cell_lines columns (cells_in 64 (record { system = x.args.id; number = number }) (get_or x.args.strips.now n 0 * 2 ^ 48 % 2 ^ 64))

  abbrev behind : ℕ → List (List Line)
  behind rest = striped columns (satellites_in 64 x.args.id rest) (drop (suc n) x.args.strips.now)

  all_left : (number rest : ℕ) → number ≡ suc (count_leading_zeros 64 left) → rest ≡ left - 2 ^ (63 - count_leading_zeros 64 left)
      → striped columns (satellites_in 64 x.args.id left) (drop n x.args.strips.now) ≡ here number ∷ behind rest
  all_left number rest place e =
      rw place (striped_next columns _ _ x.args.strips.now n inside (c.shared_slice_known-1.given n).fits (all_sats rest e))

  chosen : (number rest : ℕ) → number ≡ suc (count_leading_zeros 64 left) → rest ≡ left - 2 ^ (63 - count_leading_zeros 64 left) → 2 ^ 63 ≤ marks
      → chosen_lines marks (striped columns (satellites_in 64 x.args.id left) (drop n x.args.strips.now)) ≡ here number ++ chosen_lines (marks * 2 ^ 1 % 2 ^ 64) (behind rest)
  chosen number rest place e set = ap (chosen_lines marks) (all_left number rest place e) ∙ chosen_set marks (here number) (behind rest) set c.loop-left.invariant.1

  passed : (rest : ℕ) → rest ≡ left - 2 ^ (63 - count_leading_zeros 64 left) → marks < 2 ^ 63
      → chosen_lines marks (striped columns (satellites_in 64 x.args.id left) (drop n x.args.strips.now)) ≡ chosen_lines (marks * 2 ^ 1 % 2 ^ 64) (behind rest)
  passed rest e clear = ap (chosen_lines marks) (all_left _ rest refl e) ∙ chosen_clear marks _ (behind rest) clear

number : (c : tie.After-first-number invariant-loop-left decreases-loop-left) → c.first-number.result + 1 ≡ suc (count_leading_zeros 64 (left c.before.before))
number c = omega (arith, c.first-number.ensures)

fails : tie.Need-returns-in_default invariant-loop-left decreases-loop-left
fails c =
    let t = c.before in
    let f = t.before.before in
    let h = f.before in
    let p = h.before in
    strips_stop _ _ _ _
    (call_fails p.loop-left.invariant.4 (here p (f.first-number.result + 1)) _ (chosen p (f.first-number.result + 1) _ (number f) refl (omega (arith, h.if-marks-ge-FIRST.true))) t.satellite-far.result t.satellite-far.ensures c.in_default.is)

loop-again : tie.Need-loop-left-preserved invariant-loop-left decreases-loop-left
loop-again c =
    let p = c.before.before in
    let w = p.loop-left.invariant.4 in
    let r = c.rest-left.result in
    let e = c.rest-left.ensures in (
      omega (arith, (fewer p r e).fewer, p.loop-left.invariant.0),
      mod-lt _ (omega arith),
      one_less p r e,
      moved_next _ (ap length (all_sats p r e)) p.loop-left.invariant.3,
      rw (add-one (n p))
          (elim c.if-marks-ge-FIRST.branch [
            | then-marks-ge-FIRST+in-To t ↦
                let f : tie.After-first-number invariant-loop-left decreases-loop-left = record { before = record { before = p; if-marks-ge-FIRST = t.if-marks-ge-FIRST }; first-number = t.first-number } in
                rw t.k-is (call_fits w (here p (f.first-number.result + 1)) _ (chosen p (f.first-number.result + 1) r (number f) e (omega (arith, t.if-marks-ge-FIRST.true))) t.satellite-far.result t.satellite-far.ensures t.in-To.next t.in-To.is)
            | else-marks-ge-FIRST t ↦ rw t.k-is (tests_by w (passed p r e (omega (arith, t.if-marks-ge-FIRST.false))))
          ]),
    )

pub slot_spec : {M : Type 1} → statement M
slot_spec =
    tie.close
    (tie.spec invariant-loop-left decreases-loop-left (λ c. (omega arith, omega arith, omega arith, moved_start c.args.tested.chosen _ (omega arith), tests_start c.requires.3)) (λ c κs. search rules)
    (λ c. omega (arith, (fewer c.before.before _ refl).inside, c.first-number.ensures)) (λ c. omega (arith, inside c.before.before)) (λ c. omega (arith, inside c.before.before.before))
    (λ c. omega (arith, c.shared_slice_known-then-marks-ge-FIRST-1.given (n c.before.before.before)))
    (λ c κs. let f = c.before in let p = f.before.before in (omega (arith, (fewer p _ refl).inside, f.first-number.ensures), (x p).requires.1, (x p).requires.2, p.loop-left.invariant.4.within))
    (λ c. search rules) (λ c. search rules) fails (λ c κs. search rules) (λ c. omega (arith, inside c.before.before))
    (λ c. (fewer c.before.before c.rest-left.result c.rest-left.ensures).fewer) loop-again
    (λ c.
    let l = c.loop-left in
    let y = c.args in
    let none = none_in y.id (omega arith) in
    let all = striped_length (columns_in y.tested.shape) (satellites_in 64 y.id y.word) y.strips.now c.requires.0 in
    strips_go_on _ _ _ _ (tests_end l.invariant.4 (ap (chosen_lines l.marks) (striped_nil _ (drop l.n y.strips.now) none) ∙ chosen_nil l.marks)) (omega (arith, l.invariant.2, ap length none, all))
    (moved_end (ap length none) l.invariant.3 ∙ ap (λ (m : ℕ). y.tested.chosen * 2 ^ m % 2 ^ 64) (sym all))))
