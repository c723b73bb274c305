-- `body::cells::slot` meets its contract. The loop's invariant: the rows of the satellites that are left, with the strips from the n-th on, chosen by the marks
-- that are left, are still to come. Assumes nothing.
use Rattle.bits.proofs.Words.{◌≡◌, refl, ap, List, ◌∷◌, ℕ, suc, ◌+◌, ◌-◌, ◌*◌, ◌%◌, ◌^◌, ◌≤◌, ◌<◌, add-one, arith, rules, length, get_or, drop}
use lib.Count.{count_leading_zeros}
use Rattle.format.specs.Messages.{cell_lines}
use Rattle.format.specs.Rows.{Column, Line}
use Rattle.holding.specs.Held.{satellites_in}
use Rattle.rows.specs.Shapes.{columns_in}
use Rattle.body.specs.Chosen.{cells_in, striped, chosen_lines}
use Rattle.body.proofs.Going.{Part, going_call}
use Rattle.body.proofs.Groups.{striped_nil, striped_next}
use Rattle.body.proofs.Slots.{Next, next, next_in, none_in}
use Rattle.body.proofs.Walking.{Walk, walk_start, walk_on_lem, walk_here_lem, walk_past, walk_end}
use Rattle.body.proofs.cells.slot.Lts.{then-marks-ge-FIRST, else-marks-ge-FIRST}
use Rattle.body.proofs.cells.slot.Statement.{statement}
use Rattle.body.proofs.cells.slot.Tie as tie

abbrev invariant-loop-left : tie.invariant-loop-left
invariant-loop-left id word strips bytes rows₀ s left₀ marks₀ n₀ k₀ place₀ rows left marks n k place =
    (left < 2 ^ 64) × (n + length (satellites_in 64 id left) ≤ length strips)
    × Walk bytes marks₀ (striped (columns_in s) (satellites_in 64 id word) strips) place₀ rows₀ (striped (columns_in s) (satellites_in 64 id left) (drop n strips)) marks k place rows

abbrev decreases-loop-left : tie.decreases-loop-left
decreases-loop-left id word strips bytes rows₀ s left₀ marks₀ n₀ k₀ place₀ rows left marks n k place = left

module _ (c : tie.In-loop-left invariant-loop-left decreases-loop-left) where
  abbrev x : tie.Start invariant-loop-left decreases-loop-left
  x = c.before.before.before.before.before

  abbrev left : ℕ
  left = c.loop-left.left

  abbrev n : ℕ
  n = c.loop-left.n

  abbrev columns : ℕ → List Column
  columns = columns_in x.args.wanted.shape

  -- the satellite that comes next, and those behind it, which have strips
  module _ (rest : ℕ) (e : rest ≡ left - 2 ^ (63 - count_leading_zeros 64 left)) where
    fewer : Next left rest
    fewer = next left rest c.loop-left-test.true c.loop-left.invariant.0 e

    all_sats : satellites_in 64 x.args.id left ≡ record { system = x.args.id; number = suc (count_leading_zeros 64 left) } ∷ satellites_in 64 x.args.id rest
    all_sats = next_in left rest c.loop-left-test.true c.loop-left.invariant.0 e x.args.id

    again : (rest < 2 ^ 64) × (n + 1 + length (satellites_in 64 x.args.id rest) ≤ length x.args.strips.now)
    again = (omega (arith, fewer.fewer, c.loop-left.invariant.0), omega (arith, c.loop-left.invariant.1, ap length all_sats))

  inside : n < length x.args.strips.now
  inside = omega (arith, (again _ refl).1)

  -- the lines of this satellite, and those of the satellites behind it
  abbrev here : ℕ → List Line
  here number = cell_lines columns (cells_in 64 (record { system = x.args.id; number = number }) (get_or x.args.strips.now n 0 * 2 ^ 48 % 2 ^ 64))

  abbrev behind : ℕ → List (List Line)
  behind rest = striped columns (satellites_in 64 x.args.id rest) (drop (suc n) x.args.strips.now)

  all_left : (number rest : ℕ) → number ≡ suc (count_leading_zeros 64 left) → rest ≡ left - 2 ^ (63 - count_leading_zeros 64 left)
      → striped columns (satellites_in 64 x.args.id left) (drop n x.args.strips.now) ≡ here number ∷ behind rest
  all_left number rest place e =
      rw place (striped_next columns _ _ x.args.strips.now n inside (c.shared_slice_known-1.given n).fits (all_sats rest e))

-- it is chosen
call : (c : tie.After-first-number invariant-loop-left decreases-loop-left) (rest : ℕ)
    → let r = c.before.before in
    let y = (x r).args in
    let s = r.loop-left in
    rest ≡ left r - 2 ^ (63 - count_leading_zeros 64 (left r))
    → Part y.bytes.now (chosen_lines y.wanted.chosen (striped (columns r) (satellites_in 64 y.id y.word) y.strips.now)) y.wanted.at y.rows.now (here r (c.first-number.result + 1))
    (chosen_lines (s.marks * 2 ^ 1 % 2 ^ 64) (behind r rest)) s.k s.place s.rows
call c rest e =
    let r = c.before.before in
    going_call (here r (c.first-number.result + 1)) _
    (walk_here_lem r.loop-left.invariant.2 _ _ (all_left r (c.first-number.result + 1) rest (omega (arith, c.first-number.ensures)) e) (omega (arith, c.if-marks-ge-FIRST.true)))

start : (c : tie.After-shared_slice_known-then-marks-ge-FIRST-1 invariant-loop-left decreases-loop-left) → let s = c.loop-left in s.k ≤ length s.rows
start c = (call c.before _ refl).start

loop-again : tie.Need-loop-left-preserved invariant-loop-left decreases-loop-left
loop-again c =
    let r = c.before.before in
    let w = r.loop-left.invariant.2 in
    let e = c.rest-left.ensures in (
      (again r c.rest-left.result e).0,
      (again r c.rest-left.result e).1,
      rw (add-one (n r))
          (elim c.if-marks-ge-FIRST.branch [
            | then-marks-ge-FIRST t ↦ rw (t.rows-is, t.k-is, t.place-is) (walk_on_lem w _ _ (all_left r _ _ refl e) ((call (record { before = record { before = r; if-marks-ge-FIRST = t.if-marks-ge-FIRST }; first-number = t.first-number }) _ e).written _ _ t.satellite-end.ensures))
            | else-marks-ge-FIRST t ↦ rw (t.rows-is, t.k-is, t.place-is) (walk_past w _ _ (all_left r _ _ refl e) (omega (arith, t.if-marks-ge-FIRST.false)))
          ]),
    )

returns : tie.Need-returns invariant-loop-left decreases-loop-left
returns c =
    let x = c.args in
    let s = c.loop-left in
    walk_end s.invariant.2 (striped_nil (columns_in x.wanted.shape) (drop s.n x.strips.now) (none_in x.id (omega arith)))

pub slot_spec : {M : Type 1} → statement M
slot_spec =
    tie.close
    (tie.spec invariant-loop-left decreases-loop-left (λ c. let s = c in (omega arith, omega (arith, s.requires.0), walk_start (omega arith) s.requires.1.room))
    (λ c κs. search rules) (λ c. omega (arith, (fewer c.before.before _ refl).inside, c.first-number.ensures)) (λ c. omega (arith, inside c.before.before))
    (λ c. omega (arith, inside c.before.before.before)) (λ c. omega (arith, c.shared_slice_known-then-marks-ge-FIRST-1.given (n c.before.before.before)))
    (λ c. omega (arith, start c)) start start (λ c. search rules)
    (λ c κs. let f = c.before.before in let r = f.before.before in (omega (arith, (fewer r _ refl).inside, f.first-number.ensures), (x r).requires.1.formed, (x r).requires.1.kind, (call f _ refl).room))
    (λ c. let g = (call c.before.before.before.before.before _ refl).written _ _ c.satellite-end.ensures in omega (arith, g.count, g.few))
    (λ c κs. search rules) (λ c. omega (arith, inside c.before.before)) (λ c. (fewer c.before.before c.rest-left.result c.rest-left.ensures).fewer) loop-again
    (λ c. c.loop-left.invariant.2.going.same) returns)
