-- `matching::fits::satellites::slot` meets its contract. The loop's invariant: how far the rows fit is told by the satellites that are left, chosen by the marks
-- that are left. Assumes nothing.
use Rattle.bits.proofs.Words.{◌≡◌, refl, ap, ◌∙◌, List, [], ◌∷◌, ℕ, suc, ◌+◌, ◌-◌, ◌*◌, ◌%◌, ◌^◌, ◌≤◌, ◌<◌, arith, rules, length, pos}
use native.Mathlib.Nat.{mod-lt}
use lib.Count.{count_leading_zeros}
use Rattle.body.proofs.Groups.{alone_nil, alone_next}
use Rattle.body.proofs.Keys.{key}
use Rattle.body.proofs.Marks.{Moved, moved_start, moved_next, moved_end}
use Rattle.body.proofs.Slots.{Next, next, next_in, none_in}
use Rattle.body.proofs.Walking.{chosen_nil, chosen_set, chosen_clear}
use Rattle.body.specs.Chosen.{alone, chosen_lines}
use Rattle.format.specs.Messages.{satellite_lines}
use Rattle.format.specs.Rows.{Column, Line, absent}
use Rattle.holding.specs.Held.{satellites_in}
use Rattle.rows.specs.Shapes.{columns_of, columns_in}
use Rattle.matching.specs.declared.fits.satellites.Passed.{Passed}
use Rattle.matching.specs.Matching.{passed_at}
use Rattle.matching.proofs.Lines.{tested_by_lem, own_lines, own_columns, own_formed}
use Rattle.matching.proofs.Matching.{fits_at, Tests, tests_start, tests_by, row_fits_lem, row_fails, tests_end}
use Rattle.matching.proofs.Passing.{goes_on, stops}
use Rattle.matching.proofs.fits.satellites.slot.Lts.{then-marks-ge-FIRST+else-not-fits, else-marks-ge-FIRST}
use Rattle.matching.proofs.fits.satellites.slot.Statement.{statement}
use Rattle.matching.proofs.fits.satellites.slot.Tie as tie

-- the lines of some satellites, of this system's shape
abbrev lines : ℕ → ℕ → List Column → List (List Line)
lines id word columns = alone (λ _. columns) (satellites_in 64 id word)

abbrev invariant-loop-left : tie.invariant-loop-left
invariant-loop-left id word chosen rows from own system left₀ marks₀ k₀ left marks k =
    (left < 2 ^ 64) × (marks < 2 ^ 64) × Moved chosen (length (lines id word (columns_of own))) (length (lines id left (columns_of own))) marks
    × Tests (chosen_lines chosen (lines id word (columns_of own))) rows from (chosen_lines marks (lines id left (columns_of own))) k

abbrev decreases-loop-left : tie.decreases-loop-left
decreases-loop-left id word chosen rows from own system left₀ marks₀ k₀ left marks k = left

module _ (c : tie.In-loop-left invariant-loop-left decreases-loop-left) where
  abbrev start : tie.Start invariant-loop-left decreases-loop-left
  start = c.before.before.before

  abbrev id : ℕ
  id = start.args.id

  abbrev left : ℕ
  left = c.loop-left.left

  abbrev columns : List Column
  columns = columns_of c.shape_in-own.result

  -- the next satellite's line
  abbrev line : Line
  line = record { keys = pos id ∷ pos (suc (count_leading_zeros 64 left)) ∷ absent ∷ []; shape = columns }

  -- and those that may come behind it
  module _ (rest : ℕ) (e : rest ≡ left - 2 ^ (63 - count_leading_zeros 64 left)) where
    fewer : Next left rest
    fewer = next left rest c.loop-left-test.true c.loop-left.invariant.0 e

    both : lines id left columns ≡ (line ∷ []) ∷ lines id rest columns
    unfolding satellite_lines
    both = alone_next (λ _. columns) _ _ (next_in left rest c.loop-left-test.true c.loop-left.invariant.0 e id)

    abbrev behind : List Line
    behind = chosen_lines (c.loop-left.marks * 2 ^ 1 % 2 ^ 64) (lines id rest columns)

    chosen : 2 ^ 63 ≤ c.loop-left.marks → chosen_lines c.loop-left.marks (lines id left columns) ≡ line ∷ behind
    chosen set = ap (chosen_lines c.loop-left.marks) both ∙ chosen_set c.loop-left.marks (line ∷ []) (lines id rest columns) set c.loop-left.invariant.1

    passed : c.loop-left.marks < 2 ^ 63 → chosen_lines c.loop-left.marks (lines id left columns) ≡ behind
    passed clear = ap (chosen_lines c.loop-left.marks) both ∙ chosen_clear c.loop-left.marks (line ∷ []) (lines id rest columns) clear

near : (c : tie.After-first-number invariant-loop-left decreases-loop-left) → c.first-number.result + 1 < 2 ^ 31
near c = omega (arith, (fewer c.before.before _ refl).inside, c.first-number.ensures)

tested : (c : tie.After-fits invariant-loop-left decreases-loop-left) → let p = c.before.before.before in c.fits.result ≡ fits_at (line p) (start p).args.rows.now p.loop-left.k
tested c =
    let f = c.before in
    let p = f.before.before in
    let number = key (f.first-number.result + 1) (suc (count_leading_zeros 64 (left p))) (near f) (omega (arith, f.first-number.ensures)) in
    tested_by_lem _ (columns p) (start p).args.rows.now p.loop-left.k (key (id p) (id p) (omega arith) refl) number refl refl c.fits.ensures

-- the lines of all satellites, as the contract has them
all_lines : (c : tie.After-shape_in-own invariant-loop-left decreases-loop-left) → let x = c.args in lines x.id x.word (columns_of c.shape_in-own.result) ≡ alone (columns_in x.s) (satellites_in 64 x.id x.word)
all_lines c =
    own_lines _ (columns_in c.args.s) c.args.id 64 c.args.word (ap columns_of c.shape_in-own.ensures ∙ own_columns c.args.s c.requires.1 c.args.id)

told : (c : tie.After-shape_in-own invariant-loop-left decreases-loop-left) {passed : Passed} → let x = c.args in
    passed ≡ passed_at x.chosen (lines x.id x.word (columns_of c.shape_in-own.result)) x.rows.now x.from
    → passed ≡ passed_at x.chosen (alone (columns_in x.s) (satellites_in 64 x.id x.word)) x.rows.now x.from
told c e = let x = c.args in e ∙ ap (λ (groups : List (List Line)). passed_at x.chosen groups x.rows.now x.from) (all_lines c)

fails : tie.Need-returns-then-not-fits invariant-loop-left decreases-loop-left
fails c =
    let t = c.before in
    let h = t.before.before in
    let p = h.before in
    told p.before.before (stops _ _ _ _ (row_fails p.loop-left.invariant.3 (line p) _ (chosen p _ refl (omega (arith, h.if-marks-ge-FIRST.true))) t.fits.result (tested t) c.if-not-fits.true))

loop-again : tie.Need-loop-left-preserved invariant-loop-left decreases-loop-left
loop-again c =
    let p = c.before.before in
    let w = p.loop-left.invariant.3 in
    let r = c.rest-left.result in
    let e = c.rest-left.ensures in (
      omega (arith, (fewer p r e).fewer, p.loop-left.invariant.0),
      mod-lt _ (omega arith),
      moved_next _ (ap length (both p r e)) p.loop-left.invariant.2,
      elim c.if-marks-ge-FIRST.branch [
        | then-marks-ge-FIRST+else-not-fits t ↦
            let h : tie.After-fits invariant-loop-left decreases-loop-left = record { before = record { before = record { before = p; if-marks-ge-FIRST = t.if-marks-ge-FIRST }; first-number = t.first-number }; fits = t.fits } in
            rw t.k-is (row_fits_lem w (line p) (behind p r e) (chosen p r e (omega (arith, t.if-marks-ge-FIRST.true))) t.fits.result (tested h) t.if-not-fits.false)
        | else-marks-ge-FIRST t ↦ rw t.k-is (tests_by w (passed p r e (omega (arith, t.if-marks-ge-FIRST.false))))
      ],
    )

pub slot_spec : {M : Type 1} → statement M
slot_spec =
    tie.close
    (tie.spec invariant-loop-left decreases-loop-left (λ c κs. search rules) (λ c. search rules) (λ c. (omega arith, omega arith, moved_start c.args.chosen _ (omega arith), tests_start c.requires.2)) (λ c κs. search rules)
    (λ c. omega (arith, near c)) (λ c. record { sfits = near c })
    (λ c κs. let p = c.before.before in (p.loop-left.invariant.3.within, rw p.shape_in-own.ensures (own_formed (start p).args.s (start p).requires.1 (id p) (start p).requires.0))) fails
    (λ c. let p = c.before.before.before.before in omega (arith, p.loop-left.invariant.3.within, (start p).well_formed.1.1.1.1.0.0))
    (λ c κs. search rules) (λ c. (fewer c.before.before _ c.rest-left.ensures).fewer) loop-again
    (λ c.
    let l = c.loop-left in
    let x = c.args in
    let none = alone_nil _ (none_in x.id (omega arith)) in
    told c.before.before (goes_on _ _ _ _ (tests_end l.invariant.3 (ap (chosen_lines l.marks) none ∙ chosen_nil l.marks)) (moved_end (ap length none) l.invariant.2))))
