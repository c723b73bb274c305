-- `body::satellites::slot` meets its contract. The loop's invariant: the rows of the satellites that are left, chosen by the marks that are left, are still to
-- come. Assumes nothing.
use Rattle.bits.proofs.Words.{◌≡◌, refl, ◌∙◌, List, [], ◌∷◌, ℕ, suc, ◌+◌, ◌-◌, ◌*◌, ◌%◌, ◌^◌, ◌≤◌, ◌<◌, arith, rules, length, pos}
use lib.Count.{count_leading_zeros}
use Rattle.format.specs.Messages.{satellite_lines}
use Rattle.format.specs.Rows.{Column, Line, absent}
use Rattle.holding.specs.Held.{satellites_in}
use Rattle.rows.specs.Shapes.{columns_in}
use Rattle.body.specs.Chosen.{alone, chosen_lines}
use Rattle.body.proofs.Going.{Row, going_row}
use Rattle.body.proofs.Groups.{five_in, alone_nil, alone_next}
use Rattle.body.proofs.Keys.{key, keyed}
use Rattle.body.proofs.Slots.{Next, next, next_in, none_in}
use Rattle.body.proofs.Walking.{Walk, walk_start, walk_on_lem, walk_here_lem, walk_past, walk_end}
use Rattle.body.proofs.satellites.slot.Lts.{then-marks-ge-FIRST, else-marks-ge-FIRST}
use Rattle.body.proofs.satellites.slot.Statement.{statement}
use Rattle.body.proofs.satellites.slot.Tie as tie

abbrev invariant-loop-left : tie.invariant-loop-left
invariant-loop-left id word bytes rows₀ s width left₀ marks₀ k₀ place₀ rows left marks k place =
    (left < 2 ^ 64) × Walk bytes marks₀ (alone (columns_in s) (satellites_in 64 id word)) place₀ rows₀ (alone (columns_in s) (satellites_in 64 id left)) marks k place rows

abbrev decreases-loop-left : tie.decreases-loop-left
decreases-loop-left id word bytes rows₀ s width left₀ marks₀ k₀ place₀ rows left marks k place = left

module _ (c : tie.In-loop-left invariant-loop-left decreases-loop-left) where
  abbrev start : tie.Start invariant-loop-left decreases-loop-left
  start = c.before.before.before.before.before

  abbrev id : ℕ
  id = start.args.id

  abbrev left : ℕ
  left = c.loop-left.left

  abbrev columns : ℕ → List Column
  columns = columns_in start.args.wanted.shape

  -- the next satellite's line, and those that may come behind it
  abbrev line : Line
  line = record { keys = pos id ∷ pos (suc (count_leading_zeros 64 left)) ∷ absent ∷ []; shape = columns id }

  module _ (rest : ℕ) (e : rest ≡ left - 2 ^ (63 - count_leading_zeros 64 left)) where
    abbrev behind : List (List Line)
    behind = alone columns (satellites_in 64 id rest)

    fewer : Next left rest
    fewer = next left rest c.loop-left-test.true c.loop-left.invariant.0 e

    all_left : alone columns (satellites_in 64 id left) ≡ (line ∷ []) ∷ behind
    unfolding satellite_lines
    all_left = alone_next columns _ _ (next_in left rest c.loop-left-test.true c.loop-left.invariant.0 e id)

-- it is chosen
row : (c : tie.Then-marks-ge-FIRST invariant-loop-left decreases-loop-left) (rest : ℕ)
    → let r = c.before in
    let x = (start r).args in
    let s = r.loop-left in
    (e : rest ≡ left r - 2 ^ (63 - count_leading_zeros 64 (left r)))
    → Row x.bytes.now (chosen_lines x.wanted.chosen (alone (columns r) (satellites_in 64 (id r) x.word))) x.wanted.at x.rows.now (line r) (chosen_lines (s.marks * 2 ^ 1 % 2 ^ 64) (behind r rest e)) s.k s.place s.rows
row c rest e =
    let r = c.before in
    going_row (line r) _ refl (five_in _ (id r)) (walk_here_lem r.loop-left.invariant.1 _ _ (all_left r rest e) (omega (arith, c.if-marks-ge-FIRST.true)))

room : (c : tie.After-first-number invariant-loop-left decreases-loop-left) → let s = c.loop-left in s.k + 8 ≤ length s.rows
room c = (row c.before _ refl).room

near : (c : tie.After-first-number invariant-loop-left decreases-loop-left) → c.first-number.result + 1 < 2 ^ 31
near c = omega (arith, (fewer c.before.before _ refl).inside, c.first-number.ensures)

loop-again : tie.Need-loop-left-preserved invariant-loop-left decreases-loop-left
loop-again c =
    let r = c.before.before in
    let w = r.loop-left.invariant.1 in
    let e = c.rest-left.ensures in (
      omega (arith, (fewer r _ e).fewer, r.loop-left.invariant.0),
      elim c.if-marks-ge-FIRST.branch [
        | then-marks-ge-FIRST t ↦
            let f : tie.After-first-number invariant-loop-left decreases-loop-left = record { before = record { before = r; if-marks-ge-FIRST = t.if-marks-ge-FIRST }; first-number = t.first-number } in
            let number = key (f.first-number.result + 1) (suc (count_leading_zeros 64 (left r))) (near f) (omega (arith, f.first-number.ensures)) in
            rw (t.rows-is, t.k-is, t.place-is) (walk_on_lem w _ _ (all_left r _ e) ((row f.before _ e).written _ _ r.width-width.ensures (t.satellite.ensures ∙ keyed _ refl number refl)))
        | else-marks-ge-FIRST t ↦ rw (t.rows-is, t.k-is, t.place-is) (walk_past w _ _ (all_left r _ e) (omega (arith, t.if-marks-ge-FIRST.false)))
      ],
    )

pub slot_spec : {M : Type 1} → statement M
slot_spec =
    tie.close
    (tie.spec invariant-loop-left decreases-loop-left (λ c κs. c.requires.formed) (λ c. (omega arith, walk_start (omega arith) c.requires.room))
    (λ c κs. search rules) (λ c. omega (arith, near c)) (λ c. omega (arith, room c)) (λ c. omega (arith, room c)) (λ c. omega arith) (λ c. search rules) room
    (λ c. record { sfits = near c.before })
    (λ c κs. let t = c.before.before in let x = start t.before in let w = row t _ refl in (w.part, omega (arith, w.near), x.requires.formed, x.requires.kind, omega (arith, w.whole)))
    (λ c. let t = c.before.before.before.before in omega (arith, (row t _ refl).near, t.width-width.ensures)) (λ c κs. search rules)
    (λ c. (fewer c.before.before _ c.rest-left.ensures).fewer) loop-again (λ c. c.loop-left.invariant.1.going.same)
    (λ c. let x = c.args in walk_end c.loop-left.invariant.1 (alone_nil (columns_in x.wanted.shape) (none_in x.id (omega arith)))))
