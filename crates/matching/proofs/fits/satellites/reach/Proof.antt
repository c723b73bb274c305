-- `matching::fits::satellites::reach` meets its contract. The loop's invariant: how far the rows fit is told by the slots that are left, chosen by the marks that
-- are left. Assumes nothing.
use Rattle.bits.proofs.Words.{◌≡◌, refl, ap, ◌∙◌, List, ◌++◌, ℕ, suc, ◌-◌, ◌*◌, ◌%◌, ◌^◌, ◌≤◌, add-one, arith, rules, length}
use Rattle.body.proofs.Groups.{alone_length, alone_nil, alone_append}
use Rattle.body.proofs.Slots.{in_slot, from_slot, Slot, slot_at, no_slot}
use Rattle.body.proofs.Walking.{chosen_nil, chosen_split}
use Rattle.body.specs.Chosen.{alone, chosen_lines}
use Rattle.format.specs.Rows.{Column, Line}
use Rattle.holding.specs.Held.{slot_satellites}
use Rattle.rows.specs.Shapes.{columns_in}
use Rattle.matching.specs.declared.fits.Matched.TheVariants.{Not, To}
use Rattle.matching.proofs.Matching.{Tests, tests_start, call_fits, call_fails, tests_end}
use Rattle.matching.proofs.Passing.{slot_on, slot_stopped}
use Rattle.matching.proofs.fits.satellites.reach.Statement.{statement}
use Rattle.matching.proofs.fits.satellites.reach.Tie as tie

abbrev invariant-loop-i : tie.invariant-loop-i
invariant-loop-i ids masks s chosen rows marks₀ k₀ i₀ marks k i =
    Tests (chosen_lines chosen (alone (columns_in s) (slot_satellites ids masks))) rows 0 (chosen_lines marks (alone (columns_in s) (from_slot ids masks i))) k

abbrev decreases-loop-i : tie.decreases-loop-i
decreases-loop-i ids masks s chosen rows marks₀ k₀ i₀ marks k i = length ids - i

module _ (c : tie.In-loop-i invariant-loop-i decreases-loop-i) where
  abbrev start : tie.Start invariant-loop-i decreases-loop-i
  start = c.before.before.before.before

  abbrev i : ℕ
  i = c.loop-i.i

  abbrev marks : ℕ
  marks = c.loop-i.marks

  abbrev columns : ℕ → List Column
  columns = columns_in start.args.s

  slot : Slot start.args.ids.now start.args.masks.now i
  slot = slot_at _ _ i start.requires.0.masked start.requires.0.thin c.loop-i-test.true

  -- the lines of this slot, and those of the slots behind
  abbrev here : List (List Line)
  here = alone columns (in_slot start.args.ids.now start.args.masks.now i)

  abbrev behind : List (List Line)
  behind = alone columns (from_slot start.args.ids.now start.args.masks.now (suc i))

  few : length here ≤ 64
  few = omega (arith, slot.few, alone_length columns (in_slot start.args.ids.now start.args.masks.now i))

  both : chosen_lines marks (alone columns (from_slot start.args.ids.now start.args.masks.now i)) ≡ chosen_lines marks here ++ chosen_lines (marks * 2 ^ length here % 2 ^ 64) behind
  both = ap (chosen_lines marks) (alone_append columns _ _ slot.both) ∙ chosen_split marks (length here) here behind refl few

fails : tie.Need-returns-in_default invariant-loop-i decreases-loop-i
fails c =
    let t = c.before in
    let p = t.before.before.before in
    call_fails p.loop-i.invariant (chosen_lines (marks p) (here p)) _ (both p) Not (slot_stopped (marks p) (here p) _ _ t.slot-passed.result t.slot-passed.ensures (rw c.in_default.is)) refl

loop-again : tie.Need-loop-i-preserved invariant-loop-i decreases-loop-i
loop-again c =
    let p = c.before.before.before.before in
    let on = slot_on (marks p) (here p) _ _ c.slot-passed.ensures c.in-On.is in
    rw (add-one (i p), on.1) (call_fits p.loop-i.invariant (chosen_lines (marks p) (here p)) _ (both p) (To c.in-On.next) on.0 c.in-On.next refl)

pub reach_spec : {M : Type 1} → statement M
reach_spec =
    tie.close
    (tie.spec invariant-loop-i decreases-loop-i (λ c. tests_start (omega arith)) (λ c. c.loop-i-test.true) (λ c. let p = c.before in omega (arith, (slot p).inside, (start p).well_formed.1.0.1))
    (λ c. (slot c.before.before).inside) (λ c κs. let p = c.before.before in ((start p).requires.1, (start p).requires.2, p.loop-i.invariant.within)) (λ c. search rules) (λ c. search rules) fails
    (λ c. omega (arith, c.loop-i-test.true, c.well_formed.0.0))
    (λ c. omega (arith, c.loop-i-test.true)) loop-again
    (λ c.
    let l = c.loop-i in
    let x = c.args in
    tests_end l.invariant (ap (chosen_lines l.marks) (alone_nil _ (no_slot x.ids.now x.masks.now l.i c.loop-i-test.false)) ∙ chosen_nil l.marks)))
