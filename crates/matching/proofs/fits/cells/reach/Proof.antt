-- `matching::fits::cells::reach` meets its contract. The loop's invariant: how far the rows fit is told by the slots that are left, with the strips from the n-th
-- on, chosen by the marks that are left. Assumes nothing.
use Rattle.bits.proofs.Words.{◌≡◌, refl, sym, ap, ◌∙◌, List, ◌++◌, ℕ, suc, ◌+◌, ◌-◌, ◌*◌, ◌%◌, ◌^◌, ◌≤◌, add-one, arith, rules, length, take, drop}
use lib.ListN.{length-append, length-drop}
use Rattle.body.proofs.Going.{lent}
use Rattle.body.proofs.Groups.{striped_length, striped_nil, striped_append}
use Rattle.body.proofs.Slots.{in_slot, from_slot, Slot, slot_at, no_slot}
use Rattle.body.proofs.Walking.{chosen_nil, chosen_split}
use Rattle.body.specs.Chosen.{striped, chosen_lines}
use Rattle.format.specs.Rows.{Column, Line}
use Rattle.holding.specs.Held.{slot_satellites}
use Rattle.rows.specs.Shapes.{columns_in}
use Rattle.matching.specs.declared.fits.Matched.TheVariants.{Not, To}
use Rattle.matching.proofs.Matching.{Tests, tests_start, call_fits, call_fails, tests_end}
use Rattle.matching.proofs.Passing.{strips_on, strips_stopped}
use Rattle.matching.proofs.fits.cells.reach.Statement.{statement}
use Rattle.matching.proofs.fits.cells.reach.Tie as tie

abbrev invariant-loop-i : tie.invariant-loop-i
invariant-loop-i ids masks strips s chosen rows marks₀ n₀ k₀ i₀ marks n k i =
    (n + length (from_slot ids masks i) ≤ length strips)
    × Tests (chosen_lines chosen (striped (columns_in s) (slot_satellites ids masks) strips)) rows 0 (chosen_lines marks (striped (columns_in s) (from_slot ids masks i) (drop n strips))) k

abbrev decreases-loop-i : tie.decreases-loop-i
decreases-loop-i ids masks strips s chosen rows marks₀ n₀ k₀ i₀ marks n k i = length ids - i

module _ (c : tie.In-loop-i invariant-loop-i decreases-loop-i) where
  abbrev start : tie.Start invariant-loop-i decreases-loop-i
  start = c.before.before.before.before.before

  abbrev i : ℕ
  i = c.loop-i.i

  abbrev n : ℕ
  n = c.loop-i.n

  abbrev marks : ℕ
  marks = c.loop-i.marks

  abbrev columns : ℕ → List Column
  columns = columns_in start.args.s

  abbrev strips : List ℕ
  strips = start.args.strips.now

  -- how many satellites this slot has
  abbrev many : ℕ
  many = length (in_slot start.args.ids.now start.args.masks.now i)

  slot : Slot start.args.ids.now start.args.masks.now i
  slot = slot_at _ _ i start.requires.0.masked start.requires.0.thin c.loop-i-test.true

  all : length (from_slot start.args.ids.now start.args.masks.now i) ≡ many + length (from_slot start.args.ids.now start.args.masks.now (suc i))
  all = ap length slot.both ∙ length-append (in_slot start.args.ids.now start.args.masks.now i) _

  covered : many ≤ length (take (length strips - n) (drop n strips))
  covered = omega (arith, all, ap length (lent n strips), length-drop n strips, c.loop-i.invariant.0)

  -- the lines of this slot, whose strips are lent, and those of the slots behind
  abbrev here : List (List Line)
  here = striped columns (in_slot start.args.ids.now start.args.masks.now i) (take (length strips - n) (drop n strips))

  abbrev behind : List (List Line)
  behind = striped columns (from_slot start.args.ids.now start.args.masks.now (suc i)) (drop (n + length here) strips)

  here_many : length here ≡ many
  here_many = striped_length columns (in_slot start.args.ids.now start.args.masks.now i) (take (length strips - n) (drop n strips)) covered

  both : chosen_lines marks (striped columns (from_slot start.args.ids.now start.args.masks.now i) (drop n strips)) ≡ chosen_lines marks here ++ chosen_lines (marks * 2 ^ length here % 2 ^ 64) behind
  both =
      ap (chosen_lines marks)
      (striped_append columns _ _ strips n (length here) (sym here_many) slot.both
      ∙ ap (λ (l : List ℕ). striped columns (in_slot start.args.ids.now start.args.masks.now i) l ++ behind) (sym (lent n strips)))
      ∙ chosen_split marks (length here) here behind refl (omega (arith, here_many, slot.few))

fails : tie.Need-returns-in_default invariant-loop-i decreases-loop-i
fails c =
    let t = c.before in
    let p = t.before.before.before.before in
    call_fails p.loop-i.invariant.1 (chosen_lines (marks p) (here p)) _ (both p) Not (strips_stopped (marks p) (here p) _ _ t.slot-passed.result t.slot-passed.ensures (rw c.in_default.is)) refl

loop-again : tie.Need-loop-i-preserved invariant-loop-i decreases-loop-i
loop-again c =
    let p = c.before.before.before.before.before in
    let on = strips_on (marks p) (here p) _ _ c.slot-passed.ensures c.in-On.is in
    rw (add-one (i p), on.1, on.2) (
      omega (arith, all p, here_many p, p.loop-i.invariant.0),
      call_fits p.loop-i.invariant.1 (chosen_lines (marks p) (here p)) _ (both p) (To c.in-On.next) on.0 c.in-On.next refl,
    )

overflow_add-n : tie.Need-overflow_add-n invariant-loop-i decreases-loop-i
overflow_add-n c =
    let p = c.before.before.before.before.before in
    let on = strips_on (marks p) (here p) _ _ c.slot-passed.ensures c.in-On.is in
    omega (arith, all p, here_many p, on.1, p.loop-i.invariant.0, (start p).well_formed.1.1.0.0)

pub reach_spec : {M : Type 1} → statement M
reach_spec =
    tie.close
    (tie.spec invariant-loop-i decreases-loop-i (λ c. (omega (arith, c.requires.1), tests_start (omega arith))) (λ c. c.loop-i-test.true)
    (λ c. let p = c.before in omega (arith, (slot p).inside, (start p).well_formed.1.0.1)) (λ c. (slot c.before.before).inside)
    (λ c. let p = c.before.before in omega (arith, p.loop-i.invariant.0, (start p).well_formed.1.1.0.1)) (λ c. let p = c.before.before in omega (arith, p.loop-i.invariant.0))
    (λ c. let p = c.before.before in omega (arith, p.loop-i.invariant.0)) (λ c. search rules)
    (λ c κs. let p = c.before.before.before in (covered p, (start p).requires.2, (start p).requires.3, p.loop-i.invariant.1.within)) (λ c. search rules) (λ c. search rules) fails
    overflow_add-n (λ c. omega (arith, c.loop-i-test.true, c.well_formed.0.0))
    (λ c. omega (arith, c.loop-i-test.true)) loop-again
    (λ c.
    let l = c.loop-i in
    let x = c.args in
    tests_end l.invariant.1 (ap (chosen_lines l.marks) (striped_nil _ (drop l.n x.strips.now) (no_slot x.ids.now x.masks.now l.i c.loop-i-test.false)) ∙ chosen_nil l.marks)))
