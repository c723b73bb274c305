-- The rows of the slots that are left, chosen by the marks that are left, are still to come.
use Rattle.bits.proofs.Words.{drop}
use Rattle.holding.specs.Held.{slot_satellites}
use Rattle.rows.specs.Shapes.{columns_in}
use Rattle.body.specs.Chosen.{alone, chosen_lines}
use Rattle.body.specs.Lent.{Slots}
use Rattle.body.proofs.Going.{Going}
use Rattle.body.proofs.satellites.fill.Given as goal

abbrev pub invariant-loop-i : goal.invariant-loop-i
invariant-loop-i l =
    let ids = drop l.i l.ids in
    let masks = drop l.i l.masks in
    let columns = columns_in l.wanted.shape in
    Slots ids masks
    × Going l.bytes (chosen_lines l.wanted.chosen (alone columns (slot_satellites l.ids l.masks))) l.wanted.at l.initial.rows
    (chosen_lines l.marks (alone columns (slot_satellites ids masks))) l.k l.place l.rows
