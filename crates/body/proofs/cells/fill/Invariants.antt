-- The rows of the slots that are left, with the strips from the n-th on, chosen by the marks that are left, are still to come.
use Rattle.bits.proofs.Words.{◌+◌, ◌≤◌, length, drop}
use Rattle.holding.specs.Held.{slot_satellites}
use Rattle.rows.specs.Shapes.{columns_in}
use Rattle.body.specs.Chosen.{striped, chosen_lines}
use Rattle.body.specs.Lent.{Slots}
use Rattle.body.proofs.Going.{Going}
use Rattle.body.proofs.cells.fill.Given as goal

abbrev pub invariant-loop-i : goal.invariant-loop-i
invariant-loop-i l =
    let ids = drop l.i l.ids in
    let masks = drop l.i l.masks in
    let columns = columns_in l.wanted.shape in
    Slots ids masks × (l.n + length (slot_satellites ids masks) ≤ length l.strips)
    × Going l.bytes (chosen_lines l.wanted.chosen (striped columns (slot_satellites l.ids l.masks) l.strips)) l.wanted.at l.initial.rows
    (chosen_lines l.marks (striped columns (slot_satellites ids masks) (drop l.n l.strips))) l.k l.place l.rows
