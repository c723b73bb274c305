-- Of the strips that are left those that the marks left choose tell the same as all.
use Rattle.bits.proofs.Words.{◌≡◌, drop}
use Rattle.bits.specs.BitLists.{spell}
use Rattle.format.specs.Masks.{pick}
use Rattle.table.specs.Bodies.{all_set}
use Rattle.body.proofs.cells.celled.Given as goal

abbrev pub invariant-loop-strip : goal.invariant-loop-strip
invariant-loop-strip l =
    all_set (pick (spell 64 l.marks) (drop l.strip-index l.strips)) ≡ all_set (pick (spell 64 l.chosen) l.strips)
