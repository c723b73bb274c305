-- With the cells of the strips that are left, chosen by the marks that are left, it is the whole.
use Rattle.bits.proofs.Words.{◌≡◌, ◌+◌, ◌*◌, ◌≤◌, drop}
use Rattle.bits.specs.BitLists.{spell}
use Rattle.format.specs.Lengths.{total}
use Rattle.format.specs.Masks.{pick}
use lib.Count.{ones}
use Rattle.body.proofs.cells.count.Given as goal

abbrev pub invariant-loop-strip : goal.invariant-loop-strip
invariant-loop-strip l =
    (l.sum ≤ 64 * l.strip-index) × (l.sum + total ones (pick (spell 64 l.marks) (drop l.strip-index l.strips)) ≡ total ones (pick (spell 64 l.chosen) l.strips))
