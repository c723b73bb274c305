-- What is gathered, and the last i places that are left.
use Rattle.saved.proofs.Gathers.{Gathered}
use Rattle.saved.proofs.cells.gather.Given as goal

abbrev pub invariant-loop-i : goal.invariant-loop-i
invariant-loop-i l = Gathered l.signals l.strip l.bits l.i
