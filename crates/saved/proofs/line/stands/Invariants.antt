-- No character passed differs.
use Rattle.std.proofs.Common.{◌+◌, drop}
use Rattle.saved.proofs.Compared.{StandsLeft}
use Rattle.saved.proofs.line.stands.Given as goal

abbrev pub invariant-loop-i : goal.invariant-loop-i
invariant-loop-i l = StandsLeft l.line l.at l.text (l.at + l.i) (drop l.i l.text)
