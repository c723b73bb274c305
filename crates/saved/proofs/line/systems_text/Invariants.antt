-- What is written, and the slots that are left.
use Rattle.holding.specs.Outlines.{whole_of}
use Rattle.saved.proofs.SlotsLeft.{TextLeft}
use Rattle.saved.proofs.line.systems_text.Given as goal

abbrev pub invariant-loop-i : goal.invariant-loop-i
invariant-loop-i l = TextLeft l.initial.line l.at (whole_of l.outline l.satellites l.strips) l.line l.place l.from l.i
