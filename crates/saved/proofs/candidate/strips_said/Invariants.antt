-- The strips stored and those that are left.
use Rattle.std.proofs.Common.{drop}
use Rattle.format.specs.Text.{hex_bits}
use Rattle.saved.proofs.StripsSaid.{SaidLeft}
use Rattle.saved.proofs.candidate.strips_said.Given as goal

abbrev pub invariant-loop-i : goal.invariant-loop-i
invariant-loop-i l = SaidLeft l.initial.strips l.from l.s (hex_bits (drop l.at l.line)) l.n l.strips l.first l.cells l.i
