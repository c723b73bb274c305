-- What is put, and the places that are left.
use Rattle.std.proofs.Common.{drop}
use Rattle.format.specs.Text.{hex_bits}
use Rattle.saved.proofs.SpreadBits.{Spreading}
use Rattle.saved.proofs.characters.spread_at.Given as goal

abbrev pub invariant-loop-i : goal.invariant-loop-i
invariant-loop-i l = Spreading (hex_bits (drop l.at l.line)) l.places l.w l.first l.word l.next l.i
