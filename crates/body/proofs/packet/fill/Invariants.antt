-- The rows from the i-th on are still to come.
use Rattle.bits.proofs.Words.{◌-◌, ◌*◌, suc}
use Rattle.format.specs.Messages.{packet_lines}
use Rattle.body.proofs.Going.{Going}
use Rattle.body.proofs.packet.fill.Given as goal

abbrev pub invariant-loop-i : goal.invariant-loop-i
invariant-loop-i l = Going l.bytes (packet_lines 1 l.parts) l.at l.initial.rows (packet_lines (suc l.i) (l.parts - l.i)) (8 * l.i) l.place l.rows
