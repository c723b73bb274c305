-- `rows::shapes::packet` meets its contract. Assumes nothing.
use borrow.Author.Rules.{rules}
use Rattle.format.specs.Messages.{packet_shape}
use Rattle.rows.specs.Shapes.{shape_with}
use Rattle.rows.specs.Table.{shapes, listed, shape_at, shape_in}
use Rattle.rows.proofs.shapes.packet.Statement.{statement}
use Rattle.rows.proofs.shapes.packet.Tie as tie

pub packet_spec : {M : Type 1} → statement M
unfolding packet_shape shape_with shapes listed shape_at shape_in
packet_spec = tie.close (tie.spec (λ c κs. search rules) (λ c. rw c.plain-byte.ensures))
