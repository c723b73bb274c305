-- `rows::shapes::clock` meets its contract. Assumes nothing.
use Rattle.bits.proofs.Words.{◌∙◌, rules}
use Rattle.format.specs.Messages.{clock_shape}
use Rattle.rows.specs.Shapes.{shape_with}
use Rattle.rows.specs.Table.{shapes, listed, shape_at, shape_in}
use Rattle.rows.proofs.shapes.clock.Statement.{statement}
use Rattle.rows.proofs.shapes.clock.Tie as tie

pub clock_spec : {M : Type 1} → statement M
unfolding clock_shape shape_with shapes listed shape_at shape_in
clock_spec =
    tie.close
    (tie.spec (λ c κs. search rules) (λ c κs. search rules) (λ c κs. search rules) (λ c κs. search rules)
    (λ c. c.three.ensures ∙ rw (c.gap-2.ensures, c.gap.ensures, c.counts.ensures)))
