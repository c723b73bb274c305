-- `rows::shapes::phases` meets its contract. Assumes nothing.
use Rattle.bits.proofs.Words.{◌∙◌, rules}
use Rattle.format.specs.Messages.{bias_shape}
use Rattle.rows.specs.Shapes.{shape_with}
use Rattle.rows.specs.Table.{shapes, listed, shape_at, shape_in}
use Rattle.rows.proofs.shapes.phases.Statement.{statement}
use Rattle.rows.proofs.shapes.phases.Tie as tie

pub phases_spec : {M : Type 1} → statement M
unfolding bias_shape shape_with shapes listed shape_at shape_in
phases_spec =
    tie.close
    (tie.spec (λ c κs. search rules) (λ c κs. search rules) (λ c κs. search rules) (λ c κs. search rules)
    (λ c. c.three.ensures ∙ rw (c.plain.ensures, c.counts.ensures, c.gap.ensures)))
