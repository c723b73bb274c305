-- `rows::shapes::phase` meets its contract. Assumes nothing.
use Rattle.bits.proofs.Words.{◌∙◌, rules}
use Rattle.format.specs.Messages.{phase_shape}
use Rattle.rows.specs.Shapes.{shape_with}
use Rattle.rows.specs.Table.{shapes, listed, shape_at, shape_in}
use Rattle.rows.proofs.shapes.phase.Statement.{statement}
use Rattle.rows.proofs.shapes.phase.Tie as tie

pub phase_spec : {M : Type 1} → statement M
unfolding phase_shape shape_with shapes listed shape_at shape_in
phase_spec =
    tie.close
    (tie.spec (λ c κs. search rules) (λ c κs. search rules) (λ c κs. search rules) (λ c κs. search rules)
    (λ c. c.three.ensures ∙ rw (c.gap.ensures, c.plain.ensures, c.counts.ensures)))
