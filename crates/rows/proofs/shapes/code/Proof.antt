-- `rows::shapes::code` meets its contract. Assumes nothing.
use Rattle.bits.proofs.Words.{◌∙◌, rules}
use Rattle.format.specs.Messages.{code_shape}
use Rattle.rows.specs.Shapes.{shape_with}
use Rattle.rows.specs.Table.{shapes, listed, shape_at, shape_in}
use Rattle.rows.proofs.shapes.code.Statement.{statement}
use Rattle.rows.proofs.shapes.code.Tie as tie

pub code_spec : {M : Type 1} → statement M
unfolding code_shape shape_with shapes listed shape_at shape_in
code_spec =
    tie.close
    (tie.spec (λ c κs. search rules) (λ c κs. search rules) (λ c κs. search rules) (λ c κs. search rules)
    (λ c. c.three.ensures ∙ rw (c.gap-2.ensures, c.gap.ensures, c.counts.ensures)))
