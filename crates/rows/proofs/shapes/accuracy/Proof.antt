-- `rows::shapes::accuracy` meets its contract. Assumes nothing.
use Rattle.bits.proofs.Words.{◌∙◌, rules}
use Rattle.format.specs.Messages.{accuracy_shape}
use Rattle.rows.specs.Shapes.{shape_with}
use Rattle.rows.specs.Table.{shapes, listed, shape_at, shape_in}
use Rattle.rows.proofs.shapes.accuracy.Statement.{statement}
use Rattle.rows.proofs.shapes.accuracy.Tie as tie

pub accuracy_spec : {M : Type 1} → statement M
unfolding accuracy_shape shape_with shapes listed shape_at shape_in
accuracy_spec =
    tie.close
    (tie.spec (λ c κs. search rules) (λ c κs. search rules) (λ c κs. search rules) (λ c κs. search rules)
    (λ c. c.three.ensures ∙ rw (c.gap-2.ensures, c.gap.ensures, c.plain.ensures)))
