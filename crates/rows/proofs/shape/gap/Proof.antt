-- `rows::shape::gap` meets its contract. Assumes nothing.
use Rattle.bits.proofs.Words.{refl, rules}
use Rattle.rows.specs.Shapes.{column_for}
use Rattle.rows.proofs.shape.gap.Statement.{statement}
use Rattle.rows.proofs.shape.gap.Tie as tie

pub gap_spec : {M : Type 1} → statement M
unfolding column_for
gap_spec = tie.close (tie.spec (λ c. search rules) (λ c. search rules) (λ c. refl))
