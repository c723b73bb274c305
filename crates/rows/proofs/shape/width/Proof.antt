-- `rows::shape::width` meets its contract. Assumes nothing.
use Rattle.bits.proofs.Words.{arith, rules}
use Rattle.format.specs.Rows.{shape_width}
use Rattle.rows.specs.Shapes.{columns_of}
use Rattle.rows.proofs.Columns.{width_of_lem}
use Rattle.rows.proofs.shape.width.Statement.{statement}
use Rattle.rows.proofs.shape.width.Tie as tie

pub width_spec : {M : Type 1} → statement M
unfolding columns_of shape_width
width_spec =
    tie.close
    (tie.spec (λ c. search rules) (λ c. search rules) (λ c. search rules) (λ c. search rules)
    (λ c. let s = c.args.s in omega (arith, width_of_lem s.v1, width_of_lem s.v2, width_of_lem s.v3, width_of_lem s.v4, width_of_lem s.v5)))
