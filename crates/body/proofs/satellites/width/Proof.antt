-- `body::satellites::width` meets its contract. Assumes nothing.
use Rattle.bits.proofs.Words.{arith, rules}
use Rattle.format.specs.Rows.{shape_width, width_of}
use Rattle.rows.proofs.Columns.{width_of_lem}
use Rattle.rows.proofs.Laid.{iode_some}
use Rattle.rows.specs.Shapes.{columns_in}
use Rattle.body.proofs.satellites.width.Statement.{statement}
use Rattle.body.proofs.satellites.width.Tie as tie

returns-then-s : tie.Need-returns-then-s
unfolding columns_in shape_width width_of
returns-then-s c =
    let s = c.args.s in
    rw c.if-s.true (omega (arith, c.iode.ensures, width_of_lem s.v2, width_of_lem s.v3, width_of_lem s.v4, width_of_lem s.v5))

returns : tie.Need-returns
unfolding columns_in shape_width width_of
returns c =
    let s = c.args.s in
    rw c.if-s.false (omega (arith, width_of_lem s.v1, width_of_lem s.v2, width_of_lem s.v3, width_of_lem s.v4, width_of_lem s.v5))

pub width_spec : {M : Type 1} → statement M
width_spec =
    tie.close
    (tie.spec (λ c. search rules) (λ c. search rules) (λ c. search rules) (λ c κs. search rules) (λ c. omega (arith, iode_some _ c.iode.ensures))
    returns-then-s (λ c. search rules) returns)
