-- `rows::row::sole` meets its contract. Assumes nothing.
use borrow.Author.Rules.{rules}
use Rattle.format.specs.Rows.{value_of}
use Rattle.rows.proofs.Columns.{gap_of}
use Rattle.rows.proofs.row.sole.Statement.{statement}
use Rattle.rows.proofs.row.sole.Tie as tie

-- a column of no bits is a gap
returns-then-c-eq0 : tie.Need-returns-then-c-eq0
unfolding value_of
returns-then-c-eq0 c = let x = c.args in rw (gap_of x.c c.if-c-eq0.true)

pub sole_spec : {M : Type 1} → statement M
sole_spec = tie.close (tie.spec returns-then-c-eq0 (λ c κs. search rules) (λ c. search rules))
