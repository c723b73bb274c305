-- `holding::testing::cells_fit` meets its contract. Assumes nothing.
use borrow.Author.Rules.{rules}
use borrow.Author.Tests.{le-leb, lt-leb}
use Rattle.holding.proofs.testing.cells_fit.Statement.{statement}
use Rattle.holding.proofs.testing.cells_fit.Tie as tie

pub cells_fit_spec : {M : Type 1} → statement M
cells_fit_spec =
    tie.close
    (tie.spec (λ c κs. search rules) (λ c. rw (← c.cells_in-cells.ensures, lt-leb c.cells_in-cells.result 256 c.if-cells-gt-CELLS.true))
    (λ c. rw (← c.cells_in-cells.ensures, le-leb c.cells_in-cells.result 256 c.if-cells-gt-CELLS.false)))
