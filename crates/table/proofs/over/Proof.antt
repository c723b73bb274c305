-- `table::over` meets its contract. Assumes nothing.
use Rattle.table.specs.Kinds.{keys_for}
use Rattle.table.proofs.over.Statement.{statement}
use Rattle.table.proofs.over.Tie as tie

pub over_spec : {M : Type 1} → statement M
unfolding keys_for
over_spec = tie.close (tie.spec (λ c. rw c.if-cells.true) (λ c. rw c.if-cells.false))
