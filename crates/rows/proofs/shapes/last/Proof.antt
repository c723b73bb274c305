-- `rows::shapes::last` meets its contract. Assumes nothing.
use borrow.Author.Rules.{rules}
use Rattle.rows.specs.Shapes.{last_of}
use Rattle.rows.proofs.shapes.last.Statement.{statement}
use Rattle.rows.proofs.shapes.last.Tie as tie

pub last_spec : {M : Type 1} → statement M
unfolding last_of
last_spec = tie.close (tie.spec (λ c κs. search rules) (λ c. rw c.gap-none.ensures))
