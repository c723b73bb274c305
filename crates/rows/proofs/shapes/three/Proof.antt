-- `rows::shapes::three` meets its contract. Assumes nothing.
use borrow.Author.Rules.{rules}
use Rattle.rows.proofs.shapes.three.Statement.{statement}
use Rattle.rows.proofs.shapes.three.Tie as tie

pub three_spec : {M : Type 1} → statement M
three_spec = tie.close (tie.spec (λ c κs. search rules) (λ c. rw c.gap-none.ensures))
