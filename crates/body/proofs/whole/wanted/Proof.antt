-- `body::whole::wanted` meets its contract. Assumes nothing.
use borrow.Author.Rules.{rules}
use Rattle.body.proofs.whole.wanted.Statement.{statement}
use Rattle.body.proofs.whole.wanted.Tie as tie

pub wanted_spec : {M : Type 1} → statement M
wanted_spec = tie.close (tie.spec (λ c κs. search rules) (λ c. rw c.shape_of.ensures))
