-- `heads::parted` meets its contract. Assumes nothing.
use borrow.Author.Rules.{rules}
use Rattle.heads.specs.Heads.{head_from}
use Rattle.heads.proofs.parted.Statement.{statement}
use Rattle.heads.proofs.parted.Tie as tie

pub parted_spec : {M : Type 1} → statement M
unfolding head_from
parted_spec = tie.close (tie.spec (λ c. search rules))
