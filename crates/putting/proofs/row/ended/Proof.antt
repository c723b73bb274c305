-- `putting::row::ended` meets its contract. Assumes nothing.
use Rattle.bits.proofs.Words.{refl, rules}
use Rattle.putting.proofs.row.ended.Statement.{statement}
use Rattle.putting.proofs.row.ended.Tie as tie
use Rattle.putting.specs.Putting.{ends}

pub ended_spec : {M : Type 1} → statement M
unfolding ends
ended_spec = tie.close (tie.spec (λ c. search rules) (λ c. search rules) (λ c. search rules) (λ c. refl))
