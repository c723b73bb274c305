-- `holding::Holding::with_system` meets its contract. Assumes nothing.
use Rattle.bits.proofs.Words.{refl, rules}
use Rattle.holding.specs.Building.{with_system}
use Rattle.holding.proofs.Holding.with_system.Statement.{statement}
use Rattle.holding.proofs.Holding.with_system.Tie as tie

pub with_system_spec : {M : Type 1} → statement M
unfolding with_system
with_system_spec =
    tie.close
    (tie.spec (λ c. search rules) (λ c. search rules) (λ c. search rules) (λ c. search rules) (λ c. search rules) (λ c. search rules) (λ c. search rules) (λ c. search rules) (λ c. search rules) (λ c. refl))
