-- `putting::values::front` meets its contract. Assumes nothing.
use Rattle.bits.proofs.Words.{refl, rules}
use Rattle.putting.proofs.RowPens.{front_same}
use Rattle.putting.proofs.values.front.Statement.{statement}
use Rattle.putting.proofs.values.front.Tie as tie

pub front_spec : {M : Type 1} → statement M
front_spec =
    tie.close
    (tie.spec (λ c. search rules) (λ c. search rules) (λ c. search rules) (λ c κs. search rules) (λ c. front_same c.requires refl c.four.ensures))
