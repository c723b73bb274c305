-- `heads::front_at` meets its contract. Assumes nothing.
use Rattle.bits.proofs.Words.{ap, ℕ, rules}
use Rattle.heads.proofs.front_at.Statement.{statement}
use Rattle.heads.proofs.front_at.Tie as tie

pub front_at_spec : {M : Type 1} → statement M
front_at_spec =
    tie.close
    (tie.spec (λ c κs. search rules)
    (λ c. let x = c.args in ap (λ (b : ℕ). record { bits = b; end = x.end; start = x.start }) c.read_field.ensures))
