-- `host_write::written` meets its contract. Assumes nothing.
use Rattle.bits.proofs.Words.{refl, rules}
use Rattle.host_write.specs.Writes.{written_handed}
use Rattle.host_write.proofs.written.Statement.{statement}
use Rattle.host_write.proofs.written.Tie as tie

pub written_spec : {M : Type 1} → statement M
unfolding written_handed
written_spec = tie.close (tie.spec (λ c. search rules) (λ c. refl))
