-- `host_write::refused` meets its contract. Assumes nothing.
use Rattle.bits.proofs.Words.{rules}
use Rattle.format.specs.Answers.{undone_at}
use Rattle.host_write.specs.Writes.{written_handed}
use Rattle.host_write.proofs.refused.Statement.{statement}
use Rattle.host_write.proofs.refused.Tie as tie

pub refused_spec : {M : Type 1} → statement M
unfolding written_handed undone_at
refused_spec = tie.close (tie.spec (λ c κs. search rules) (λ c. λ i. record { answer = c.number.ensures i; place = c.args.start; count = 0 }))
