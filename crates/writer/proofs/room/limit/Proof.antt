-- `writer::room::limit` meets its contract. Assumes nothing.
use Rattle.bits.proofs.Words.{arith, rules}
use Rattle.format.specs.Writing.{limit}
use Rattle.writer.proofs.room.limit.Statement.{statement}
use Rattle.writer.proofs.room.limit.Tie as tie

pub limit_spec : {M : Type 1} → statement M
unfolding limit
limit_spec = tie.close (tie.spec (λ c. (omega arith, omega arith)) (λ c. search rules) (λ c. (omega arith, omega arith)))
