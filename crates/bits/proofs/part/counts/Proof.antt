-- `bits::part::counts` meets its contract. Assumes nothing.
use Rattle.bits.proofs.Words.{arith, rules}
use borrow.Author.Tests.{lt-ltb, le-ltb}
use Rattle.bits.specs.Parts.{count_of}
use Rattle.bits.proofs.part.counts.Statement.{statement}
use Rattle.bits.proofs.part.counts.Tie as tie

pub counts_spec : {M : Type 1} → statement M
unfolding count_of
counts_spec =
    tie.close
    (tie.spec (λ c. search rules) (λ c. search rules) (λ c. search rules) (λ c. rw (lt-ltb c.args.from c.args.to (omega arith)))
    (λ c. rw (le-ltb c.args.from c.args.to (omega arith))))
