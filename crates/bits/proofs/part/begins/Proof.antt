-- `bits::part::begins` meets its contract. Assumes nothing.
use native.Mathlib.Omega.{arith}
use borrow.Author.Tests.{lt-ltb, le-ltb}
use Rattle.bits.specs.Parts.{start_of}
use Rattle.bits.proofs.part.begins.Statement.{statement}
use Rattle.bits.proofs.part.begins.Tie as tie

pub begins_spec : {M : Type 1} → statement M
unfolding start_of
begins_spec =
    tie.close
    (tie.spec (λ c. rw (lt-ltb c.args.from c.args.to (omega arith)))
    (λ c. rw (le-ltb c.args.from c.args.to (omega arith))))
