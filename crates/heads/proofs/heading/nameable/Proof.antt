-- `heads::heading::nameable` meets its contract. Assumes nothing.
use Rattle.bits.proofs.Words.{sym, rules}
use lib.Seq.{length-take-le}
use Rattle.heads.proofs.heading.nameable.Statement.{statement}
use Rattle.heads.proofs.heading.nameable.Tie as tie

pub nameable_spec : {M : Type 1} → statement M
nameable_spec =
    tie.close
    (tie.spec (λ c. rw c.if-not-cells.true)
    (λ c. sym (length-take-le _ _ c.requires)) (λ c κs. search rules)
    (λ c. rw c.if-not-cells.false c.celled.ensures))
