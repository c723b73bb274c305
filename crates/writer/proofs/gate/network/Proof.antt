-- `writer::gate::network` meets its contract. Assumes nothing.
use Rattle.bits.proofs.Words.{◌≡◌, sym, ◌∙◌, pos, rules}
use mir.Facts.{to_z-of_z}
use Rattle.format.specs.Same.{sameℤ}
use Rattle.writer.proofs.gate.network.Statement.{statement}
use Rattle.writer.proofs.gate.network.Tie as tie

nought : (c : tie.After-is) → sameℤ c.args.c (pos 0) ≡ c.is.result
nought c = sym (rw (to_z-of_z c.ranges.c) at c.is.ensures)

pub network_spec : {M : Type 1} → statement M
network_spec =
    tie.close
    (tie.spec (λ c. rw c.if-not-flagged.true) (λ c κs. search rules)
    (λ c. rw (c.if-not-flagged.false, nought c.before ∙ c.if-is.true))
    (λ c. rw (c.if-not-flagged.false, nought c.before ∙ c.if-is.false)))
