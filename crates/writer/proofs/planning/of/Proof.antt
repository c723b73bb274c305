-- `writer::planning::of` meets its contract. Assumes nothing.
use Rattle.bits.proofs.Words.{rules}
use Rattle.table.specs.declared.Kind.TheVariants.{Masked}
use Rattle.table.specs.declared.Layout.{Layout}
use Rattle.table.specs.Kinds.{LaidOut, OfTable}
use Rattle.writer.specs.Writings.{plan_for}
use Rattle.writer.proofs.planning.of.Statement.{statement}
use Rattle.writer.proofs.planning.of.Tie as tie

laid : (l : Layout) → OfTable (Masked l) → LaidOut l
unfolding OfTable
laid l h = h

pub of_spec : {M : Type 1} → statement M
unfolding plan_for
of_spec =
    tie.close
    (tie.spec (λ c. search rules) (λ c. search rules) (λ c. search rules) (λ c κs. search rules) (λ c. search rules)
    (λ c κs. let known = c.in-Masked in (c.requires.0, laid known.layout (rw known.is at c.requires.1), c.requires.2))
    (λ c. rw c.in-Other.is) (λ c. rw c.in-Mask.is) (λ c. rw c.in-Packet.is c.packet.ensures) (λ c. rw c.in-Masked.is c.masked.ensures))
