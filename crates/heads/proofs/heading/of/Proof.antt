-- `heads::heading::of` meets its contract. Assumes nothing.
use borrow.Author.Rules.{rules}
use Rattle.format.specs.Ends.{end_from}
use Rattle.format.specs.Programs.{later, run}
use Rattle.heads.specs.Headings.{said_by, FitsHeading, HasBody, body_for}
use Rattle.heads.specs.Sorting.{heading_for}
use Rattle.heads.proofs.heading.of.Statement.{statement}
use Rattle.heads.proofs.heading.of.Tie as tie
use Rattle.table.specs.declared.Kind.TheVariants.{Masked}
use Rattle.table.specs.declared.Layout.{Layout}
use Rattle.table.specs.Kinds.{LaidOut, OfTable}

laid : (l : Layout) → OfTable (Masked l) → LaidOut l
unfolding OfTable
laid l h = h

pub of_spec : {M : Type 1} → statement M
unfolding said_by FitsHeading HasBody body_for heading_for end_from run later
of_spec =
    tie.close
    (tie.spec (λ c. search rules) (λ c. search rules) (λ c. search rules)
    (λ c κs. let p = c.requires in (record { bytes = _; opens = p.5 }, p.4.room)) (λ c. search rules)
    (λ c κs. let pre = c.requires in (pre.0, pre.1, pre.2, laid c.in-Masked.layout (rw c.in-Masked.is at pre.3), pre.4, pre.5))
    (λ c. (λ v shows. rw c.in-Other.is, record { fits = tt; this = tt })) (λ c. (λ v shows. rw c.in-Mask.is, record { fits = tt; this = tt }))
    (λ c. (λ v shows. rw c.in-Packet.is (c.packet.ensures.0 _ c.requires.5 v), rw c.in-Packet.is (c.packet.ensures.1 _ c.requires.5)))
    (λ c. (λ v shows. rw c.in-Masked.is (c.masked.ensures.0 v shows), rw c.in-Masked.is c.masked.ensures.1)))
