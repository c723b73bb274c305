-- A heading under what is held: what reading its body asks, and what it comes to.
use Rattle.std.specs.Prelude.{ℕ, List, ℤ}
use Rattle.body.specs.Lent.{Lends}
use Rattle.format.specs.Reading.{Outcome}
use Rattle.heads.specs.declared.heading.Heading.{Heading}
use Rattle.heads.specs.Headings.{said_by, FitsHeading}
use Rattle.heads.specs.Sorting.{headed_at}
use Rattle.holding.specs.declared.Holding.{Holding}
use Rattle.holding.specs.Held.{view_of}
use Rattle.holding.specs.Pictures.{mask_of}
use Rattle.reader.specs.Readings.{Ready, Begins}

-- the IDs of its slots, its masks and its strips are lent
abbrev pub AsksBody : Holding → Heading → List ℕ → List ℕ → ℕ → List ℤ → Type 0
AsksBody h heading ids bytes end rows =
    Ready h bytes end rows × Lends h ids h.satellites h.strips × FitsHeading heading × Begins end (said_by (view_of h) heading)

abbrev pub headed_in : Holding → Heading → List ℕ → ℕ → Outcome
headed_in h heading bytes end = headed_at (mask_of h) bytes end (said_by (view_of h) heading)
