-- What a step is made under holds after it. Assumes nothing.
use mathlib.Core.Path.{◌≡◌, refl, sym, ap, ◌∙◌}
use mathlib.Core.Bool.{Bool, true, false, cond}
use mathlib.Core.List.{List, [], ◌∷◌}
use Prim.Native.Nat.{ℕ, ◌+◌, ◌≤◌, ◌<◌, min}
use native.Mathlib.Nat.{min-le_left}
use native.Mathlib.Omega.{arith}
use lib.Dec.{eqb}
use lib.IntN.{ℤ}
use lib.ListN.{length, take}
use lib.Seq.{length-sets}
use Rattle.format.specs.Listing.{Line, says, bad, line_says}
use Rattle.format.specs.Masks.{Lent}
use Rattle.format.specs.Reading.{row_room, Outcome, accepted, idle, refused, reading}
use Rattle.format.specs.Table.{Message, table}
use Rattle.format.proofs.CutWalks.{reads_from}
use Rattle.format.proofs.InputLines.{says_line}
use Rattle.format.proofs.Placed.{Inside}
use Rattle.format.proofs.Stops.{Stopped}
use Rattle.holding.specs.Pictures.{mask_of, sound}
use Rattle.holding.proofs.Sounds.{sounds}
use Rattle.reader.specs.Readings.{outcome_at, read_at}
use Rattle.reader.proofs.Lents.{sound_lent}
use Rattle.walk.specs.declared.Tally.{Tally}
use Rattle.walk.specs.Standing.{stand_at, Stands}
use Rattle.walk.proofs.Going.{Goes, next_stand, next_goes}
use Rattle.lister.specs.declared.State.{State}
use Rattle.lister.specs.declared.Work.{Work}
use Rattle.lister.specs.declared.Work.TheVariants.{Gathering, Whole, Walking}
use Rattle.lister.specs.Gathering.{up_to, ends_in, kept_in, filled_to, gathered}
use Rattle.lister.specs.Steps.{gathers, opens_as, stops_as, lists_as, step_by, step_of, line_room, GoodWork, Good}
use Rattle.lister.proofs.Lists.{left_sound}

-- ---- a line's bytes have room

gathered_good : (room filled : ℕ) (piece : List ℕ) → filled ≤ room → GoodWork (gathered room filled piece) room
unfolding gathered GoodWork filled_to
gathered_good room filled [] there = go (eqb filled 0)
  where
    go : (b : Bool) → GoodWork (cond b (Gathering 0) (Whole filled)) room
    go true = omega arith
    go false = there
gathered_good room filled (c ∷ cs) there = go (ends_in (c ∷ cs)) (min room (filled + up_to (c ∷ cs))) (min-le_left room (filled + up_to (c ∷ cs)))
  where
    go : (b : Bool) (n : ℕ) → n ≤ room → GoodWork (cond b (Whole n) (Gathering n)) room
    go true n few = few
    go false n few = few

-- ---- a step, whatever work the state has

module _ (s : State) (line : List ℕ) (rows : List ℤ) (fine : sound s.holding ≡ true) (large : line_room ≤ length line) (room : row_room ≤ length rows) where
  gathers_good : (filled : ℕ) (piece : List ℕ) → filled ≤ length line
      → let d = gathers s filled line rows piece in Good d.state d.line d.rows
  unfolding gathers kept_in
  gathers_good filled piece there = record {
    held = fine;
    room = rw length-sets large;
    numbers = room;
    work = rw length-sets (gathered_good (length line) filled piece there);
  }

  opens_good : (filled : ℕ) (x : Line) → line_says (take filled line) ≡ x → let d = opens_as s x line rows in Good d.state d.line d.rows
  unfolding opens_as GoodWork
  opens_good filled (says l) e = record {
    held = fine;
    room = rw length-sets large;
    numbers = room;
    work = ((says_line (take filled line) l e).1, omega arith, omega arith, omega arith);
  }
  opens_good filled bad e = record { held = fine; room = large; numbers = room; work = omega arith }

  module _ (bits : ℕ) (tally : Tally) (good : GoodWork (Walking bits tally) (length line)) where
    abbrev here : Outcome
    here = outcome_at s.holding line bits tally.place rows

    stands : Stands line bits (stand_at s.holding tally rows)
    unfolding GoodWork
    stands = record {
      held = fine;
      lent = omega (arith, good);
      limit = omega (arith, good);
      there = omega (arith, good);
      room = room;
      few = omega (arith, good);
      rows = omega (arith, good);
    }

    -- the reading tests nothing that does not hold
    read_there : here ≡ read_at s.holding line bits tally.place
    unfolding outcome_at
    read_there =
        let inside : Inside line bits tally.place = record { limit = stands.limit; lent = stands.lent; there = stands.there } in
        ap (λ (l : Lent). reading l line bits tally.place rows) (sound_lent s.holding fine)
        ∙ reads_from table (mask_of s.holding) (sounds s.holding fine).good_held line tally.place rows room bits inside

    next_stand_lem : (m : Message) (next : ℕ) → here ≡ accepted m next → Goes line bits (stand_at s.holding tally rows) (next_stand (stand_at s.holding tally rows) m next)
    next_stand_lem m next e = next_goes line bits (stand_at s.holding tally rows) stands m next (sym read_there ∙ e)

    -- a message takes some bits of the stretch
    pub goes_forth : (m : Message) (next : ℕ) → here ≡ accepted m next → (tally.place < next) × (next ≤ bits)
    goes_forth m next e = ((next_stand_lem m next e).past, (next_stand_lem m next e).stands.there)

    goes_good : (m : Message) (next : ℕ) → here ≡ accepted m next → let d = lists_as s bits tally (accepted m next) line rows in Good d.state d.line d.rows
    unfolding lists_as GoodWork
    goes_good m next e =
        let after = (next_stand_lem m next e).stands in
        record {
          held = after.held;
          room = large;
          numbers = after.room;
          work = (after.limit, after.there, after.few, after.rows);
        }

    stops_good : (o : Outcome) → here ≡ o → Stopped o → let d = stops_as s tally o line rows in Good d.state d.line d.rows
    unfolding stops_as GoodWork
    stops_good o e stopped = record {
      held = left_sound s bits tally line rows fine stands.limit large room o e stopped;
      room = large;
      numbers = room;
      work = omega arith;
    }

    lists_good : (o : Outcome) → here ≡ o → let d = lists_as s bits tally o line rows in Good d.state d.line d.rows
    unfolding lists_as
    lists_good (accepted m next) e = goes_good m next e
    lists_good (idle holding) e = stops_good (idle holding) e tt
    lists_good (refused r missing holding) e = stops_good (refused r missing holding) e tt

  by_work : (work : Work) (piece : List ℕ) → GoodWork work (length line) → let d = step_by work s line rows piece in Good d.state d.line d.rows
  unfolding step_by GoodWork
  by_work (Gathering filled) piece good = gathers_good filled piece good
  by_work (Whole filled) piece good = opens_good filled (line_says (take filled line)) refl
  by_work (Walking bits tally) piece good = lists_good bits tally good (here bits tally good) refl

pub step_good : (s : State) (line : List ℕ) (rows : List ℤ) (piece : List ℕ) → Good s line rows → let d = step_of s line rows piece in Good d.state d.line d.rows
step_good s line rows piece good = by_work s line rows good.held good.room good.numbers s.work piece good.work
