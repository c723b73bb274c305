-- A step gives what it owes: its text, and then what is owed after it, is what was owed before it. Assumes nothing.
use mathlib.Core.Path.{◌≡◌, refl}
use mathlib.Core.Bool.{true}
use mathlib.Core.List.{List, [], ◌++◌}
use Prim.Native.Nat.{ℕ, zero, suc, ◌+◌, ◌^◌, ◌≤◌, ◌<◌}
use native.Mathlib.Omega.{arith}
use lib.IntN.{ℤ}
use lib.ListN.{length, take, drop}
use Rattle.format.specs.Listing.{Line, says, bad, line_says}
use Rattle.format.specs.Reading.{row_room, Outcome, accepted, idle, refused}
use Rattle.holding.specs.Pictures.{mask_of, sound}
use Rattle.reader.specs.Readings.{outcome_at}
use Rattle.walk.specs.declared.Tally.{Tally}
use Rattle.lister.specs.declared.State.{State}
use Rattle.lister.specs.declared.Work.{Work}
use Rattle.lister.specs.declared.Work.TheVariants.{Gathering, Whole, Walking}
use Rattle.lister.specs.Owed.{behind, owed_by, owed}
use Rattle.lister.specs.Steps.{gathers, opens_as, stops_as, lists_as, step_by, step_of, line_room, GoodWork, Good}
use Rattle.lister.proofs.Gathers.{gathers_owed}
use Rattle.lister.proofs.Lists.{lists_owed}
use Rattle.lister.proofs.Opens.{opens_owed}

-- ---- whether a line is under way, which is counted when it is listed

unfoldable pub under_way : Work → ℕ
under_way (Gathering zero) = 0
under_way (Gathering (suc n)) = 1
under_way (Whole n) = 1
under_way (Walking bits tally) = 1

pub under_way_le : (work : Work) → under_way work ≤ 1
unfolding under_way
under_way_le (Gathering zero) = omega arith
under_way_le (Gathering (suc n)) = omega arith
under_way_le (Whole n) = omega arith
under_way_le (Walking bits tally) = omega arith

-- ---- what is owed

-- only gathering takes bytes
pub opens_takes : (s : State) (x : Line) (line : List ℕ) (rows : List ℤ) → (opens_as s x line rows).taken ≡ 0
unfolding opens_as
opens_takes s (says l) line rows = refl
opens_takes s bad line rows = refl

pub lists_takes : (s : State) (bits : ℕ) (tally : Tally) (o : Outcome) (line : List ℕ) (rows : List ℤ) → (lists_as s bits tally o line rows).taken ≡ 0
unfolding lists_as stops_as
lists_takes s bits tally (accepted m next) line rows = refl
lists_takes s bits tally (idle holding) line rows = refl
lists_takes s bits tally (refused r missing holding) line rows = refl

module _ (s : State) (line : List ℕ) (rows : List ℤ) (fine : sound s.holding ≡ true) (large : line_room ≤ length line) (room : row_room ≤ length rows)
    (piece rest : List ℕ) (last : piece ≡ [] → rest ≡ []) where
  by_work : (work : Work) → GoodWork work (length line) → s.number + under_way work < 2 ^ 64
      → let d = step_by work s line rows piece in
      owed_by work (mask_of s.holding) s.number line (piece ++ rest) ≡ behind d.text (owed d.state d.line (drop d.taken piece ++ rest))
  unfolding step_by GoodWork gathers behind under_way
  by_work (Gathering filled) good few = gathers_owed (mask_of s.holding) s.number line filled good large piece rest last
  by_work (Whole filled) good few = rw (opens_takes s (line_says (take filled line)) line rows) (opens_owed s filled line rows (piece ++ rest) large few)
  by_work (Walking bits tally) good few =
      rw (lists_takes s bits tally (outcome_at s.holding line bits tally.place rows) line rows)
      (lists_owed s bits tally line rows fine good.0 large room few (piece ++ rest))

pub step_counts : (s : State) (line : List ℕ) (rows : List ℤ) (piece rest : List ℕ) → Good s line rows → (piece ≡ [] → rest ≡ []) → s.number + under_way s.work < 2 ^ 64
    → let d = step_of s line rows piece in owed s line (piece ++ rest) ≡ behind d.text (owed d.state d.line (drop d.taken piece ++ rest))
step_counts s line rows piece rest good last few = by_work s line rows good.held good.room good.numbers piece rest last s.work good.work few

pub step_owes : (s : State) (line : List ℕ) (rows : List ℤ) (piece rest : List ℕ) → Good s line rows → (piece ≡ [] → rest ≡ []) → s.number + 1 < 2 ^ 64
    → let d = step_of s line rows piece in owed s line (piece ++ rest) ≡ behind d.text (owed d.state d.line (drop d.taken piece ++ rest))
step_owes s line rows piece rest good last few = step_counts s line rows piece rest good last (omega (arith, under_way_le s.work))
