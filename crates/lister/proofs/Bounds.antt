-- A line is counted once: its number, with the line under way and the bytes left, does not grow. Assumes nothing.
use mathlib.Core.Path.{◌≡◌}
use mathlib.Core.List.{List, [], ◌∷◌, ◌++◌}
use Prim.Native.Nat.{ℕ, zero, suc, ◌+◌, ◌-◌, ◌^◌, ◌≤◌}
use native.Mathlib.Nat.{le_refl, min-le_right}
use native.Mathlib.Omega.{arith}
use lib.Dec.{eqb-suc-zero}
use lib.IntN.{ℤ}
use lib.ListN.{length, take, drop, length-append, length-drop}
use Rattle.format.specs.Listing.{Line, says, bad, line_says}
use Rattle.format.specs.Reading.{Outcome, accepted, idle, refused}
use Rattle.reader.specs.Readings.{outcome_at}
use Rattle.walk.specs.declared.Tally.{Tally}
use Rattle.lister.specs.declared.State.{State}
use Rattle.lister.specs.declared.Work.{Work}
use Rattle.lister.specs.declared.Work.TheVariants.{Gathering, Whole, Walking}
use Rattle.lister.specs.Gathering.{up_to, gathered}
use Rattle.lister.specs.Steps.{counted, gathers, opens_as, stops_as, lists_as, step_by, step_of}
use Rattle.lister.proofs.LineFeeds.{up_to_le, up_to_some}
use Rattle.lister.proofs.Owes.{under_way, under_way_le, opens_takes, lists_takes}

-- ---- bytes taken and bytes left

pub left_length : (n : ℕ) (piece rest : List ℕ) → n ≤ length piece → n + length (drop n piece ++ rest) ≡ length (piece ++ rest)
left_length n piece rest few = simp (length-append, length-drop) (omega arith)

-- ---- the line's number

-- no more than one
counted_le : (n : ℕ) → counted n ≤ n + 1
unfolding counted
counted_le n = min-le_right (2 ^ 64 - 1) (n + 1)

-- the last line has at most this number
unfoldable pub reach : State → List ℕ → ℕ
reach s input = s.number + under_way s.work + length input

opens_reach : (s : State) (x : Line) (line : List ℕ) (rows : List ℤ) → let d = opens_as s x line rows in d.state.number + under_way d.state.work ≤ s.number + 1
unfolding opens_as under_way
opens_reach s (says l) line rows = le_refl (s.number + 1)
opens_reach s bad line rows = omega (arith, counted_le s.number)

lists_reach : (s : State) (bits : ℕ) (tally : Tally) (o : Outcome) (line : List ℕ) (rows : List ℤ)
    → let d = lists_as s bits tally o line rows in d.state.number + under_way d.state.work ≤ s.number + 1
unfolding lists_as stops_as under_way
lists_reach s bits tally (accepted m next) line rows = le_refl (s.number + 1)
lists_reach s bits tally (idle holding) line rows = omega (arith, counted_le s.number)
lists_reach s bits tally (refused r missing holding) line rows = omega (arith, counted_le s.number)

-- a line of which something came is under way to the end
ends_reach : (room filled : ℕ) → under_way (gathered room filled []) ≤ under_way (Gathering filled)
unfolding gathered under_way
ends_reach room zero = le_refl 0
ends_reach room (suc n) = rw (eqb-suc-zero n) (le_refl 1)

module _ (s : State) (line : List ℕ) (rows : List ℤ) (rest : List ℕ) where
  by_work : (work : Work) (piece : List ℕ)
      → let d = step_by work s line rows piece in
      d.state.number + under_way d.state.work + length (drop d.taken piece ++ rest) ≤ s.number + under_way work + length (piece ++ rest)
  unfolding step_by gathers under_way up_to
  by_work (Gathering filled) [] = omega (arith, ends_reach (length line) filled)
  by_work (Gathering filled) (c ∷ cs) =
      let piece : List ℕ = c ∷ cs in
      let kept = left_length (up_to piece) piece rest (up_to_le piece) in
      omega (arith, kept, up_to_some c cs, under_way_le (gathered (length line) filled piece))
  by_work (Whole filled) piece =
      rw (opens_takes s (line_says (take filled line)) line rows) (omega (arith, opens_reach s (line_says (take filled line)) line rows))
  by_work (Walking bits tally) piece =
      let o = outcome_at s.holding line bits tally.place rows in
      rw (lists_takes s bits tally o line rows) (omega (arith, lists_reach s bits tally o line rows))

  pub step_reach : (piece : List ℕ) → let d = step_of s line rows piece in reach d.state (drop d.taken piece ++ rest) ≤ reach s (piece ++ rest)
  unfolding reach
  step_reach piece = by_work s.work piece
