-- Each step leaves less to do, until all is done: steps end, whatever the sizes of the pieces. Assumes nothing.
use mathlib.Core.Path.{◌≡◌, refl, ap}
use mathlib.Core.Bool.{Bool, true, false, cond}
use mathlib.Core.List.{List, [], ◌∷◌, ◌++◌}
use Prim.Native.Nat.{ℕ, zero, suc, ◌+◌, ◌-◌, ◌*◌, ◌≤◌, ◌<◌}
use native.Mathlib.Nat.{le_refl}
use native.Mathlib.Omega.{arith}
use lib.Dec.{eqb-suc-zero}
use lib.IntN.{ℤ}
use lib.ListN.{length, take, drop}
use Rattle.format.specs.Listing.{Line, says, bad, line_says}
use Rattle.format.specs.Reading.{stretch_limit, row_room, Outcome, accepted, idle, refused}
use Rattle.format.proofs.InputLines.{says_line}
use Rattle.holding.specs.Pictures.{sound}
use Rattle.reader.specs.Readings.{outcome_at}
use Rattle.walk.specs.declared.Tally.{Tally}
use Rattle.lister.specs.declared.State.{State}
use Rattle.lister.specs.declared.Work.{Work}
use Rattle.lister.specs.declared.Work.TheVariants.{Gathering, Whole, Walking}
use Rattle.lister.specs.Gathering.{up_to, ends_in, filled_to, gathered}
use Rattle.lister.specs.Steps.{gathers, opens_as, stops_as, lists_as, step_by, step_of, line_room, GoodWork, Good}
use Rattle.lister.proofs.Bounds.{left_length}
use Rattle.lister.proofs.LineFeeds.{up_to_le, up_to_some}
use Rattle.lister.proofs.KeepsGood.{goes_forth}
use Rattle.lister.proofs.Owes.{opens_takes, lists_takes}

-- at most so many steps of a line after its last byte: it is whole, it is opened, each message takes some bits, and the stop
unfoldable pub steps_of : Work → ℕ
steps_of (Gathering zero) = 0
steps_of (Gathering (suc n)) = stretch_limit + 3
steps_of (Whole n) = stretch_limit + 2
steps_of (Walking bits tally) = suc (bits - tally.place)

unfoldable pub to_do : State → List ℕ → ℕ
to_do s input = steps_of s.work + (stretch_limit + 4) * length input

-- when nothing is to do, nothing is under way and no input is left
pub none_to_do : (s : State) (input : List ℕ) → to_do s input ≡ 0 → (s.work ≡ Gathering 0) × (input ≡ [])
unfolding to_do steps_of
none_to_do s input e = (rested s.work (omega arith), empty input (omega arith))
  where
    rested : (work : Work) → steps_of work ≡ 0 → work ≡ Gathering 0
    rested (Gathering zero) e = refl
    rested (Gathering (suc n)) e = absurd (omega arith)
    rested (Whole n) e = absurd (omega arith)
    rested (Walking bits tally) e = absurd (omega arith)

    empty : (l : List ℕ) → length l ≡ 0 → l ≡ []
    empty [] e = refl
    empty (x ∷ l) e = absurd (omega arith)

-- ---- what a step leaves to do of its line

either_few : (b : Bool) (v w : Work) {n : ℕ} → steps_of v ≤ n → steps_of w ≤ n → steps_of (cond b v w) ≤ n
either_few true v w few other = few
either_few false v w few other = other

gathering_few : (n : ℕ) → steps_of (Gathering n) ≤ stretch_limit + 3
unfolding steps_of
gathering_few zero = omega arith
gathering_few (suc n) = omega arith

comes_few : (room filled c : ℕ) (cs : List ℕ) → steps_of (gathered room filled (c ∷ cs)) ≤ stretch_limit + 3
unfolding gathered steps_of
comes_few room filled c cs = either_few (ends_in (c ∷ cs)) (Whole _) (Gathering _) (omega arith) (gathering_few (filled_to room filled (up_to (c ∷ cs))))

-- the input has ended: what has come is whole
ends_few : (room n : ℕ) → steps_of (gathered room (suc n) []) < stretch_limit + 3
unfolding gathered steps_of
ends_few room n = rw (eqb-suc-zero n) (le_refl (stretch_limit + 3))

opens_few : (s : State) (line before : List ℕ) (rows : List ℤ) (x : Line) → line_says before ≡ x → steps_of (opens_as s x line rows).state.work < stretch_limit + 2
unfolding opens_as steps_of
opens_few s line before rows (says l) e = omega (arith, (says_line before l e).1)
opens_few s line before rows bad e = omega arith

module _ (s : State) (line : List ℕ) (rows : List ℤ) (fine : sound s.holding ≡ true) (large : line_room ≤ length line) (room : row_room ≤ length rows) where
  lists_few : (bits : ℕ) (tally : Tally) → GoodWork (Walking bits tally) (length line) → (o : Outcome) → outcome_at s.holding line bits tally.place rows ≡ o
      → steps_of (lists_as s bits tally o line rows).state.work < suc (bits - tally.place)
  unfolding lists_as stops_as steps_of
  lists_few bits tally good (accepted m next) e = omega (arith, goes_forth s line rows fine large room bits tally good m next e)
  lists_few bits tally good (idle holding) e = omega arith
  lists_few bits tally good (refused r missing holding) e = omega arith

  -- ---- and of all

  by_work : (work : Work) (piece rest : List ℕ) → GoodWork work (length line) → (piece ≡ [] → rest ≡ []) → 0 < steps_of work + (stretch_limit + 4) * length (piece ++ rest)
      → let d = step_by work s line rows piece in
      steps_of d.state.work + (stretch_limit + 4) * length (drop d.taken piece ++ rest) < steps_of work + (stretch_limit + 4) * length (piece ++ rest)
  unfolding step_by gathers up_to steps_of
  by_work (Gathering zero) [] rest good last some = absurd (omega (arith, ap length (last refl)))
  by_work (Gathering (suc n)) [] rest good last some = omega (arith, ends_few (length line) n)
  by_work (Gathering filled) (c ∷ cs) rest good last some =
      let piece : List ℕ = c ∷ cs in
      omega (arith, left_length (up_to piece) piece rest (up_to_le piece), up_to_some c cs, comes_few (length line) filled c cs)
  by_work (Whole filled) piece rest good last some =
      let x = line_says (take filled line) in
      rw (opens_takes s x line rows) (omega (arith, opens_few s line (take filled line) rows x refl))
  by_work (Walking bits tally) piece rest good last some =
      let o = outcome_at s.holding line bits tally.place rows in
      rw (lists_takes s bits tally o line rows) (omega (arith, lists_few bits tally good o refl))

pub step_lessens : (s : State) (line : List ℕ) (rows : List ℤ) (piece rest : List ℕ) → Good s line rows → (piece ≡ [] → rest ≡ []) → 0 < to_do s (piece ++ rest)
    → let d = step_of s line rows piece in to_do d.state (drop d.taken piece ++ rest) < to_do s (piece ++ rest)
unfolding to_do
step_lessens s line rows piece rest good last some = by_work s line rows good.held good.room good.numbers s.work piece rest good.work last some
