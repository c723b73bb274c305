-- Runs of late joiners, computed: three of which all is true that demand 3 supposes, and one where two masks of one issue differ, which shows that this is
-- needed. Assumes nothing.
use mathlib.Core.Path.{◌≡◌, refl, ap}
use mathlib.Core.Bool.{Bool, true, false, cond, false≢true}
use mathlib.Core.List.{List, [], ◌∷◌, ◌++◌, flat_map, flatten}
use Prim.Native.Nat.{ℕ}
use native.Mathlib.Nat.{le_refl}
use native.Mathlib.Omega.{arith}
use lib.IntN.{ℤ, pos, neg_ℤ}
use lib.ListN.{length, replicate, get_or, length-replicate}
use Rattle.format.specs.Masks.{Held, nothing, mask}
use Rattle.format.specs.Reading.{row_room}
use Rattle.format.specs.Rows.{absent}
use Rattle.format.specs.Table.{table}
use Rattle.format.specs.Walking.{HandedOut}
use Rattle.format.proofs.Cases.{Field, ◌∶◌, spell_all, bytes_of, Report, ◌at◌after◌and◌says◌, report, opening, mask_head, system, clock, said_mask, said_head, computing}
use Rattle.promises.specs.LateJoiners as Late
use Rattle.promises.specs.LateJoiners.{Turn, first, second, first_after, second_after, Throughout, Unrefused, RoomEnough, SameIssueSameMask, ShowsTheTruth}
use Rattle.promises.proofs.LateJoiners.{late_joiners}
use Rattle.promises.proofs.TwoTables.{level}

-- ---- stretches

-- a mask of GPS satellites with one signal
mask_of : ℕ → ℕ → List Field
mask_of issue satellites = mask_head issue 1 ++ system 0 satellites 0x8000

-- satellites 1 and 3, and 1 and 2
one_and_three : ℕ
one_and_three = 0xA000000000

one_and_two : ℕ
one_and_two = 0xC000000000

-- a stretch that the second gets, or misses, with room enough for both
turn : Bool → List Field → Turn
turn gets fs =
    let room : List ℤ = replicate row_room (pos 0) in
    record { bytes = bytes_of fs; end = length (spell_all fs); rows = room; gets = gets; others = room }

enough : (gets : Bool) (fs : List Field) (f s : Held) → RoomEnough f s (turn gets fs)
unfolding RoomEnough turn
enough gets fs f s _ = rw length-replicate (le_refl row_room)

-- ---- what they say

-- the first's, and the second's if it gets the stretch, for each
reports : Held → Held → List Turn → List (List Report)
reports f s [] = []
reports f s (x ∷ xs) = (report (first table f x) ∷ cond x.gets (report (second table s x) ∷ []) []) ∷ reports (first_after table f x) (second_after table s x) xs

row : ℕ → ℤ → List ℤ
row satellite clock = pos 0 ∷ pos satellite ∷ absent ∷ clock ∷ absent ∷ absent ∷ absent ∷ absent ∷ []

-- clocks of two satellites, at a place
said_clocks : ℕ → ℕ → ℕ → List (List ℤ)
said_clocks place issue satellite = said_head place 67 3 issue 2 ∷ row 1 (pos 5) ∷ row satellite (neg_ℤ (pos 16384)) ∷ []

-- the k-th number of the rows that are handed out
number_at : ℕ → List HandedOut → ℤ
number_at k ds = get_or (flatten (flat_map (λ d. d.content.rows) ds)) k absent

-- what the runs compute with
runs : Unit {0}
unfolding computing mask_of one_and_three one_and_two turn reports row said_clocks number_at Late.received Late.first Late.second Late.first_after Late.second_after Late.Throughout Late.IsIdle Late.Unrefused Late.SameIssueSameMask Late.ShowsTheTruth Late.OpeningPart Late.held_after
runs = tt

-- ---- a late joiner: it misses the mask, refuses the clocks under it by name, and shows all from the next mask on

joins : List Turn
joins = turn false (mask_of 3 one_and_three ++ clock 3) ∷ turn true (clock 3) ∷ turn true (mask_of 4 one_and_two ++ clock 4) ∷ turn true (clock 4) ∷ []

-- what both hand out in each stretch, and how each stops
joins_report :
    reports nothing nothing joins
    ≡ ((0 at 177 after 2 and 2 says (said_mask 110 3 1 ∷ said_clocks 110 3 3)) ∷ [])
    ∷ ((0 at 67 after 1 and 2 says said_clocks 0 3 3) ∷ (6 at 0 after 0 and 0 says []) ∷ [])
    ∷ ((0 at 177 after 2 and 2 says (said_mask 110 4 1 ∷ said_clocks 110 4 2)) ∷ (0 at 177 after 2 and 2 says (said_mask 110 4 1 ∷ said_clocks 110 4 2)) ∷ [])
    ∷ ((0 at 67 after 1 and 2 says said_clocks 0 4 2) ∷ (0 at 67 after 1 and 2 says said_clocks 0 4 2) ∷ [])
    ∷ []
unfolding runs joins
joins_report = refl

-- none refused
joins_unrefused : Throughout table table (Unrefused table) nothing nothing joins
unfolding runs joins
joins_unrefused = (tt, (tt, (tt, (tt, tt))))

-- masks of one issue are equal: the second holds none before it reads the one that both then hold
joins_equal : Throughout table table SameIssueSameMask nothing nothing joins
unfolding runs joins
joins_equal = ((λ _ m n _ e _. cc), ((λ _ m n _ e _. cc), ((λ _ m n _ e _. cc), ((λ _. (level _).equal), tt))))

-- so the demand speaks of this run
joins_truth : Throughout table table (ShowsTheTruth table) nothing nothing joins
unfolding Throughout joins
joins_truth = late_joiners joins joins_unrefused (enough _ _ _ _, (enough _ _ _ _, (enough _ _ _ _, (enough _ _ _ _, tt)))) joins_equal

-- ---- one that lags: it misses a new mask, and then shows what needs none and stops with "other issue", short of the end

-- a packet's part
part : List Field
part = opening 10 ++ (1 ∶ 1 ∷ 3 ∶ 5 ∷ 2 ∶ 0 ∷ 40 ∶ 0x0102030405 ∷ [])

said_part : List (List ℤ)
said_part =
    (pos 0 ∷ pos 62 ∷ pos 10 ∷ absent ∷ absent ∷ pos 1 ∷ absent ∷ pos 5 ∷ pos 0 ∷ absent ∷ pos 1 ∷ [])
    ∷ (absent ∷ absent ∷ pos 1 ∷ pos 1 ∷ pos 2 ∷ pos 3 ∷ pos 4 ∷ pos 5 ∷ [])
    ∷ []

lags : List Turn
lags = turn true (mask_of 3 one_and_three) ∷ turn false (mask_of 4 one_and_two) ∷ turn true (part ++ clock 4) ∷ []

-- of the last stretch it hands out the first of two messages, and refuses the other at its place
lags_report :
    reports nothing nothing lags
    ≡ ((0 at 110 after 1 and 0 says (said_mask 110 3 1 ∷ [])) ∷ (0 at 110 after 1 and 0 says (said_mask 110 3 1 ∷ [])) ∷ [])
    ∷ ((0 at 110 after 1 and 0 says (said_mask 110 4 1 ∷ [])) ∷ [])
    ∷ ((0 at 129 after 2 and 3 says (said_part ++ said_clocks 62 4 2)) ∷ (7 at 62 after 1 and 1 says said_part) ∷ [])
    ∷ []
unfolding runs part said_part lags
lags_report = refl

-- none refused
lags_unrefused : Throughout table table (Unrefused table) nothing nothing lags
unfolding runs part lags
lags_unrefused = (tt, (tt, (tt, tt)))

-- masks of one issue are equal: they hold none, or masks of two issues
issue_of : Held → ℕ
issue_of nothing = 0
issue_of (mask m) = m.iod

lags_equal : Throughout table table SameIssueSameMask nothing nothing lags
unfolding runs part lags issue_of
lags_equal = ((λ _ m n _ e _. cc), ((λ gets. absurd (false≢true gets)), ((λ _ m n e g same. absurd (omega (arith, ap issue_of e, ap issue_of g, same))), tt)))

-- so the demand speaks of this run
lags_truth : Throughout table table (ShowsTheTruth table) nothing nothing lags
unfolding Throughout lags
lags_truth = late_joiners lags lags_unrefused (enough _ _ _ _, (enough _ _ _ _, (enough _ _ _ _, tt))) lags_equal

-- ---- one that is told of a change: it misses a mask, the number comes back with another one, and it refuses that as "changed mask" and then holds nothing

drops : List Turn
drops =
    turn true (mask_of 3 one_and_three)
    ∷ turn false (mask_of 4 one_and_three)
    ∷ turn true (mask_of 3 one_and_two ++ clock 3)
    ∷ turn true (mask_of 3 one_and_two ++ clock 3)
    ∷ []

-- of the stretch that opens with the changed mask it hands out nothing, and of the next, which opens with it again, all
drops_report :
    reports nothing nothing drops
    ≡ ((0 at 110 after 1 and 0 says (said_mask 110 3 1 ∷ [])) ∷ (0 at 110 after 1 and 0 says (said_mask 110 3 1 ∷ [])) ∷ [])
    ∷ ((0 at 110 after 1 and 0 says (said_mask 110 4 1 ∷ [])) ∷ [])
    ∷ ((0 at 177 after 2 and 2 says (said_mask 110 3 1 ∷ said_clocks 110 3 2)) ∷ (13 at 0 after 0 and 0 says []) ∷ [])
    ∷ ((0 at 177 after 2 and 2 says (said_mask 110 3 1 ∷ said_clocks 110 3 2)) ∷ (0 at 177 after 2 and 2 says (said_mask 110 3 1 ∷ said_clocks 110 3 2)) ∷ [])
    ∷ []
unfolding runs drops
drops_report = refl

-- what it held before the stretch that it misses is dropped
drops_empty : second_after table (second_after table nothing (turn true (mask_of 3 one_and_three))) (turn true (mask_of 3 one_and_two ++ clock 3)) ≡ nothing
unfolding runs
drops_empty = refl

-- none refused
drops_unrefused : Throughout table table (Unrefused table) nothing nothing drops
unfolding runs drops
drops_unrefused = (tt, (tt, (tt, (tt, tt))))

-- masks of one issue are equal: where the changed one comes, they hold masks of two issues
drops_equal : Throughout table table SameIssueSameMask nothing nothing drops
unfolding runs drops issue_of
drops_equal = (
  (λ _ m n _ e _. cc),
  ((λ gets. absurd (false≢true gets)), ((λ _ m n e g same. absurd (omega (arith, ap issue_of e, ap issue_of g, same))), ((λ _ m n _ e _. cc), tt))),
)

-- so the demand speaks of this run
drops_truth : Throughout table table (ShowsTheTruth table) nothing nothing drops
unfolding Throughout drops
drops_truth = late_joiners drops drops_unrefused (enough _ _ _ _, (enough _ _ _ _, (enough _ _ _ _, (enough _ _ _ _, tt)))) drops_equal

-- ---- two masks of one issue: the second misses all masks until the number comes back with another one, and shows a neighbour's clock

clashes : List Turn
clashes = turn true (mask_of 3 one_and_three) ∷ turn false (mask_of 4 one_and_three) ∷ turn false (mask_of 3 one_and_two) ∷ turn true (clock 3) ∷ []

-- both read the last stretch to its end, to different satellites
clashes_report :
    reports nothing nothing clashes
    ≡ ((0 at 110 after 1 and 0 says (said_mask 110 3 1 ∷ [])) ∷ (0 at 110 after 1 and 0 says (said_mask 110 3 1 ∷ [])) ∷ [])
    ∷ ((0 at 110 after 1 and 0 says (said_mask 110 4 1 ∷ [])) ∷ [])
    ∷ ((0 at 110 after 1 and 0 says (said_mask 110 3 1 ∷ [])) ∷ [])
    ∷ ((0 at 67 after 1 and 2 says said_clocks 0 3 2) ∷ (0 at 67 after 1 and 2 says said_clocks 0 3 3) ∷ [])
    ∷ []
unfolding runs clashes
clashes_report = refl

-- none refused
clashes_unrefused : Throughout table table (Unrefused table) nothing nothing clashes
unfolding runs clashes
clashes_unrefused = (tt, (tt, (tt, (tt, tt))))

-- what it hands out is no opening part of the first receiver's messages
clashes_untrue : Throughout table table (ShowsTheTruth table) nothing nothing clashes → ⊥
unfolding runs clashes
clashes_untrue truth =
    let other : pos 2 ≡ pos 3 = ap (number_at 9) (truth.1.1.1.0 refl).opening.1 in
    let z : ◌≡◌ {A = ℕ} 2 3 = cc in
    omega arith

-- so it is supposed that masks of one issue are equal, and of this run it is not so
clashes_unequal : Throughout table table SameIssueSameMask nothing nothing clashes → ⊥
unfolding Throughout clashes
clashes_unequal equal =
    clashes_untrue (late_joiners clashes clashes_unrefused (enough _ _ _ _, (enough _ _ _ _, (enough _ _ _ _, (enough _ _ _ _, tt)))) equal)
