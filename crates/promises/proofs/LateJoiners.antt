-- Demand 3: late joiners show the truth or refuse by name, for any two tables of which the second may refuse more, and for the one of this edition.
-- Assumes nothing.
use mathlib.Core.Path.{◌≡◌, refl, sym, subst}
use mathlib.Core.Bool.{Bool, true, false, cond}
use mathlib.Core.List.{List, [], ◌∷◌}
use mathlib.Core.Logic.{inl, inr, ⊎_elim}
use Prim.Native.Nat.{ℕ}
use Rattle.format.specs.declared.Refusal.{Refusal}
use Rattle.format.specs.Good.{good}
use Rattle.format.specs.Masks.{Held, nothing, lent, held_in}
use Rattle.format.specs.Reading.{bits_from, sub_type_in}
use Rattle.format.specs.Table.{Kind, table, kinds}
use Rattle.promises.specs.LateJoiners.{Turn, received, first, second, held_after, first_after, second_after, Throughout, Unrefused, RoomEnough, SameIssueSameMask, StoppedWith, OpensWithMask, ShowsTheTruth, ShowsTheTruthBut}
use Rattle.promises.proofs.TwoTables.{Weaker, weaker_refl, Adopts}
use Rattle.promises.proofs.TwoWalks.{Along, Whole, two_walks}

-- ---- two tables, of which the second refuses more

module _ {More : Refusal → Type 0} (t u : ℕ → Kind) (weak : (n : ℕ) → Weaker More (t n) (u n)) (adopting : Adopts (t 1)) where
  module _ (f s : Held) (x : Turn) (fine : good s ≡ true) (ends : Unrefused t f s x) (room : RoomEnough f s x) (equal : SameIssueSameMask f s x) where
    -- a stretch that the second gets
    got : x.gets ≡ true → Along More (Whole f s (t (sub_type_in (bits_from x.bytes x.end 0))) 0 (second u s x)) (first t f x) (second u s x)
    unfolding Unrefused RoomEnough SameIssueSameMask first second received held_in
    got gets = two_walks More t u x.bytes x.end weak (lent f) 0 x.rows s (record { sound = λ _. fine; equal = equal gets }) x.others (room gets) ends

    -- what the demand says of it: the mask refuses nothing where both then hold the same, or where it opens with a mask message that is not itself refused
    turn_truth : ShowsTheTruthBut More t u f s x
    unfolding ShowsTheTruthBut OpensWithMask
    turn_truth gets =
        let it = (got gets).0 in
        record {
          opening = it.opening;
          stopping = it.stopping;
          all = λ either. it.all (⊎_elim (λ opens. inr (subst (λ (n : ℕ). Adopts (t n)) (sym opens.0) adopting, opens.1)) inl either);
        }

    -- what the second holds after a turn
    turn_good : good (second_after u s x) ≡ true
    unfolding second_after
    turn_good = go x.gets refl
      where
        go : (b : Bool) → x.gets ≡ b → good (cond b (held_after (second u s x).stop) s) ≡ true
        go true gets = (got gets).1
        go false misses = fine

  -- turn by turn, what follows from it
  module _ (P : Held → Held → Turn → Type 0) (so : (f s : Held) (x : Turn) → ShowsTheTruthBut More t u f s x → P f s x) where
    run_truth : (turns : List Turn) (f s : Held) → good s ≡ true
        → Throughout t u (Unrefused t) f s turns → Throughout t u RoomEnough f s turns → Throughout t u SameIssueSameMask f s turns → Throughout t u P f s turns
    unfolding Throughout
    run_truth [] f s fine ends room equal = tt
    run_truth (x ∷ xs) f s fine ends room equal = (
      so f s x (turn_truth f s x fine ends.0 room.0 equal.0),
      run_truth xs (first_after t f x) (second_after u s x) (turn_good f s x fine ends.0 room.0 equal.0) ends.1 room.1 equal.1,
    )

-- it may stop with what it refuses more, too
pub late_joiners_but :
    (More : Refusal → Type 0) (t u : ℕ → Kind) → ((n : ℕ) → Weaker More (t n) (u n)) → Adopts (t 1) → (turns : List Turn)
    → Throughout t u (Unrefused t) nothing nothing turns → Throughout t u RoomEnough nothing nothing turns → Throughout t u SameIssueSameMask nothing nothing turns
    → Throughout t u (ShowsTheTruthBut More t u) nothing nothing turns
unfolding good
late_joiners_but More t u weak adopting turns = run_truth t u weak adopting _ (λ f s x it. it) turns nothing nothing refl

-- ---- one edition: nothing more is refused

truth : (t : ℕ → Kind) (f s : Held) (x : Turn) → ShowsTheTruthBut (λ r. ⊥) t t f s x → ShowsTheTruth t f s x
unfolding ShowsTheTruthBut ShowsTheTruth StoppedWith
truth t f s x but gets =
    let it = but gets in
    record {
      opening = it.opening;
      stopping = ⊎_elim inl (⊎_elim inr (λ none. absurd none.4)) it.stopping;
      all = λ either. ⊎_elim (λ whole. whole) (λ none. absurd none.4) (it.all either);
    }

-- the demand
pub late_joiners : (turns : List Turn) → Throughout table table (Unrefused table) nothing nothing turns → Throughout table table RoomEnough nothing nothing turns
    → Throughout table table SameIssueSameMask nothing nothing turns → Throughout table table (ShowsTheTruth table) nothing nothing turns
unfolding table kinds good
late_joiners turns = run_truth table table (λ n. weaker_refl (λ r. ⊥) (table n)) tt _ (truth table) turns nothing nothing refl
