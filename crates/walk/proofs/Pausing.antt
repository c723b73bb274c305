-- Where reading under one mask comes to: whatever fuel there is, behind each message, whatever was handed out before, and what is known there. Assumes nothing.
use mathlib.Core.Path.{◌≡◌, refl, sym, ap, subst, ◌∙◌}
use mathlib.Core.Bool.{Bool, true, false}
use mathlib.Core.List.{List}
use Prim.Native.Nat.{ℕ, zero, suc, ◌+◌, ◌-◌, ◌<◌}
use native.Mathlib.Nat.{add-zero, add_assoc}
use native.Mathlib.Omega.{arith}
use lib.IntN.{ℤ}
use Rattle.format.specs.declared.Answer.TheVariants as Answers
use Rattle.format.specs.declared.Head.{Head}
use Rattle.reader.specs.declared.message.Found.{Found}
use Rattle.reader.specs.declared.message.Found.TheVariants.{Mask, Answered}
use Rattle.walk.specs.declared.Tally.{Tally}
use Rattle.walk.specs.declared.under.Pause.{Pause}
use Rattle.walk.specs.Standing.{Stand, stand_at, stand_from, Stands}
use Rattle.walk.specs.Pausing.{found_in, rows_in, behind, go_under, under_from, under_on, pauses_in, pause_in}
use Rattle.walk.proofs.Found.{Halts, under_goes, halt_leaves}
use Rattle.walk.proofs.Going.{Gone, gone_nowhere, gone_on}

-- a mask or a stop ends it where it is found
stays : (f : Found) → Halts f → (s : Stand) (more : ℕ → ℕ → Stand) → go_under f s more ≡ s
unfolding Halts go_under
stays Mask halts s more = refl
stays (Answered (Answers.Message head next n)) halts s more = absurd halts
stays (Answered Answers.Idle) halts s more = refl
stays (Answered (Answers.Refused r missing)) halts s more = refl

-- the same stand, with what was handed out before counted too
abbrev pub summed : Tally → Stand → Stand
summed before s =
    stand_at s.holding (record { place = s.tally.place; messages = before.messages + s.tally.messages; rows = before.rows + s.tally.rows }) s.rows

module _ (bytes : List ℕ) (end : ℕ) where
  -- whatever fuel there is, if it is more than the bits left
  fuel_same : (fuel more : ℕ) (s : Stand) → Stands bytes end s → end - s.tally.place < fuel → end - s.tally.place < more → under_from fuel bytes end s ≡ under_from more bytes end s
  unfolding under_from go_under
  fuel_same zero more s stands few enough = absurd (omega arith)
  fuel_same (suc fuel) zero s stands few enough = absurd (omega arith)
  fuel_same (suc fuel) (suc more) s stands few enough = go (found_in bytes end s) refl (fuel_same fuel more)
    where
      go : (f : Found) → found_in bytes end s ≡ f
          → ((t : Stand) → Stands bytes end t → end - t.tally.place < fuel → end - t.tally.place < more → under_from fuel bytes end t ≡ under_from more bytes end t)
          → go_under f s (λ next n. under_from fuel bytes end (behind bytes end s next n)) ≡ go_under f s (λ next n. under_from more bytes end (behind bytes end s next n))
      go Mask e then = refl
      go (Answered (Answers.Message head next n)) e then =
          let goes = under_goes bytes end s stands head next n e in
          then (behind bytes end s next n) goes.stands (omega (arith, goes.past, goes.stands.there)) (omega (arith, goes.past, goes.stands.there))
      go (Answered Answers.Idle) e then = refl
      go (Answered (Answers.Refused r missing)) e then = refl

  module _ (s : Stand) (stands : Stands bytes end s) where
    -- reading once pauses where it stands
    pub pauses_once : (once : Bool) → once ≡ true → pauses_in once bytes end s ≡ s
    unfolding pauses_in
    pauses_once once e = rw e

    -- reading on it is the same from behind a message
    pub pauses_behind : (once : Bool) → once ≡ false → (head : Head) (next n : ℕ) → found_in bytes end s ≡ Answered (Answers.Message head next n)
        → pauses_in once bytes end s ≡ pauses_in once bytes end (behind bytes end s next n)
    unfolding pauses_in under_on under_from go_under
    pauses_behind once on head next n e =
        let goes = under_goes bytes end s stands head next n e in
        rw (on, e) (fuel_same (end - s.tally.place) (suc (end - next)) (behind bytes end s next n) goes.stands (omega (arith, goes.past, goes.stands.there)) (omega arith))

    -- a mask or a stop is a pause
    pub pauses_here : (once : Bool) → Halts (found_in bytes end s) → pauses_in once bytes end s ≡ s
    unfolding pauses_in under_on under_from
    pauses_here true halts = refl
    pauses_here false halts = stays (found_in bytes end s) halts s _

  -- ---- what is known where it comes to

  pub record Came (s t : Stand) : Type 0 where
    pub gone : Gone bytes end s t
    pub stands : Stands bytes end t
    pub halts : Halts (found_in bytes end t)
    pub holds : t.holding ≡ s.holding

  comes : (fuel : ℕ) (s : Stand) → Stands bytes end s → end - s.tally.place < fuel → Came s (under_from fuel bytes end s)
  unfolding under_from go_under Halts
  comes zero s stands few = absurd (omega arith)
  comes (suc fuel) s stands few = go (found_in bytes end s) refl (comes fuel)
    where
      here : Halts (found_in bytes end s) → Came s s
      here halts = record { gone = gone_nowhere bytes end s; stands = stands; halts = halts; holds = refl }

      go : (f : Found) → found_in bytes end s ≡ f → ((t : Stand) → Stands bytes end t → end - t.tally.place < fuel → Came t (under_from fuel bytes end t))
          → Came s (go_under f s (λ next n. under_from fuel bytes end (behind bytes end s next n)))
      go Mask e then = here (subst Halts (sym e) tt)
      go (Answered (Answers.Message head next n)) e then =
          let goes = under_goes bytes end s stands head next n e in
          let it = then (behind bytes end s next n) goes.stands (omega (arith, goes.past, goes.stands.there)) in
          record { gone = gone_on goes.gone it.gone; stands = it.stands; halts = it.halts; holds = it.holds }
      go (Answered Answers.Idle) e then = here (subst Halts (sym e) tt)
      go (Answered (Answers.Refused r missing)) e then = here (subst Halts (sym e) tt)

  pub under_comes : (s : Stand) → Stands bytes end s → Came s (under_on bytes end s)
  unfolding under_on
  under_comes s stands = comes (suc (end - s.tally.place)) s stands (omega arith)

  -- the stand that the code has then: the row buffer is as it was before the last reading
  pub stand_there : (s : Stand) → Stands bytes end s → (p : Pause) (rows : List ℤ) → p ≡ pause_in bytes end (under_on bytes end s) → rows ≡ rows_in bytes end (under_on bytes end s)
      → under_on bytes end s ≡ stand_at s.holding p.tally rows
  stand_there s stands p rows said left =
      let t = under_on bytes end s in
      let it = under_comes s stands in
      let numbers : t.rows ≡ rows = sym (left ∙ halt_leaves bytes end t it.stands (found_in bytes end t) refl it.halts) in
      λ i. stand_at (it.holds i) (sym (ap (λ (q : Pause). q.tally) said) i) (numbers i)

  -- ---- what was handed out before

  -- where counting begins anew it is as good
  pub afresh : (s : Stand) → Stands bytes end s → Stands bytes end (stand_from s.holding s.tally.place s.rows)
  afresh s stands =
      record { held = stands.held; lent = stands.lent; limit = stands.limit; there = stands.there; room = stands.room; few = omega arith; rows = omega arith }

  -- reading comes to the same stand, whatever was handed out before
  under_summed : (before : Tally) (fuel : ℕ) (s : Stand) → under_from fuel bytes end (summed before s) ≡ summed before (under_from fuel bytes end s)
  unfolding under_from go_under
  under_summed before zero s = refl
  under_summed before (suc fuel) s = go (found_in bytes end s) (under_summed before fuel)
    where
      go : (f : Found) → ((t : Stand) → under_from fuel bytes end (summed before t) ≡ summed before (under_from fuel bytes end t))
          → go_under f (summed before s) (λ next n. under_from fuel bytes end (behind bytes end (summed before s) next n)) ≡ summed before (go_under f s (λ next n. under_from fuel bytes end (behind bytes end s next n)))
      go Mask then = refl
      go (Answered (Answers.Message head next n)) then = simp add_assoc (then (behind bytes end s next n))
      go (Answered Answers.Idle) then = refl
      go (Answered (Answers.Refused r missing)) then = refl

  -- so what is handed out under one mask may be counted from 0 and added
  pub adds_up : (s : Stand) → under_on bytes end s ≡ summed s.tally (under_on bytes end (stand_from s.holding s.tally.place s.rows))
  unfolding under_on
  adds_up s = simp add-zero at (under_summed s.tally (suc (end - s.tally.place)) (stand_from s.holding s.tally.place s.rows))
