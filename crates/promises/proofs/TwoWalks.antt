-- A stretch walked by two receivers, where the first reads it to its end: what the second hands out, how it stops, and that it then holds what is good.
-- Assumes nothing.
use mathlib.Core.Path.{◌≡◌, refl, sym, ap, ap₂}
use mathlib.Core.Bool.{true}
use mathlib.Core.List.{List, [], ◌∷◌, flatten}
use mathlib.Core.Logic.{◌⊎◌, inl, inr, ⊎_elim}
use Prim.Native.Nat.{ℕ, ◌≤◌}
use native.Mathlib.Omega.{arith}
use lib.IntN.{ℤ}
use lib.ListN.{length}
use Rattle.format.specs.declared.Refusal.{Refusal}
use Rattle.format.specs.declared.Refusal.TheVariants.{Changed}
use Rattle.format.specs.Good.{good}
use Rattle.format.specs.Masks.{Held, nothing, Lent, lent, held_in}
use Rattle.format.specs.Messages.{Content}
use Rattle.format.specs.Reading.{row_room, Outcome, accepted, bits_from, sub_type_in, lent_after, rows_after}
use Rattle.format.specs.Table.{Kind, Message}
use Rattle.format.specs.Walking.{handed_at, Walk, hand, go_on, walk_on}
use Rattle.format.proofs.CutWalks.{over_long}
use Rattle.format.proofs.Walks.{walk_step, Law, every_walk}
use Rattle.promises.specs.LateJoiners.{IsIdle, OpeningPart, AtTheEnd, StoppedWith, changed_mask, ChangedAt, TruthBut, held_after}
use Rattle.promises.proofs.TwoReadings.{Abreast, first_refused, both_idle, both_read, second_refused, second_changed, reading_abreast}
use Rattle.promises.proofs.TwoTables.{Weaker, Near, Alike, Adopts, Sure}

-- what is said of a stretch, where `sure` says that the mask refuses nothing
abbrev pub Along : (Refusal → Type 0) → Type 0 → Walk → Walk → Type 0
Along More sure a b = TruthBut More sure a b × (good (held_after b.stop) ≡ true)

-- where that is so of the second's walk from a place: both hold the same there, or the message there is a mask, and it was not refused as changed
abbrev pub Whole : Held → Held → Kind → ℕ → Walk → Type 0
Whole f s k place b = (f ≡ s) ⊎ (Adopts k × ¬ ChangedAt place b)

-- its bits are then not refused for the mask either
whole_sure : {Same Makes Taken : Type 0} → Same ⊎ (Makes × Taken) → Same ⊎ Makes
whole_sure (inl same) = inl same
whole_sure (inr (makes, taken)) = inr makes

module _ {More : Refusal → Type 0} {f s : Held} {k : Kind} (place : ℕ) (others : List ℤ) (more : Message → ℕ → Walk) where
  -- the first stops
  stopped : {o p : Outcome} (rows : List ℤ) → Abreast More f s k o p → IsIdle o
      → Along More (Whole f s k place (go_on p place others more)) (record { handed = []; stop = o; place = place; rows = rows }) (go_on p place others more)
  unfolding IsIdle go_on OpeningPart AtTheEnd held_after lent_after held_in
  stopped rows first_refused ends = absurd ends
  stopped rows (both_idle fine) ends = (record { opening = ([], refl); stopping = inl (tt, refl); all = λ _. inl refl }, fine)
  stopped rows (both_read it) ends = absurd ends
  stopped rows (second_refused fine named) ends = absurd ends
  stopped rows (second_changed differ) ends = absurd ends

  -- or reads a message: the second reads one of the same content, or stops, having handed out an opening part of anything
  went : {m : Message} {next : ℕ} {p : Outcome} {a : Walk} {sure : Message → Type 0} → Abreast More f s k (accepted m next) p
      → ((n : Message) → Alike f s k m n → (Sure f s k → sure n) × Along More (sure n) a (more n next))
      → Along More (Whole f s k place (go_on p place others more)) (hand (handed_at place m next) a) (go_on p place others more)
  unfolding go_on hand OpeningPart AtTheEnd StoppedWith ChangedAt held_after lent_after held_in good
  went (both_read {m} {n} {next} alike) on =
      let (still, (it, fine)) = on n alike in
      let same : handed_at place n next ≡ handed_at place m next = ap (λ (c : Content). record { place = place; next = next; content = c }) alike.content in (
        record {
          opening = (it.opening.0, ap₂ ◌∷◌ (sym same) it.opening.1);
          stopping = it.stopping;
          all = λ yes. ⊎_elim (λ whole. inl (ap₂ ◌∷◌ same whole)) inr (it.all (still (whole_sure yes)));
        },
        fine,
      )
  went (second_refused {m} {next} {r} {missing} fine (inl (named, unsure))) on =
      (record { opening = (_, refl); stopping = inr (inl (r, missing, lent s, refl, named)); all = λ yes. absurd (unsure (whole_sure yes)) }, fine)
  went (second_refused {m} {next} {r} {missing} fine (inr named)) on =
      (record { opening = (_, refl); stopping = inr (inr (r, missing, lent s, refl, named)); all = λ _. inr (r, missing, lent s, refl, named) }, fine)
  went (second_changed differ) on = (
    record {
      opening = (_, refl);
      stopping = inr (inl (Changed, 0, lent nothing, refl, changed_mask));
      all = ⊎_elim (λ same. absurd (differ same)) (λ makes. absurd (makes.1 (refl, (Changed, 0, lent nothing, refl, refl))));
    },
    refl,
  )

module _ (More : Refusal → Type 0) (t u : ℕ → Kind) (bytes : List ℕ) (end : ℕ) where
  -- what is said of a walk of the first's: beside it, the second's from the same place
  abbrev pub Joined : Lent → ℕ → List ℤ → Walk → Type 0
  Joined holding place rows a =
      (s : Held) → Near (held_in holding) s → (others : List ℤ) → row_room ≤ length others → IsIdle a.stop
      → Along More (Whole (held_in holding) s (t (sub_type_in (bits_from bytes end place))) place (walk_on u (lent s) bytes end place others))
      a (walk_on u (lent s) bytes end place others)

  module _ (weak : (n : ℕ) → Weaker More (t n) (u n)) where
    all_joined : Law t bytes end Joined
    unfolding held_in hand rows_after
    all_joined = record {
      stops = λ holding place rows o e _ s near others room ends.
          rw (walk_step u (lent s) bytes end place others)
          (stopped place others _ rows (rw e at (reading_abreast t u weak holding s near bytes end place rows others room)) ends);
      goes = λ holding place rows m taken a e _ law s near others room ends.
          rw (walk_step u (lent s) bytes end place others)
          (went place others _ (rw e at (reading_abreast t u weak holding s near bytes end place rows others room))
          λ n alike. ((λ yes. inl (alike.sure yes)), law n.after alike.near _ (omega (arith, over_long (flatten n.content.rows) others)) ends));
    }

    -- so of every walk
    pub two_walks : (holding : Lent) (place : ℕ) (rows : List ℤ) → Joined holding place rows (walk_on t holding bytes end place rows)
    two_walks = every_walk t bytes end Joined all_joined
