-- Where a walk begins: what is lent is tested as for a reading at place 0. Assumes nothing.
use denote.Enum.Declared.{tag_of}
use Rattle.reader.specs.declared.Verdict.{Verdict}
use Rattle.reader.specs.declared.Verdict.TheVariants as Verdicts
use Rattle.reader.specs.contracts.Verdict.{the_type}
use mathlib.Core.Path.{◌≡◌, refl, sym, ap, ◌∙◌}
use mathlib.Core.Bool.{true}
use mathlib.Core.List.{List, []}
use Prim.Native.Nat.{ℕ}
use native.Mathlib.Nat.{zero-add}
use native.Mathlib.Omega.{arith}
use lib.IntN.{ℤ}
use lib.ListN.{length}
use Rattle.format.specs.declared.Answer.TheVariants as Answers
use Rattle.format.specs.declared.Refusal.{Refusal}
use Rattle.format.specs.Good.{is_holding}
use Rattle.format.specs.Masks.{Lent, stray, lent, held_in}
use Rattle.format.specs.Reading.{refused, answer_of, lent_after}
use Rattle.format.specs.Table.{table}
use Rattle.format.specs.Walking.{Walk, walk_on, messages, row_count}
use Rattle.format.proofs.Walks.{refusal_ends, walk_good}
use Rattle.holding.specs.declared.Holding.{Holding}
use Rattle.holding.specs.Pictures.{picture_of, lent_by}
use Rattle.reader.specs.declared.Verdict.TheVariants.{Refused}
use Rattle.reader.specs.Readings.{struct_of, outcome_at, tests_of, tested_by}
use Rattle.reader.proofs.Lents.{sound_lent, is_holding_lem, lent_back}
use Rattle.reader.proofs.Outcomes.{Fine, tested_outcome, outcome_tested}
use Rattle.walk.specs.declared.Halt.{Halt}
use Rattle.walk.specs.Standing.{stand_from, stand_first, Stands, rest_of, walked_with, walked_from, rows_from}
use Rattle.walk.specs.Walks.{walk_at, walked_of}

-- what is lent is good at a place, and nothing is counted before it
pub begin : {h : Holding} {bytes : List ℕ} {end start : ℕ} {rows : List ℤ} → Fine h bytes end start (length rows) → Stands bytes end (stand_from h start rows)
begin fine =
    record {
      held = fine.held;
      lent = fine.inside.lent;
      limit = fine.inside.limit;
      there = fine.inside.there;
      room = fine.rows;
      few = omega arith;
      rows = omega arith;
    }

module _ (h : Holding) (bytes : List ℕ) (end : ℕ) (rows : List ℤ) where
  -- ---- refused

  module _ (r : Refusal) (why : tested_by (tests_of h bytes end 0 (length rows)) ≡ Refused r) where
    refused_walk : walk_at h bytes end rows ≡ record { handed = []; stop = refused r 0 (lent_by h); place = 0; rows = rows }
    unfolding walk_at outcome_at tested_outcome
    refused_walk = refusal_ends table (lent_by h) bytes end 0 rows r 0 (lent_by h) (outcome_tested h bytes end 0 rows ∙ rw why)

    pub refused_walked : (◌≡◌ {A = Halt} (record { stop = Answers.Refused r 0; tally = record { place = 0; messages = 0; rows = 0 }; holding = h }) (walked_of h (walk_at h bytes end rows)))
        × (rows ≡ (walk_at h bytes end rows).rows)
    unfolding walked_of messages row_count answer_of lent_after
    refused_walked = (
      (λ i. record { stop = Answers.Refused r 0; tally = record { place = 0; messages = 0; rows = 0 }; holding = sym (lent_back h) i }) ∙ ap (walked_of h) (sym refused_walk),
      sym (ap (λ (w : Walk). w.rows) refused_walk),
    )

  -- ---- good

  module _ (fine : Fine h bytes end 0 (length rows)) where
    whole : rest_of bytes end (stand_first h rows) ≡ walk_at h bytes end rows
    unfolding rest_of walk_at
    whole = ap (λ (l : Lent). walk_on table l bytes end 0 rows) (sym (sound_lent h fine.held))

    -- the walk ends with a holding
    after : (l : Lent) → is_holding l ≡ true → picture_of (held_in l) ≡ struct_of h l
    unfolding is_holding held_in struct_of
    after stray e = absurd (let z : ◌≡◌ {A = ℕ} 0 1 = cc in omega arith)
    after (lent held) e = refl

    good_after : is_holding (lent_after (walk_at h bytes end rows).stop) ≡ true
    unfolding walk_at
    good_after = walk_good (lent_by h) bytes end rows (is_holding_lem h ∙ fine.held)

    -- nothing was handed out before
    plain : walked_with 0 0 (walk_at h bytes end rows) ≡ walked_of h (walk_at h bytes end rows)
    unfolding walked_with walked_of
    plain = rw (after _ good_after, zero-add (messages (walk_at h bytes end rows)), zero-add (row_count (walk_at h bytes end rows).handed))

    pub begun_walked : (walked_from bytes end (stand_first h rows) ≡ walked_of h (walk_at h bytes end rows)) × (rows_from bytes end (stand_first h rows) ≡ (walk_at h bytes end rows).rows)
    unfolding walked_from rows_from
    begun_walked = (ap (walked_with 0 0) whole ∙ plain, ap (λ (w : Walk). w.rows) whole)

-- the tag of a good verdict
pub good_tag : (v : Verdict) → tag_of the_type v ≡ 0 → v ≡ Verdicts.Good
good_tag Verdicts.Good e = refl
good_tag (Verdicts.Refused r) e = absurd (omega arith)
