-- What is found at a place, by the tests of what is lent. Assumes nothing.
use Rattle.bits.proofs.Words.{◌≡◌, refl, sym, ap, ◌∙◌, Bool, List, ℕ, arith, length, ℤ}
use denote.Enum.Declared.{tag_of}
use Rattle.format.specs.declared.Answer.{Answer}
use Rattle.format.specs.declared.Answer.TheVariants as Answers
use Rattle.format.specs.declared.Refusal.{Refusal}
use Rattle.format.specs.Ends.{Within}
use Rattle.format.specs.Reading.{lent_tests, lent_after, rows_after, answer_of}
use Rattle.holding.specs.declared.Holding.{Holding}
use Rattle.reader.specs.declared.message.Found.TheVariants.{Answered}
use Rattle.reader.specs.declared.Verdict.{Verdict}
use Rattle.reader.specs.declared.Verdict.TheVariants.{Good, Refused}
use Rattle.holding.specs.Pictures.{sound, lent_by}
use Rattle.reader.specs.Readings.{outcome_at, tests_of, tested_by, read_at, found_at, sought_by, sought_at}
use Rattle.reader.proofs.Findings.{FoundMask, found_mask, found_answer}
use Rattle.reader.proofs.Lents.{sound_lent, is_holding_lem}
use Rattle.reader.proofs.Outcomes.{Fine, tested_outcome, outcome_tested, all_good, begun}
use Rattle.reader.specs.contracts.message.Found.{the_type}

pub within : {h : Holding} {bs : List ℕ} {end start room : ℕ} → Fine h bs end start room → Within bs end start
within f = record { inside = f.inside.lent; short = omega (arith, f.inside.limit); room = f.inside.there }

module _ (h : Holding) (bs : List ℕ) (end start : ℕ) (rows : List ℤ) where
  abbrev verdict : Verdict
  verdict = tested_by (tests_of h bs end start (length rows))

  -- as it is given where the holding was seen before
  pub seen_tests : (b : Bool) → b ≡ sound h → tested_by (lent_tests b bs end start (length rows)) ≡ verdict
  seen_tests b e = ap (λ (x : Bool). tested_by (lent_tests x bs end start (length rows))) (e ∙ sym (is_holding_lem h))

  -- ---- by the verdict

  pub refused_lent : (r : Refusal) → verdict ≡ Refused r
      → (Answers.Refused r 0 ≡ answer_of (outcome_at h bs end start rows)) × (lent_after (outcome_at h bs end start rows) ≡ lent_by h) × (rows ≡ rows_after (outcome_at h bs end start rows) rows)
  unfolding tested_outcome answer_of lent_after rows_after
  refused_lent r e = rw (outcome_tested h bs end start rows, e) (refl, refl, refl)

  pub good_lent : verdict ≡ Good → Fine h bs end start (length rows)
  good_lent e = all_good h bs end start (length rows) (rw e refl)

  pub good_reads : verdict ≡ Good → outcome_at h bs end start rows ≡ read_at h bs end start
  unfolding tested_outcome
  good_reads e = outcome_tested h bs end start rows ∙ rw e (begun h (good_lent e).held bs end start)

  -- ---- by what was found

  pub record SoughtMask : Type 0 where
    pub fine : Fine h bs end start (length rows)
    pub reads : outcome_at h bs end start rows ≡ read_at h bs end start
    pub found : FoundMask h fine.held (within fine)

  pub record SoughtAnswer (a : Answer) : Type 0 where
    pub says : a ≡ answer_of (outcome_at h bs end start rows)
    pub keeps : lent_after (outcome_at h bs end start rows) ≡ lent_by h

  pub sought_mask : tag_of the_type (sought_at h bs end start (length rows)) ≡ 0 → SoughtMask
  unfolding sought_by
  sought_mask = go verdict refl
    where
      go : (v : Verdict) → verdict ≡ v → tag_of the_type (sought_by v (found_at h bs end start)) ≡ 0 → SoughtMask
      go Good e tag =
          let fine = good_lent e in
          record { fine = fine; reads = good_reads e; found = found_mask h fine.held (within fine) tag }
      go (Refused r) e tag = absurd (omega arith)

  pub sought_answer : (a : Answer) → sought_at h bs end start (length rows) ≡ Answered a → SoughtAnswer a
  unfolding sought_by
  sought_answer a = go verdict refl
    where
      go : (v : Verdict) → verdict ≡ v → sought_by v (found_at h bs end start) ≡ Answered a → SoughtAnswer a
      go Good e said =
          let fine = good_lent e in
          let it = found_answer h fine.held (within fine) a said in
          record { says = it.says ∙ sym (ap answer_of (good_reads e)); keeps = ap lent_after (good_reads e) ∙ it.keeps ∙ sym (sound_lent h fine.held) }
      go (Refused r) e said =
          let it = refused_lent r e in
          let same : a ≡ Answers.Refused r 0 = cc in
          record { says = same ∙ it.0; keeps = it.1 }
