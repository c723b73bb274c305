-- Why a reading is refused: by a test of what is lent, by its bits, or for a mask that changed under one issue (document 02, Ask 2); and so what every stop
-- leaves of the holding. Assumes nothing.
use mathlib.Core.Path.{◌≡◌, refl, sym, ap, subst, ◌∙◌}
use mathlib.Core.Bool.{Bool, true, false, cond, false≢true}
use mathlib.Core.List.{List}
use mathlib.Core.Logic.{◌⊎◌, inl, inr}
use Prim.Native.Nat.{ℕ, ◌+◌}
use native.Mathlib.Omega.{arith}
use lib.Dec.{eqb}
use lib.IntN.{ℤ}
use lib.ListN.{length}
use borrow.Author.Tests.{ne_eqb}
use Rattle.format.specs.declared.Refusal.{Refusal}
use Rattle.format.specs.declared.Refusal.TheVariants.{Room, Place, Short, Value, Changed}
use Rattle.format.specs.Answers.{number_of}
use Rattle.format.specs.Assigned.{blank}
use Rattle.format.specs.Good.{is_holding}
use Rattle.format.specs.Masks.{Held, nothing, Lent, stray, lent, held_in}
use Rattle.format.specs.Missing.{Reason}
use Rattle.format.specs.Programs.{Ended, well, badly, run}
use Rattle.format.specs.Reading.{Outcome, accepted, idle, refused, dropped, ended_at, read_from, bits_from, lent_tests, reading_by, reading, changed, kept_by, lent_after}
use Rattle.format.specs.Steady.{steady}
use Rattle.format.specs.Table.{Message, table, message}
use Rattle.format.proofs.Reasons.{Own, message_reasoned, ends_so}
use Rattle.format.proofs.Stops.{Stopped, reading_ends}
use Rattle.format.proofs.Verdicts.{AllHold, EachElse, judged_why}

module _ (holding : Lent) (bytes : List ℕ) (end start : ℕ) (rows : List ℤ) (r : Refusal) (missing : ℕ) (left : Lent) where
  abbrev tests_hold : Type 0
  tests_hold = AllHold (lent_tests (is_holding holding) bytes end start (length rows))

  -- by a test of what is lent: neither with 3 nor with 13, and none are missing
  pub record ByTest : Type 0 where
    pub whole : ¬ (number_of r ≡ number_of Short)
    pub same : ¬ (number_of r ≡ number_of Changed)
    pub none : missing ≡ 0
    pub kept : left ≡ holding

  -- by the bits from its start on, what is lent having passed the tests
  pub record ByBits : Type 0 where
    pub tests : AllHold (lent_tests (is_holding holding) bytes end start (length rows))
    pub some : blank (bits_from bytes end start) ≡ false
    pub ran : run (message (held_in holding)) (bits_from bytes end start) ≡ badly r missing
    pub kept : left ≡ lent (held_in holding)

  -- for what they leave: another mask under the number of the one that is held
  pub record ByChange : Type 0 where
    pub tests : AllHold (lent_tests (is_holding holding) bytes end start (length rows))
    pub m : Message
    pub taken : ℕ
    pub ran : run (message (held_in holding)) (bits_from bytes end start) ≡ well m taken
    pub changed : steady (held_in holding) m.after ≡ false
    pub is : r ≡ Changed
    pub none : missing ≡ 0
    pub dropped : left ≡ lent nothing

  pub data Why : Type 0 where
    by_test : ByTest → Why
    by_bits : ByBits → Why
    by_change : ByChange → Why

  -- one of these tests
  tested : (q : Refusal) → ¬ (number_of q ≡ number_of Short) → ¬ (number_of q ≡ number_of Changed) → refused q 0 holding ≡ refused r missing left → ByTest
  tested q whole same e =
      let is : q ≡ r = cc in
      let none : 0 ≡ missing = cc in
      let kept : holding ≡ left = cc in
      record { whole = λ z. whole (ap number_of is ∙ z); same = λ z. same (ap number_of is ∙ z); none = sym none; kept = sym kept }

  -- what the bits say
  read_why : tests_hold → read_from table (held_in holding) start (bits_from bytes end start) ≡ refused r missing left → Why
  unfolding read_from ended_at
  read_why tests = go (blank (bits_from bytes end start)) (run (message (held_in holding)) (bits_from bytes end start)) refl refl
    where
      made : (k : Message) (n : ℕ) (b : Bool) → run (message (held_in holding)) (bits_from bytes end start) ≡ well k n → steady (held_in holding) k.after ≡ b
          → cond b (accepted k (start + n)) dropped ≡ refused r missing left → Why
      made k n true ran stays said = absurd (false≢true cc)
      made k n false ran changed said =
          let is : Changed ≡ r = cc in
          let none : 0 ≡ missing = cc in
          let dropped : lent nothing ≡ left = cc in
          by_change (record { tests = tests; m = k; taken = n; ran = ran; changed = changed; is = sym is; none = sym none; dropped = sym dropped })

      go : (b : Bool) (e : Ended Message) → blank (bits_from bytes end start) ≡ b → run (message (held_in holding)) (bits_from bytes end start) ≡ e
          → cond b (idle (lent (held_in holding))) (ended_at (held_in holding) start e) ≡ refused r missing left → Why
      go true e none ran said = absurd (false≢true cc)
      go false (well k n) some ran said = made k n (steady (held_in holding) k.after) ran refl said
      go false (badly q n) some ran said =
          let is : q ≡ r = cc in
          let count : n ≡ missing = cc in
          let kept : lent (held_in holding) ≡ left = cc in
          by_bits (record { tests = tests; some = some; ran = ran ∙ (λ i. badly (is i) (count i)); kept = sym kept })

  module _ (e : reading holding bytes end start rows ≡ refused r missing left) where
    pub refused_why : Why
    unfolding reading_by lent_tests EachElse number_of
    refused_why =
        go (judged_why (λ q. refused q 0 holding) (read_from table (held_in holding) start (bits_from bytes end start)) (refused r missing left)
        (lent_tests (is_holding holding) bytes end start (length rows)) (
          tested Room (λ z. omega arith) (λ z. omega arith),
          (tested Place (λ z. omega arith) (λ z. omega arith), (tested Value (λ z. omega arith) (λ z. omega arith), tt)),
        ) e)
      where
        go : ((read_from table (held_in holding) start (bits_from bytes end start) ≡ refused r missing left) × tests_hold) ⊎ ByTest → Why
        go (inl it) = read_why it.1 it.0
        go (inr it) = by_test it

    -- 3 and some bits, or another number and none
    pub reading_reason : Reason r missing
    unfolding number_of
    reading_reason = go refused_why
      where
        own : Own r missing → Reason r missing
        own (inl it) = inl it
        own (inr it) = inr ((λ three. omega (arith, it.0.0)), it.1)

        go : Why → Reason r missing
        go (by_test it) = inr (it.whole, it.none)
        go (by_bits it) = own (ends_so (bits_from bytes end start) r missing (message_reasoned (held_in holding)) it.ran)
        go (by_change it) = inr ((λ three. omega (arith, ap number_of it.is)), it.none)

-- ---- what a stop leaves

-- a holding is what it holds: where the bits were read, it is one
tested_lent : (holding : Lent) (bytes : List ℕ) (end start : ℕ) (rows : List ℤ) → AllHold (lent_tests (is_holding holding) bytes end start (length rows)) → lent (held_in holding) ≡ holding
unfolding lent_tests AllHold is_holding held_in
tested_lent stray bytes end start rows tests = absurd (false≢true tests.1.1.0)
tested_lent (lent held) bytes end start rows tests = refl

-- idle says what was lent
abbrev IdleHolds : Lent → Outcome → Type 0
IdleHolds holding (accepted m next) = Unit {0}
IdleHolds holding (idle left) = left ≡ holding
IdleHolds holding (refused r missing left) = Unit {0}

module _ (holding : Lent) (bytes : List ℕ) (end start : ℕ) (rows : List ℤ) where
  -- every refusal but 13 leaves what is held, and so does idle; 13 leaves the empty holding
  pub stop_holds : Stopped (reading holding bytes end start rows)
      → lent_after (reading holding bytes end start rows) ≡ kept_by (reading holding bytes end start rows) holding
  unfolding lent_after kept_by changed number_of
  stop_holds = go (reading holding bytes end start rows) refl
    where
      why : (r : Refusal) (missing : ℕ) (left : Lent) → Why holding bytes end start rows r missing left → left ≡ kept_by (refused r missing left) holding
      why r missing left (by_test it) = rw (ne_eqb (number_of r) 13 it.same) it.kept
      why r missing left (by_bits it) =
          rw (ne_eqb (number_of r) 13 (not_changed (ends_so (bits_from bytes end start) r missing (message_reasoned (held_in holding)) it.ran)))
          (it.kept ∙ tested_lent holding bytes end start rows it.tests)
        where
          not_changed : Own r missing → number_of r ≡ 13 → ⊥
          not_changed (inl short) z = omega (arith, ap number_of short.0)
          not_changed (inr own) z = omega (arith, own.0.1)
      why r missing left (by_change it) = rw it.is it.dropped

      go : (o : Outcome) → reading holding bytes end start rows ≡ o → Stopped o → lent_after o ≡ kept_by o holding
      go (accepted m next) e stopped = absurd stopped
      go (idle left) e stopped =
          subst (IdleHolds holding) e (reading_ends (IdleHolds holding) table bytes end start rows holding (λ r missing. tt) tt refl (λ m taken ran. tt))
      go (refused r missing left) e stopped = why r missing left (refused_why holding bytes end start rows r missing left e)
