-- What is known of a walk under a holding lent as bytes. Assumes nothing.
use mathlib.Core.Path.{◌≡◌, refl, sym, ap, ◌∙◌}
use mathlib.Core.Bool.{Bool, true, false, false≢true}
use mathlib.Core.List.{List}
use Prim.Native.Nat.{ℕ, zero, suc, ◌≤◌}
use native.Mathlib.Omega.{arith}
use borrow.Author.Tests.{lt-ltb}
use lib.Dec.{eqb}
use lib.IntN.{ℤ}
use lib.ListN.{length}
use denote.Enum.Declared.{tag_of}
use Rattle.bits.proofs.Windows.{Bytes}
use Rattle.format.specs.declared.Answer.{Answer}
use Rattle.format.specs.declared.Answer.TheVariants as Answers
use Rattle.format.specs.declared.Refusal.TheVariants.{Changed}
use Rattle.format.specs.Answers.{number_of, said_at}
use Rattle.format.specs.Good.{is_holding}
use Rattle.format.specs.Masks.{nothing, Lent, stray, lent}
use Rattle.format.specs.Reading.{Outcome, accepted, idle, refused, changed, kept_by, lent_after, answer_of}
use Rattle.format.specs.Walking.{Walk, messages}
use Rattle.format.specs.contracts.Answer.{the_type}
use Rattle.format.proofs.Walks.{none_kept, walk_good, walk_stray}
use Rattle.holding.specs.declared.Holding.{Holding}
use Rattle.holding.specs.Pictures.{sound, lent_by}
use Rattle.host.specs.Handing.{message_number, number_said, missing_said, walked_at, walked_to, changing, bytes_after, kept_bytes, left_bytes, walk_bytes}
use Rattle.host.proofs.Outcomes.{bytes_pass, bytes_kept, after_sound, after_bytes}
use Rattle.passing.specs.Passing.{size, holding_in}
use Rattle.reader.specs.Readings.{struct_of}
use Rattle.reader.proofs.Lents.{is_holding_lem}
use Rattle.walk.specs.declared.Halt.{Halt}
use Rattle.walk.specs.Walks.{walk_at, walked_of}

-- a message's number, by its tag
pub message_number_lem : (a : Answer) → tag_of the_type a ≡ 0 → (place : ℕ) → message_number ≡ number_said (said_at place a)
unfolding number_said said_at
message_number_lem (Answers.Message h next rows) e place = refl
message_number_lem Answers.Idle e place = absurd (omega arith)
message_number_lem (Answers.Refused r missing) e place = absurd (omega arith)

-- no bits are missing of it, nor where a reading is idle
pub message_missing : (a : Answer) → tag_of the_type a ≡ 0 → (place : ℕ) → 0 ≡ missing_said (said_at place a)
unfolding missing_said said_at
message_missing (Answers.Message h next rows) e place = refl
message_missing Answers.Idle e place = absurd (omega arith)
message_missing (Answers.Refused r missing) e place = absurd (omega arith)

-- 13 is told by its number
dropped_number : (o : Outcome) → eqb (number_said (said_at 0 (answer_of o))) (number_of Changed) ≡ changed o
unfolding number_said said_at answer_of changed number_of
dropped_number (accepted m next) = refl
dropped_number (idle holding) = refl
dropped_number (refused r missing holding) = refl

-- where nothing changed, nothing was accepted and the stop is not 13
nothing_changed : (o : Outcome) (n : ℕ) → changing (answer_of o) n ≡ false → (n ≡ 0) × (changed o ≡ false)
unfolding changing
nothing_changed o zero e = (refl, sym (dropped_number o) ∙ e)
nothing_changed o (suc n) e = absurd (false≢true (sym (rw (lt-ltb 0 (suc n) (omega arith)) at e)))

module _ (hb bs : List ℕ) (end : ℕ) (rows : List ℤ) where
  abbrev h : Holding
  h = holding_in hb

  abbrev w : Walk
  w = walk_at h bs end rows

  abbrev after : Lent
  after = lent_after w.stop

  -- where the bytes were a holding's, they are one's after it
  held_good : sound h ≡ true → is_holding after ≡ true
  unfolding walk_at
  held_good e = walk_good (lent_by h) bs end rows (is_holding_lem h ∙ e)

  -- where no message was accepted, they are what the stop leaves of them
  pub walk_bytes_lem : Bytes hb → messages w ≡ 0 → walk_bytes w hb ≡ kept_bytes w.stop hb
  unfolding walk_at
  walk_bytes_lem small none = ap (λ (l : Lent). bytes_after l hb) (none_kept (lent_by h) bs end rows none) ∙ bytes_kept hb w.stop small

  -- bytes that are none stay so
  stray_after : sound h ≡ false → after ≡ stray
  unfolding walk_at lent_by
  stray_after e = rw e (walk_stray bs end rows).1

  -- and nothing was accepted then
  stray_none : sound h ≡ false → messages w ≡ 0
  unfolding walk_at lent_by
  stray_none e = rw e (walk_stray bs end rows).0

  -- what 13 leaves where nothing was accepted
  dropped_after : messages w ≡ 0 → changed w.stop ≡ true → after ≡ lent nothing
  unfolding walk_at kept_by
  dropped_after none e = none_kept (lent_by h) bs end rows none ∙ rw e

  pub stray_bytes : sound h ≡ false → hb ≡ walk_bytes w hb
  unfolding bytes_after
  stray_bytes e = sym (ap (λ (l : Lent). bytes_after l hb) (stray_after e))

  -- ---- whether it may have changed what is held

  abbrev changes : Bool
  changes = changing (answer_of w.stop) (messages w)

  -- what changed was a holding
  changed_sound : changes ≡ true → sound h ≡ true
  unfolding changing
  changed_sound e = go (sound h) refl
    where
      go : (b : Bool) → sound h ≡ b → sound h ≡ true
      go true is = is
      go false is =
          let none = stray_none is in
          let thirteen : changed w.stop ≡ true = sym (dropped_number w.stop) ∙ (rw none at e) in
          let dropped : after ≡ lent nothing = dropped_after none thirteen in
          let z : ◌≡◌ {A = ℕ} 0 1 = cc (stray_after is) in
          absurd (omega arith)

  -- where nothing did the bytes stay
  unchanged_bytes : Bytes hb → changes ≡ false → hb ≡ walk_bytes w hb
  unfolding kept_bytes
  unchanged_bytes small e =
      let it = nothing_changed w.stop (messages w) e in
      sym (walk_bytes_lem small it.0 ∙ rw it.1)

  left_so : Bytes hb → left_bytes changes (struct_of h after) hb ≡ walk_bytes w hb
  unfolding left_bytes
  left_so small = go changes refl
    where
      go : (b : Bool) → changes ≡ b → left_bytes b (struct_of h after) hb ≡ walk_bytes w hb
      go true e = after_bytes h after hb (held_good (changed_sound e))
      go false e = unchanged_bytes small e

  -- ---- of what the walk answered

  module _ (d : Halt) (said : d ≡ walked_of h w) where
    pub leave_known : changing d.stop d.tally.messages ≡ true → (size ≤ length hb) × (sound d.holding ≡ true)
    unfolding walked_of
    leave_known e =
        let firm = changed_sound (ap (λ (x : Halt). changing x.stop x.tally.messages) (sym said) ∙ e) in
        (bytes_pass hb firm, ap (λ (x : Halt). sound x.holding) said ∙ after_sound h after (held_good firm))

    pub left : Bytes hb → left_bytes (changing d.stop d.tally.messages) d.holding hb ≡ walk_bytes w hb
    unfolding walked_of
    left small = ap (λ (x : Halt). left_bytes (changing x.stop x.tally.messages) x.holding hb) said ∙ left_so small

    pub walked_to_lem : walked_at d.stop d.tally ≡ walked_to w
    unfolding walked_of walked_to
    walked_to_lem = ap (λ (x : Halt). walked_at x.stop x.tally) said
