-- Reading a stretch by calls of `read`, or in C of `hundurzek_read`, hands out what its walk hands out, record for record, stops where it stops and leaves
-- what it leaves; and so demand 3 holds of a receiver that calls so. By the contracts. Assumes nothing.
use mathlib.Core.Path.{◌≡◌, refl, sym, ap, ◌∙◌}
use mathlib.Core.Bool.{true, false, false≢true}
use mathlib.Core.List.{List, [], ◌++◌}
use Prim.Native.Nat.{ℕ}
use native.Mathlib.Omega.{arith}
use borrow.Author.Tests.{ne_eqb}
use lib.Dec.{eqb}
use lib.IntN.{ℤ}
use lib.ListN.{length, drop}
use lib.Seq.{drop_at}
use denote.Ref.{Bor, MutBor}
use Rattle.format.specs.declared.Answer.{Answer}
use Rattle.format.specs.declared.Answer.TheVariants.{Message, Idle, Refused}
use Rattle.format.specs.declared.Refusal.{Refusal}
use Rattle.format.specs.Answers.{Said, said_at, number_of}
use Rattle.format.proofs.Numbered.{number_small}
use Rattle.format.specs.Good.{good, is_holding}
use Rattle.format.specs.Masks.{Held, Lent, stray, lent, held_in}
use Rattle.format.specs.Reading.{Outcome, over, answer_of}
use Rattle.format.specs.Table.{table}
use Rattle.format.specs.Walking.{Walk, messages, row_count}
use Rattle.holding.specs.declared.Holding.{Holding}
use Rattle.holding.specs.Pictures.{picture_of, lent_by}
use Rattle.holding.proofs.Pictured.{sound_picture}
use Rattle.holding.proofs.Sounds.{sounds}
use Rattle.host.specs.declared.Walked.{Walked}
use Rattle.host.specs.Handing.{message_number, handed_by, bytes_after, host_outcome, host_walk, walked_to, walk_bytes}
use Rattle.passing.specs.Passing.{size, bytes_of, holding_in}
use Rattle.passing.proofs.Returns.{bytes_length}
use Rattle.promises.specs.Calls.{Got, Calls, got_by, CodeCall, said_by, HostCall, HostWalk}
use Rattle.promises.specs.LateJoiners.{held_after, received}
use Rattle.promises.proofs.Calls.{calls_so, Passes, Read, reads_end, reads_walk}
use Rattle.promises.proofs.Determined.{alike}
use Rattle.promises.proofs.Receivers.{bytes_say, lent_picture, code_receives, code_holds, host_receives, host_holds}
use Rattle.reader.specs.Readings.{struct_of, outcome_at, reading_of}
use Rattle.walk.specs.Walks.{walk_at, walked_of}

-- a slice that lies anywhere, lent to be read or to be written
pub anywhere : {A : Type 0} → Bor (List A)
anywhere = record { ref_ptr = (0, 0); now = [] }

pub lent_anywhere : {A : Type 0} → MutBor (List A)
lent_anywhere = record { ref_ptr = (0, 0); ghost_name = 0; now = [] }

-- ---- in Rattle

-- a holding passed as a struct
abbrev pub kept : Lent → Holding → Holding
kept l h = struct_of h l

pub struct_passes : Passes lent_by kept
unfolding struct_of is_holding
struct_passes = record { lends = λ h held fine. lent_picture held fine; anew = λ h held l fine. anew h held l }
  where
    anew : (h : Holding) (held : Held) (l : Lent) → is_holding l ≡ true → struct_of (picture_of held) l ≡ struct_of h l
    anew h held stray fine = absurd (false≢true fine)
    anew h held (lent other) fine = refl

module _ (bytes : List ℕ) (end : ℕ) (h : Holding) (place : ℕ) (rows : List ℤ) (said : Said) (left : Holding) (after : List ℤ) where
  -- what the contract allows is what the reading there says, and the other way round
  pub code_reads : CodeCall bytes end h place rows said left after → Read lent_by kept bytes end h place rows said left after
  unfolding reading_of outcome_at
  code_reads c = record {
    says = sym c.says ∙ ap (λ r. said_at place r.answer) c.allowed.0;
    holds = sym c.leaves ∙ ap (λ r. r.holding) c.allowed.0;
    writes = c.allowed.1;
  }

  reads_code : Read lent_by kept bytes end h place rows said left after → CodeCall bytes end h place rows said left after
  unfolding reading_of outcome_at
  reads_code c = record {
    κs = ([], ([], tt));
    stretch = anywhere;
    buffer = lent_anywhere;
    result = reading_of h (outcome_at h bytes end place rows);
    says = sym c.says;
    leaves = sym c.holds;
    allowed = (refl, c.writes);
  }

module _ (h : Holding) (bytes : List ℕ) (end : ℕ) (rows : List ℤ) where
  abbrev code_got : Got Holding
  code_got = let w = walk_at h bytes end rows in got_by w (walked_of h w).holding

  -- a run of calls ends, with what the walk comes to
  pub code_calls_end : Calls (CodeCall bytes end) h 0 rows code_got
  unfolding walk_at walked_of
  code_calls_end = calls_so (reads_code bytes end) (reads_end lent_by kept bytes end struct_passes h rows)

  -- and every run has that
  pub code_calls_are_the_walk : {got : Got Holding} → Calls (CodeCall bytes end) h 0 rows got → got ≡ code_got
  unfolding walk_at walked_of
  code_calls_are_the_walk calls = reads_walk lent_by kept bytes end struct_passes h rows (calls_so (code_reads bytes end) calls)

-- ---- in C

-- no refusal has the number of a message, or of what is done
pub not_answered : (r : Refusal) → eqb (number_of r) message_number ≡ false
not_answered r = ne_eqb (number_of r) message_number (omega (arith, number_small r))

-- so what is handed of an answer says the answer
said_back : (start : ℕ) (a : Answer) → said_by (handed_by start (said_at start a)) ≡ said_at start a
unfolding said_by handed_by said_at
said_back start (Message h next rows) = refl
said_back start Idle = refl
said_back start (Refused r missing) = rw (not_answered r)

-- a holding passed as bytes
abbrev pub lent_in : List ℕ → Lent
lent_in hb = lent_by (holding_in hb)

-- as many numbers over others hide these
over_over : {A : Type 0} (xs ys old : List A) → length xs ≡ length ys → over xs (over ys old) ≡ over xs old
unfolding over
over_over {A} xs ys old e = ap (λ (l : List A). xs ++ l) (drop_at ys (drop (length ys) old) (length xs) (sym e) ∙ ap (λ (n : ℕ). drop n old) (sym e))

pub bytes_passes : Passes lent_in bytes_after
unfolding bytes_after is_holding held_in
bytes_passes = record {
  lends = λ hb held fine. ap lent_by (bytes_say hb (lent held) fine) ∙ lent_picture held fine;
  anew = anew;
}
  where
    long : (held : Held) → good held ≡ true → length (bytes_of (picture_of held)) ≡ size
    long held fine = bytes_length (picture_of held) (sounds (picture_of held) (sound_picture held fine)).shaped

    anew : (hb : List ℕ) (held : Held) (l : Lent) → good held ≡ true → is_holding l ≡ true → bytes_after l (over (bytes_of (picture_of held)) hb) ≡ bytes_after l hb
    anew hb held stray fine after = absurd (false≢true after)
    anew hb held (lent other) fine after = over_over (bytes_of (picture_of other)) (bytes_of (picture_of held)) hb (alike (long other after) (long held fine))

module _ (bytes : List ℕ) (end : ℕ) (hb : List ℕ) (place : ℕ) (rows : List ℤ) (said : Said) (left : List ℕ) (after : List ℤ) where
  abbrev outcome : Outcome
  outcome = host_outcome hb bytes end place rows

  -- what the contract allows is what the reading there says, and the other way round
  pub host_reads_lem : HostCall bytes end hb place rows said left after → Read lent_in bytes_after bytes end hb place rows said left after
  unfolding host_outcome outcome_at
  host_reads_lem c = record {
    says = sym c.says ∙ ap said_by c.allowed.0 ∙ said_back place (answer_of outcome);
    holds = c.allowed.1.0;
    writes = c.allowed.1.1;
  }

  reads_host : Read lent_in bytes_after bytes end hb place rows said left after → HostCall bytes end hb place rows said left after
  unfolding host_outcome outcome_at
  reads_host c = record {
    κs = ([], ([], ([], tt)));
    lent = lent_anywhere;
    stretch = anywhere;
    buffer = lent_anywhere;
    result = handed_by place (said_at place (answer_of outcome));
    says = said_back place (answer_of outcome) ∙ sym c.says;
    allowed = (refl, (c.holds, c.writes));
  }

module _ (hb bytes : List ℕ) (end : ℕ) (rows : List ℤ) where
  abbrev host_got : Got (List ℕ)
  host_got = let w = host_walk hb bytes end rows in got_by w (walk_bytes w hb)

  -- a run of calls ends, with what the walk comes to
  pub calls_end : Calls (HostCall bytes end) hb 0 rows host_got
  unfolding host_walk walk_at
  calls_end = calls_so (reads_host bytes end) (reads_end lent_in bytes_after bytes end bytes_passes hb rows)

  module _ {got : Got (List ℕ)} (calls : Calls (HostCall bytes end) hb 0 rows got) where
    -- and every run has that
    pub calls_are_the_walk : got ≡ host_got
    unfolding host_walk walk_at
    calls_are_the_walk = reads_walk lent_in bytes_after bytes end bytes_passes hb rows (calls_so (host_reads_lem bytes end) calls)

    -- so `hundurzek_walk` answers where and why it stopped, how many bits were missing, how many messages and rows there were, and leaves the same bytes and the same row buffer
    pub both_the_same : {result : Walked} {left : List ℕ} {after : List ℤ} → HostWalk bytes end hb rows result left after
        → (result ≡ record { answer = got.number; place = got.place; missing = got.missing; messages = length got.handed; rows = row_count got.handed })
        × ((left ≡ got.holding) × (after ≡ got.rows))
    unfolding got_by walked_to messages
    both_the_same c = rw calls_are_the_walk c.allowed

-- ---- demand 3: a receiver that calls so receives what the theorem speaks of, and holds what it says

module _ (held : Held) (fine : good held ≡ true) (bytes : List ℕ) (end : ℕ) (rows : List ℤ) where
  abbrev w : Walk
  w = received table held bytes end rows

  pub code_calls_receive : {got : Got Holding} → Calls (CodeCall bytes end) (picture_of held) 0 rows got → got ≡ got_by w (picture_of (held_after w.stop))
  code_calls_receive calls =
      code_calls_are_the_walk (picture_of held) bytes end rows calls ∙ λ i. got_by (code_receives held fine bytes end rows i) (code_holds held fine bytes end rows i)

  module _ (hb : List ℕ) (says : holding_in hb ≡ picture_of held) {got : Got (List ℕ)} (calls : Calls (HostCall bytes end) hb 0 rows got) where
    pub calls_receive : got ≡ got_by w got.holding
    unfolding got_by
    calls_receive = rw (calls_are_the_walk hb bytes end rows calls, ← (host_receives hb held fine says bytes end rows))

    pub calls_hold : holding_in got.holding ≡ picture_of (held_after w.stop)
    unfolding got_by
    calls_hold = rw (calls_are_the_walk hb bytes end rows calls) (host_holds hb held fine says bytes end rows)
