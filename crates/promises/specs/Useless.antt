-- Document 01, "How far the promises go": the useless builds of a reader and of a walk, over the promises themselves. A build is what a function answers to each
-- call, with what it then leaves in what was lent, whatever its code.
use Rattle.std.specs.Prelude.{◌≡◌, Bool, true, ◌&&◌, List, [], ◌∷◌, ℕ, ◌^◌, eqb, leb, ltb, ℤ, pos, negsuc, length}
use contract.Lifetimes.{Lfts}
use denote.Ref.{Bor, MutBor}
use denote.Triple.Clauses.{at_exit}
use borrow.Fn.Kinds.{ParamKind, ResultKind, Out, Dens, ended_of}
use Rattle.format.specs.declared.Refusal.TheVariants.{Short}
use Rattle.format.specs.Answers.{number_of, said_at}
use Rattle.format.specs.Reading.{row_room, stretch_limit, placed, Outcome}
use Rattle.holding.specs.declared.Holding.{Holding}
use Rattle.holding.specs.Bounds.{below}
use Rattle.host.proofs as host
use Rattle.host.specs.declared.Handed.{Handed}
use Rattle.host.specs.declared.Walked.{Walked}
use Rattle.host.specs.Handing.{message_number, handed_by, number_said, missing_said, host_outcome}
use Rattle.passing.specs.Passing.{size, holding_in}
use Rattle.promises.specs.Determination.{Result, Content}
use Rattle.walk.proofs as walk

-- ---- a call

-- signed numbers of 32 bits
unfoldable pub words : List ℤ → Bool
words [] = true
words (pos n ∷ zs) = ltb n (2 ^ 31) && words zs
words (negsuc n ∷ zs) = ltb n (2 ^ 31) && words zs

-- what code can be lent: 194 bytes as a holding, a stretch, a row buffer of 2,048 numbers
unfoldable pub lendable : List ℕ → List ℕ → ℕ → List ℤ → Bool
lendable holding bytes end rows =
    (eqb (length holding) size && below 256 holding)
    && ((leb (length bytes) stretch_limit && (below 256 bytes && placed bytes end 0))
    && (eqb (length rows) row_room && words rows))

-- Reading starts at place 0: a build that meets a promise at every call meets it at these, and one that is useless at every call is so at these.
pub record Call : Type 0 where
  pub holding : List ℕ
  pub bytes : List ℕ
  pub end : ℕ
  pub rows : List ℤ
  pub real : lendable holding bytes end rows ≡ true

-- two that lend the same but for the stretch
pub record Beside (c d : Call) : Type 0 where
  pub holding : c.holding ≡ d.holding
  pub rows : c.rows ≡ d.rows

-- what is seen of one when it is over: what was said, what is then held, and the row buffer
pub record Seen (S : Type 0) : Type 0 where
  pub said : S
  pub holding : Holding
  pub rows : List ℤ

-- ---- what can be useless in both

-- a part that is the same at any two calls beside each other that are alike
unfoldable pub Fixed : {S A : Type 0} → (Call → Call → Seen S → Seen S → Type 0) → (Seen S → A) → (Call → Seen S) → Type 0
Fixed Alike part f = (c d : Call) → Beside c d → Alike c d (f c) (f d) → part (f c) ≡ part (f d)

-- one answer, whatever the stretch
unfoldable pub FixedAnswer : {S : Type 0} → (Call → Seen S) → Type 0
FixedAnswer f = Fixed (λ c d s t. Unit {0}) (λ s. s.said) f

-- "one that does nothing": leaves the row buffer, or what is held
unfoldable pub LeavesRows : {S : Type 0} → (Call → Seen S) → Type 0
LeavesRows f = (c : Call) → (f c).rows ≡ c.rows

unfoldable pub LeavesHolding : {S : Type 0} → (Call → Seen S) → Type 0
LeavesHolding f = (c : Call) → (f c).holding ≡ holding_in c.holding

-- ---- a reader

-- two messages of one sub type
unfoldable pub OneType : Call → Call → Seen Handed → Seen Handed → Type 0
OneType c d s t = (s.said.answer ≡ message_number) × (t.said.answer ≡ message_number) × (s.said.head.subtype ≡ t.said.head.subtype)

-- two that run past the end
unfoldable pub BothShort : Call → Call → Seen Handed → Seen Handed → Type 0
BothShort c d s t = (s.said.answer ≡ number_of Short) × (t.said.answer ≡ number_of Short)

-- two of which the same is said
unfoldable pub SaysTheSame : Call → Call → Seen Handed → Seen Handed → Type 0
SaysTheSame c d s t = s.said ≡ t.said

pub data UselessReader (f : Call → Seen Handed) : Type 0 where
  -- "one that refuses everything": or is idle, and never hands out a message
  refuses_everything : ((c : Call) → (f c).said.answer ≡ message_number → ⊥) → UselessReader f
  -- "one with a fixed answer": of what it says, all, or a part that it gives to all messages of one sub type, or to all refusals with 3; or it leaves the same wherever it says the same
  fixed_answer : FixedAnswer f → UselessReader f
  fixed_head : Fixed OneType (λ s. s.said.head) f → UselessReader f
  fixed_place : Fixed OneType (λ s. s.said.place) f → UselessReader f
  fixed_count : Fixed OneType (λ s. s.said.rows) f → UselessReader f
  fixed_missing : Fixed BothShort (λ s. s.said.missing) f → UselessReader f
  fixed_rows : Fixed SaysTheSame (λ s. s.rows) f → UselessReader f
  fixed_holding : Fixed SaysTheSame (λ s. s.holding) f → UselessReader f
  leaves_rows : LeavesRows f → UselessReader f
  leaves_holding : LeavesHolding f → UselessReader f

-- ---- a walk

-- what the first reading comes to
abbrev pub first_reading : Call → Outcome
first_reading c = host_outcome c.holding c.bytes c.end 0 c.rows

-- stretches of one length that open with the same reading
unfoldable pub OpenAlike : Call → Call → Seen Walked → Seen Walked → Type 0
OpenAlike c d s t = (c.end ≡ d.end) × (first_reading c ≡ first_reading d)

-- and that both stop past the end
unfoldable pub StopShort : Call → Call → Seen Walked → Seen Walked → Type 0
StopShort c d s t = OpenAlike c d s t × ((s.said.answer ≡ number_of Short) × (t.said.answer ≡ number_of Short))

pub data UselessWalk (f : Call → Seen Walked) : Type 0 where
  -- "a walk that reads the first message and invents the others, or counts it made up"
  invents_stop : Fixed OpenAlike (λ s. s.said.answer) f → UselessWalk f
  invents_place : Fixed OpenAlike (λ s. s.said.place) f → UselessWalk f
  invents_messages : Fixed OpenAlike (λ s. s.said.messages) f → UselessWalk f
  invents_count : Fixed OpenAlike (λ s. s.said.rows) f → UselessWalk f
  invents_missing : Fixed StopShort (λ s. s.said.missing) f → UselessWalk f
  invents_rows : Fixed OpenAlike (λ s. s.rows) f → UselessWalk f
  invents_holding : Fixed OpenAlike (λ s. s.holding) f → UselessWalk f
  -- "one that refuses everything": hands out no message
  stops_at_once : ((c : Call) → (f c).said.messages ≡ 0) → UselessWalk f
  fixed_stop : FixedAnswer f → UselessWalk f
  keeps_rows : LeavesRows f → UselessWalk f
  keeps_holding : LeavesHolding f → UselessWalk f

-- ---- builds that meet a promise

module _ {n : ℕ} (ps : List (ParamKind n)) (r : ResultKind n) where
  -- a call as a function's arguments, and what is seen of its result and of what each lent buffer then holds
  pub record Sight (C S : Type 0) : Type 0 where
    pub args : (κs : Lfts n) → C → Dens κs ps
    pub seen : (κs : Lfts n) (c : C) → Result ps r κs → Content ps r κs (args κs c) → S

  -- no build that the promise `P` allows at every call is one of these
  unfoldable pub ShutsOut : {C S : Type 0} → Out n ps r → Sight C S → ((C → S) → Type 0) → Type 0
  ShutsOut {C} {S} P s These =
      (κs : Lfts n) (result : C → Result ps r κs) (content : (c : C) → Content ps r κs (s.args κs c)) →
      ((c : C) → P κs (s.args κs c) (result c) (at_exit (ended_of n ps r) κs (s.args κs c) (content c))) →
      These (λ c. s.seen κs c (result c) (content c)) → ⊥

-- ---- the four functions that read

-- a buffer that lies in a block of its own, lent to be written or to be read
abbrev pub lent_as : {A : Type 0} → ℕ → A → MutBor A
lent_as k x = record { ref_ptr = (k, 0); ghost_name = k; now = x }

abbrev pub shown_as : {A : Type 0} → ℕ → A → Bor A
shown_as k x = record { ref_ptr = (k, 0); now = x }

unfoldable pub reads : Sight walk.single.read.Kinds.ps walk.single.read.Kinds.r Call (Seen Handed)
reads =
    record {
      args = λ κs c. (holding_in c.holding, (shown_as 1 c.bytes, (c.end, (0, (lent_as 2 c.rows, tt)))));
      seen = λ κs c x v. record { said = handed_by 0 (said_at 0 x.answer); holding = x.holding; rows = v.1.1.1.1.0 };
    }

unfoldable pub walks : Sight walk.walk.Kinds.ps walk.walk.Kinds.r Call (Seen Walked)
walks =
    record {
      args = λ κs c. (holding_in c.holding, (shown_as 1 c.bytes, (c.end, (lent_as 2 c.rows, tt))));
      seen =
          λ κs c x v. record {
            said =
                record {
                  answer = number_said (said_at x.tally.place x.stop);
                  place = x.tally.place;
                  missing = missing_said (said_at x.tally.place x.stop);
                  messages = x.tally.messages;
                  rows = x.tally.rows;
                };
            holding = x.holding;
            rows = v.1.1.1.0;
          };
    }

unfoldable pub host_reads : Sight host.hundurzek_read.Kinds.ps host.hundurzek_read.Kinds.r Call (Seen Handed)
host_reads =
    record {
      args = λ κs c. (lent_as 0 c.holding, (shown_as 1 c.bytes, (c.end, (0, (lent_as 2 c.rows, tt)))));
      seen = λ κs c x v. record { said = x; holding = holding_in v.0; rows = v.1.1.1.1.0 };
    }

unfoldable pub host_walks : Sight host.hundurzek_walk.Kinds.ps host.hundurzek_walk.Kinds.r Call (Seen Walked)
host_walks =
    record {
      args = λ κs c. (lent_as 0 c.holding, (shown_as 1 c.bytes, (c.end, (lent_as 2 c.rows, tt))));
      seen = λ κs c x v. record { said = x; holding = holding_in v.0; rows = v.1.1.1.0 };
    }
