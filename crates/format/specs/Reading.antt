-- Reading one message: the reader's order 1, 2, 12, 0, then field by field, and 13 last (document 02, Ask 2). By a table of sub types; ours is `table`.
use Rattle.std.specs.Prelude.{Bool, false, cond, ◌&&◌, ℕ, ◌+◌, ◌*◌, leb, eqb, ℤ, length, take, drop}
use mathlib.Core.List.{List, [], ◌∷◌, ◌++◌, flatten}
use Rattle.bits.specs.BitLists.{bits, number}
use Rattle.format.specs.declared.Answer.{Answer}
use Rattle.format.specs.declared.Answer.TheVariants as Answers
use Rattle.format.specs.declared.Refusal.{Refusal}
use Rattle.format.specs.declared.Refusal.TheVariants.{Room, Place, Value, Changed}
use Rattle.format.specs.Answers.{number_of}
use Rattle.format.specs.Assigned.{blank}
use Rattle.format.specs.Good.{is_holding}
use Rattle.format.specs.Masks.{Held, nothing, Lent, lent, held_in}
use Rattle.format.specs.Table.{Kind, Message, table, message_by}
use Rattle.format.specs.Programs.{Ended, well, badly, run}
use Rattle.format.specs.Steady.{steady}
use Rattle.format.specs.Tests.{Test, verdict}

-- 30 data parts of 1,695 bits; 256 rows of eight numbers
abbrev pub stretch_limit : ℕ
stretch_limit = 50850

abbrev pub row_room : ℕ
row_room = 2048

-- How reading ends: with a message and the place after it; idle; or with a refusal and how many bits were missing. A stop says what is lent after it, too.
pub data Outcome : Type 0 where
  accepted : Message → ℕ → Outcome
  idle : Lent → Outcome
  refused : Refusal → ℕ → Lent → Outcome

-- A message that its bits say is accepted where what it leaves may follow what is held. Every refusal leaves what is held but one: a mask that changed under
-- one issue drops it.
abbrev pub dropped : Outcome
dropped = refused Changed 0 (lent nothing)

abbrev pub settled : Held → Message → ℕ → Outcome
settled held m next = cond (steady held m.after) (accepted m next) dropped

-- what a program's end is to the place where it began
unfoldable pub ended_at : Held → ℕ → Ended Message → Outcome
ended_at held place (well m taken) = settled held m (place + taken)
ended_at held place (badly r missing) = refused r missing (lent held)

-- reading the bits from a place on: idle where they are all zero, or none
unfoldable pub read_from : (ℕ → Kind) → Held → ℕ → List Bool → Outcome
read_from t held place l = cond (blank l) (idle (lent held)) (ended_at held place (run (message_by t held) l))

-- the bits of a string from a place on, up to the end
unfoldable pub bits_from : List ℕ → ℕ → ℕ → List Bool
bits_from bytes end place = drop place (take end (bits bytes))

-- the sub type of the message that opens some bits
abbrev pub sub_type_in : List Bool → ℕ
sub_type_in l = number (take 4 (drop 12 l))

-- a stretch and a start in it
unfoldable pub placed : List ℕ → ℕ → ℕ → Bool
placed bytes end start = leb end stretch_limit && (leb end (8 * length bytes) && leb start end)

-- what is lent, for so many numbers of rows: 1, 2, 12
unfoldable pub lent_tests : Bool → List ℕ → ℕ → ℕ → ℕ → List Test
lent_tests holding bytes end start room =
    record { holds = leb row_room room; else = Room }
    ∷ record { holds = placed bytes end start; else = Place }
    ∷ record { holds = holding; else = Value }
    ∷ []

unfoldable pub reading_by : (ℕ → Kind) → Lent → List ℕ → ℕ → ℕ → List ℤ → Outcome
reading_by t holding bytes end start rows =
    verdict (λ r. refused r 0 holding) (read_from t (held_in holding) start (bits_from bytes end start)) (lent_tests (is_holding holding) bytes end start (length rows))

abbrev pub reading : Lent → List ℕ → ℕ → ℕ → List ℤ → Outcome
reading holding bytes end start rows = reading_by table holding bytes end start rows

-- ---- what a reading leaves

-- whether it is 13
unfoldable pub changed : Outcome → Bool
changed (accepted m next) = false
changed (idle holding) = false
changed (refused r missing holding) = eqb (number_of r) (number_of Changed)

-- Every stop leaves what was lent, but for 13, which leaves the empty holding (proofs/Refusals.antt, `stop_holds`).
unfoldable pub kept_by : Outcome → Lent → Lent
kept_by o holding = cond (changed o) (lent nothing) holding

unfoldable pub lent_after : Outcome → Lent
lent_after (accepted m next) = lent m.after
lent_after (idle holding) = holding
lent_after (refused r missing holding) = holding

-- the buffer holds the rows first and its old numbers after them
unfoldable pub over : {A : Type 0} → List A → List A → List A
over new old = new ++ drop (length new) old

unfoldable pub rows_after : Outcome → List ℤ → List ℤ
rows_after (accepted m next) rows = over (flatten m.content.rows) rows
rows_after (idle holding) rows = rows
rows_after (refused r missing holding) rows = rows

-- where the raw part of a reading at a start ends: a stop's is empty
unfoldable pub raw_end : Outcome → ℕ → ℕ
raw_end (accepted m next) start = next
raw_end (idle holding) start = start
raw_end (refused r missing holding) start = start

unfoldable pub answer_of : Outcome → Answer
answer_of (accepted m next) = Answers.Message m.content.head next (length m.content.rows)
answer_of (idle holding) = Answers.Idle
answer_of (refused r missing holding) = Answers.Refused r missing
