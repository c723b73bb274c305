-- What the code answers to a reading, by crate format's outcome of it.
use Rattle.std.specs.Prelude.{◌≡◌, true, cond, List, ℕ, ◌-◌, ◌*◌, ◌≤◌, eqb, ℤ, length}
use Rattle.adoption.specs.declared.Ending.{Ending}
use Rattle.adoption.specs.declared.Ending.TheVariants as Endings
use Rattle.bits.specs.Places.{field}
use Rattle.format.specs.declared.Answer.{Answer}
use Rattle.format.specs.declared.Answer.TheVariants as Answers
use Rattle.format.specs.declared.Head.{Head}
use Rattle.format.specs.declared.Refusal.{Refusal}
use Rattle.format.specs.Ends.{end_from}
use Rattle.format.specs.Good.{is_holding}
use Rattle.format.specs.Masks.{Held, Lent, stray, lent}
use Rattle.format.specs.Messages.{Heading}
use Rattle.format.specs.Programs.{Ended, well, badly, run}
use Rattle.format.specs.Reading.{stretch_limit, row_room, Outcome, bits_from, ended_at, read_from, lent_tests, placed, lent_after, answer_of, reading}
use Rattle.format.specs.Table.{table, by_kind, opening}
use Rattle.format.specs.Tests.{Test, verdict}
use Rattle.heads.specs.declared.Opening.{Opening}
use Rattle.heads.specs.declared.Opening.TheVariants.{SubType}
use Rattle.heads.specs.declared.Opening.TheVariants as Openings
use Rattle.heads.specs.Heads.{opening_by}
use Rattle.holding.specs.declared.Holding.{Holding}
use Rattle.holding.specs.Pictures.{picture_of, mask_of, sound, lent_by}
use Rattle.reader.specs.declared.Verdict.{Verdict}
use Rattle.reader.specs.declared.Verdict.TheVariants.{Good}
use Rattle.reader.specs.declared.Verdict.TheVariants as Tests
use Rattle.reader.specs.declared.Reading.{Reading}
use Rattle.reader.specs.declared.message.Found.{Found}
use Rattle.reader.specs.declared.message.Found.TheVariants.{Mask, Answered}
use Rattle.table.specs.declared.Kind.{Kind}
use Rattle.table.specs.declared.Kind.TheVariants as Kinds
use Rattle.table.specs.Kinds.{kind_for, kind_by}

-- ---- what is lent after a reading or a walk as a struct again

unfoldable pub struct_of : Holding → Lent → Holding
struct_of h stray = h
struct_of h (lent held) = picture_of held

abbrev pub holding_after : Holding → Outcome → Holding
holding_after h o = struct_of h (lent_after o)

-- ---- a reading

unfoldable pub outcome_at : Holding → List ℕ → ℕ → ℕ → List ℤ → Outcome
outcome_at h bytes end start rows = reading (lent_by h) bytes end start rows

unfoldable pub reading_of : Holding → Outcome → Reading
reading_of h o = record { answer = answer_of o; holding = holding_after h o }

-- the answer to a mask message with this head, by where it ends
unfoldable pub ending_answer : Head → Ending → Answer
ending_answer head (Endings.Behind next) = Answers.Message head next 0
ending_answer head (Endings.Refused r missing) = Answers.Refused r missing

-- the tests of what is lent
abbrev pub tests_of : Holding → List ℕ → ℕ → ℕ → ℕ → List Test
tests_of h bytes end start room = lent_tests (is_holding (lent_by h)) bytes end start room

unfoldable pub tested_by : List Test → Verdict
tested_by ts = verdict Tests.Refused Good ts

-- reading at a place of a stretch, all that is lent being good
abbrev pub read_at : Holding → List ℕ → ℕ → ℕ → Outcome
read_at h bytes end start = read_from table (mask_of h) start (bits_from bytes end start)

-- behind number and sub type, by the kind
unfoldable pub read_as : Held → List ℕ → ℕ → ℕ → ℕ → Outcome
read_as held bytes end place n = ended_at held place (run (by_kind (kind_by n (kind_for n)) held) (bits_from bytes end place))

-- what answers to a refusal that comes before the sub type
unfoldable pub unopened_at : List ℕ → ℕ → ℕ → Refusal → ℕ → Answer
unopened_at bytes end start r missing = cond (eqb (field bytes start (end - start)) 0) Answers.Idle (Answers.Refused r missing)

-- what is found at a place: a mask message is left to be read, any other is answered
unfoldable pub found_as : Kind → Outcome → Found
found_as Kinds.Other o = Answered (answer_of o)
found_as Kinds.Mask o = Mask
found_as Kinds.Packet o = Answered (answer_of o)
found_as (Kinds.Masked l) o = Answered (answer_of o)

unfoldable pub found_by : Opening → Outcome → Found
found_by (SubType n) o = found_as (kind_for n) o
found_by (Openings.Refused r missing) o = Answered (answer_of o)

abbrev pub found_at : Holding → List ℕ → ℕ → ℕ → Found
found_at h bytes end start = found_by (opening_by (end_from opening bytes end start)) (read_at h bytes end start)

-- and by the tests of what is lent before that
unfoldable pub sought_by : Verdict → Found → Found
sought_by Good found = found
sought_by (Tests.Refused r) found = Answered (Answers.Refused r 0)

abbrev pub sought_at : Holding → List ℕ → ℕ → ℕ → ℕ → Found
sought_at h bytes end start room = sought_by (tested_by (tests_of h bytes end start room)) (found_at h bytes end start)

-- ---- what a message is read under: a sound holding, a stretch within its limit and the bytes lent, room for the rows

pub record Ready (h : Holding) (bytes : List ℕ) (end : ℕ) (rows : List ℤ) : Type 0 where
  pub held : sound h ≡ true
  pub lent : end ≤ 8 * length bytes
  pub limit : end ≤ stretch_limit
  pub room : row_room ≤ length rows

-- ---- a heading's body begins within the stretch

unfoldable pub Begins : ℕ → Ended Heading → Type 0
Begins end (well d at) = at ≤ end
Begins end (badly r missing) = Unit {0}

-- ---- where the raw part of an answer to reading at a start ends: a stop's is empty, and so is one that does not lie in the stretch

unfoldable pub raw_to : List ℕ → ℕ → Answer → ℕ
raw_to bytes start (Answers.Message h next rows) = cond (placed bytes next start) next start
raw_to bytes start Answers.Idle = start
raw_to bytes start (Answers.Refused r missing) = start
