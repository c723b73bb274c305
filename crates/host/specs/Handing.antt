-- What the host is handed: docs/HOST.md.
use Rattle.std.specs.Prelude.{Bool, true, cond, List, ℕ, eqb, leb, ltb, ℤ, length}
use Rattle.bits.specs.Parts.{start_of, count_of}
use Rattle.format.specs.declared.Answer.{Answer}
use Rattle.format.specs.declared.Head.{Head}
use Rattle.format.specs.declared.Refusal.TheVariants.{Changed}
use Rattle.format.specs.Answers.{Said, number_of, stop, message, said_at}
use Rattle.format.specs.Masks.{nothing, Lent, stray, lent}
use Rattle.format.specs.Reading.{Outcome, changed, lent_after, answer_of, over}
use Rattle.format.specs.Rows.{absent}
use Rattle.format.specs.Walking.{Walk}
use Rattle.holding.specs.declared.Holding.{Holding}
use Rattle.holding.specs.Pictures.{picture_of}
use Rattle.host.specs.declared.Handed.{Handed}
use Rattle.host.specs.declared.Walked.{Walked}
use Rattle.passing.specs.Passing.{size, bytes_of, holding_in}
use Rattle.reader.specs.Readings.{outcome_at}
use Rattle.walk.specs.declared.Tally.{Tally}
use Rattle.walk.specs.Walks.{walk_at, tally_of}

unfoldable pub no_head : Head
no_head = record { subtype = absent; epoch = absent; interval = absent; indicator = absent; iod = absent; a = absent; b = absent; c = absent }

-- the answer to a message
abbrev pub message_number : ℕ
message_number = 255

-- what is handed of what an answer to reading at a start says: a stop has no rows, no raw part and no head
unfoldable pub handed_by : ℕ → Said → Handed
handed_by start (stop number place missing) = record { answer = number; place = place; missing = missing; rows = 0; offset = 0; count = 0; head = no_head }
handed_by start (message h next rows) =
    record { answer = message_number; place = next; missing = 0; rows = rows; offset = start_of start next; count = count_of start next; head = h }

abbrev pub handed : ℕ → Outcome → Handed
handed start o = handed_by start (said_at start (answer_of o))

-- and the number alone
unfoldable pub number_said : Said → ℕ
number_said (stop number place missing) = number
number_said (message h next rows) = message_number

-- and how many bits were missing
unfoldable pub missing_said : Said → ℕ
missing_said (stop number place missing) = missing
missing_said (message h next rows) = 0

-- the bytes that say what is lent after it; those that say no holding stay as they were
unfoldable pub bytes_after : Lent → List ℕ → List ℕ
bytes_after stray bs = bs
bytes_after (lent held) bs = over (bytes_of (picture_of held)) bs

abbrev pub holding_bytes : Outcome → List ℕ → List ℕ
holding_bytes o bs = bytes_after (lent_after o) bs

-- those that a stop leaves: as they were, but for 13, which leaves the empty holding's (proofs/Outcomes.antt, `stop_bytes`)
unfoldable pub kept_bytes : Outcome → List ℕ → List ℕ
kept_bytes o bs = cond (changed o) (over (bytes_of (picture_of nothing)) bs) bs

-- reading under a holding lent as bytes
unfoldable pub host_outcome : List ℕ → List ℕ → ℕ → ℕ → List ℤ → Outcome
host_outcome holding bytes end start rows = outcome_at (holding_in holding) bytes end start rows

-- ---- a whole stretch

-- walking under a holding lent as bytes
unfoldable pub host_walk : List ℕ → List ℕ → ℕ → List ℤ → Walk
host_walk holding bytes end rows = walk_at (holding_in holding) bytes end rows

-- what is handed of the stop's answer, with its place and what was handed out before it
abbrev pub walked_at : Answer → Tally → Walked
walked_at a tally =
    let said = said_at tally.place a in
    record { answer = number_said said; place = tally.place; missing = missing_said said; messages = tally.messages; rows = tally.rows }

unfoldable pub walked_to : Walk → Walked
walked_to w = walked_at (answer_of w.stop) (tally_of w)

-- whether a walk may have changed what is held: a message was accepted, or the stop is 13
unfoldable pub changing : Answer → ℕ → Bool
changing a n = cond (ltb 0 n) true (eqb (number_said (said_at 0 a)) (number_of Changed))

-- what is written after a walk: nothing where nothing changed
unfoldable pub left_bytes : Bool → Holding → List ℕ → List ℕ
left_bytes held after bs = cond held (over (bytes_of after) bs) bs

abbrev pub walk_bytes : Walk → List ℕ → List ℕ
walk_bytes w bs = holding_bytes w.stop bs

-- ---- the start

-- the empty holding made of lent bytes, where there are enough
unfoldable pub emptied : List ℕ → List ℕ
emptied bs = cond (leb size (length bs)) (over (bytes_of (picture_of nothing)) bs) bs

unfoldable pub emptied_number : List ℕ → ℕ
emptied_number bs = cond (leb size (length bs)) 0 1
