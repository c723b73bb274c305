-- A step of the listing: it takes bytes of a piece of input into the line, or says what the line says, or lists one message or the stop.
use Rattle.std.specs.Prelude.{◌≡◌, true, List, [], ℕ, ◌+◌, ◌-◌, ◌*◌, ◌^◌, ◌≤◌, min, ℤ, length, take}
use Rattle.std.proofs.lemmas.List.Edits.{sets}
use Rattle.format.specs.Answers.{stop, said_at}
use Rattle.format.specs.Listing.{Line, says, bad, line_says, bytes_said, record_text, letter_e, stop_values, message_text, bad_text}
use Rattle.format.specs.Reading.{stretch_limit, row_room, Outcome, accepted, idle, refused, rows_after, answer_of}
use Rattle.format.specs.Walking.{handed_at}
use Rattle.holding.specs.declared.Holding.{Holding}
use Rattle.holding.specs.Pictures.{picture_of, sound}
use Rattle.reader.specs.Readings.{outcome_at, holding_after}
use Rattle.walk.specs.declared.Tally.{Tally}
use Rattle.lister.specs.declared.Work.{Work}
use Rattle.lister.specs.declared.Work.TheVariants.{Gathering, Whole, Walking}
use Rattle.lister.specs.declared.State.{State}
use Rattle.lister.specs.declared.Step.{Step}
use Rattle.lister.specs.Gathering.{up_to, kept_in, gathered}

-- what a step does: the state after it, the bytes of the piece that it takes, the text that it gives, the line and the row buffer after it
pub record Done : Type 0 where
  pub state : State
  pub taken : ℕ
  pub text : List ℕ
  pub line : List ℕ
  pub rows : List ℤ

-- a line's number is counted as far as a number of 64 bits goes
unfoldable pub counted : ℕ → ℕ
counted n = min (2 ^ 64 - 1) (n + 1)

abbrev pub start : Tally
start = record { place = 0; messages = 0; rows = 0 }

abbrev pub working : State → Work → State
working s work = record { number = s.number; work = work; holding = s.holding }

-- the next line, with what is held then
abbrev pub next_line : State → Holding → State
next_line s holding = record { number = counted s.number; work = Gathering 0; holding = holding }

-- ---- of a line: bytes of the piece come to it

unfoldable pub gathers : State → ℕ → List ℕ → List ℤ → List ℕ → Done
gathers s filled line rows piece =
    record {
      state = working s (gathered (length line) filled piece);
      taken = up_to piece;
      text = [];
      line = kept_in line filled (take (up_to piece) piece);
      rows = rows;
    }

-- ---- of a whole line: its stretch's bytes take its place, or it is bad

unfoldable pub opens_as : State → Line → List ℕ → List ℤ → Done
opens_as s (says l) line rows =
    record { state = working s (Walking (length l) start); taken = 0; text = []; line = sets line 0 (bytes_said l); rows = rows }
opens_as s bad line rows = record { state = next_line s s.holding; taken = 0; text = bad_text s.number; line = line; rows = rows }

-- ---- of a stretch: one message, or the stop

-- the line of a stop with this number, and so many bits missing
abbrev pub stop_text : ℕ → ℕ → Tally → List ℕ
stop_text number missing tally = record_text letter_e (stop_values (stop number tally.place missing) tally.messages tally.rows)

unfoldable pub stops_as : State → Tally → Outcome → List ℕ → List ℤ → Done
stops_as s tally o line rows =
    record {
      state = next_line s (holding_after s.holding o);
      taken = 0;
      text = record_text letter_e (stop_values (said_at tally.place (answer_of o)) tally.messages tally.rows);
      line = line;
      rows = rows;
    }

unfoldable pub lists_as : State → ℕ → Tally → Outcome → List ℕ → List ℤ → Done
lists_as s bits tally (accepted m next) line rows =
    record {
      state =
          record {
            number = s.number;
            work = Walking bits (record { place = next; messages = tally.messages + 1; rows = tally.rows + length m.content.rows });
            holding = picture_of m.after;
          };
      taken = 0;
      text = message_text (handed_at tally.place m next);
      line = line;
      rows = rows_after (accepted m next) rows;
    }
lists_as s bits tally (idle holding) line rows = stops_as s tally (idle holding) line rows
lists_as s bits tally (refused r missing holding) line rows = stops_as s tally (refused r missing holding) line rows

abbrev pub listed_at : State → ℕ → Tally → List ℕ → List ℤ → Done
listed_at s bits tally line rows = lists_as s bits tally (outcome_at s.holding line bits tally.place rows) line rows

-- ---- a step

unfoldable pub step_by : Work → State → List ℕ → List ℤ → List ℕ → Done
step_by (Gathering filled) s line rows piece = gathers s filled line rows piece
step_by (Whole filled) s line rows piece = opens_as s (line_says (take filled line)) line rows
step_by (Walking bits tally) s line rows piece = listed_at s bits tally line rows

abbrev pub step_of : State → List ℕ → List ℤ → List ℕ → Done
step_of s line rows piece = step_by s.work s line rows piece

-- what the code answers
abbrev pub answered : Done → Step
answered d = record { state = d.state; taken = d.taken; given = length d.text }

-- ---- what a step is made under

-- how many bytes of a line are kept: one more than the longest that is not bad has
abbrev pub line_room : ℕ
line_room = 12721

unfoldable pub GoodWork : Work → ℕ → Type 0
GoodWork (Gathering filled) room = filled ≤ room
GoodWork (Whole filled) room = filled ≤ room
GoodWork (Walking bits tally) room =
    (bits ≤ stretch_limit) × (tally.place ≤ bits) × (tally.messages ≤ tally.place) × (tally.rows ≤ 256 * tally.messages)

pub record Good (s : State) (line : List ℕ) (rows : List ℤ) : Type 0 where
  pub held : sound s.holding ≡ true
  pub room : line_room ≤ length line
  pub numbers : row_room ≤ length rows
  pub work : GoodWork s.work (length line)
