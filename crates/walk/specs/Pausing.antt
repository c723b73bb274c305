-- Reading under one mask: message after message, up to the next mask or the stop; or once.
use Rattle.std.specs.Prelude.{Bool, cond, List, ℕ, zero, suc, ◌+◌, ◌-◌, ℤ}
use Rattle.format.specs.declared.Answer.TheVariants as Answers
use Rattle.format.specs.Reading.{rows_after}
use Rattle.reader.specs.declared.message.Found.{Found}
use Rattle.reader.specs.declared.message.Found.TheVariants.{Mask, Answered}
use Rattle.reader.specs.Readings.{read_at, found_at}
use Rattle.walk.specs.declared.under.Pause.{Pause}
use Rattle.walk.specs.Standing.{Stand, stand_at}

-- what is found at a stand, and the row buffer after that reading
abbrev pub found_in : List ℕ → ℕ → Stand → Found
found_in bytes end s = found_at s.holding bytes end s.tally.place

abbrev pub rows_in : List ℕ → ℕ → Stand → List ℤ
rows_in bytes end s = rows_after (read_at s.holding bytes end s.tally.place) s.rows

-- the stand behind a message of n rows, under the same mask
abbrev pub behind : List ℕ → ℕ → Stand → ℕ → ℕ → Stand
behind bytes end s next n =
    stand_at s.holding (record { place = next; messages = s.tally.messages + 1; rows = s.tally.rows + n }) (rows_in bytes end s)

-- goes on behind a message only
unfoldable pub go_under : Found → Stand → (ℕ → ℕ → Stand) → Stand
go_under Mask s more = s
go_under (Answered (Answers.Message head next n)) s more = more next n
go_under (Answered Answers.Idle) s more = s
go_under (Answered (Answers.Refused r missing)) s more = s

-- by fuel, of which one more than the bits left suffices, as for the walk
unfoldable pub under_from : ℕ → List ℕ → ℕ → Stand → Stand
under_from zero bytes end s = s
under_from (suc fuel) bytes end s = go_under (found_in bytes end s) s (λ next n. under_from fuel bytes end (behind bytes end s next n))

unfoldable pub under_on : List ℕ → ℕ → Stand → Stand
under_on bytes end s = under_from (suc (end - s.tally.place)) bytes end s

-- the stand at which reading pauses: its own if it reads once
unfoldable pub pauses_in : Bool → List ℕ → ℕ → Stand → Stand
pauses_in once bytes end s = cond once s (under_on bytes end s)

abbrev pub pause_in : List ℕ → ℕ → Stand → Pause
pause_in bytes end s = record { found = found_in bytes end s; tally = s.tally }
