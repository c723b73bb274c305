-- The lines of output as code writes them, and the most characters that they have: a value of 32 bits has 11, a sign and ten digits.
use mathlib.Core.List.{List, [], ◌∷◌, ◌++◌, flat_map}
use Rattle.std.specs.Prelude.{ℕ, ◌+◌, ◌-◌, ◌*◌, ℤ, pos}
use Rattle.format.specs.declared.Head.{Head}
use Rattle.format.specs.Answers.{stop}
use Rattle.format.specs.Listing.{head_values, letter_m, letter_e, value_text, record_text, message_text, stop_values}
use Rattle.format.specs.Text.{tab}
use Rattle.format.specs.Writing.{rows_in}

-- a line without its line feed
unfoldable pub values_text : ℕ → List ℤ → List ℕ
values_text letter vs = letter ∷ flat_map (λ v. tab ∷ value_text v) vs

-- the line of a message without its rows
abbrev pub opening_in : Head → ℕ → ℕ → ℕ → List ℕ
opening_in head place next n = record_text letter_m (pos place ∷ pos (next - place) ∷ (head_values head ++ (pos n ∷ [])))

-- a message from a place to the next, with its head and the first n rows of a row buffer
abbrev pub message_in : Head → ℕ → ℕ → ℕ → List ℤ → List ℕ
message_in head place next n rows =
    message_text (record { place = place; next = next; content = record { head = head; rows = rows_in n rows } })

-- the line of a stop, with how many bits were missing
abbrev pub stop_in : ℕ → ℕ → ℕ → ℕ → ℕ → List ℕ
stop_in number place messages rows missing = record_text letter_e (stop_values (stop number place missing) messages rows)

-- a line of so many values: the letter, a tab before each, the line feed
abbrev pub record_long : ℕ → ℕ
record_long k = 2 + 12 * k

-- an R line
abbrev pub row_long : ℕ
row_long = record_long 8

-- a number of 64 bits has 20 digits; a tab before it
abbrev pub missing_long : ℕ
missing_long = 21

-- an M line of 11 values, and the lines of 256 rows
abbrev pub message_room : ℕ
message_room = record_long 11 + 256 * row_long
