-- The listing: document 01, "Saved mask and listing". What a line of input says, the M, R, E and B lines, and the whole output of an input.
use Rattle.std.specs.Prelude.{Bool, true, false, cond, ◌&&◌, ℕ, suc, ◌+◌, ◌-◌, ◌/◌, leb, eqb, ℤ, pos, negsuc, length, get_or, take, replicate}
use mathlib.Core.List.{List, [], ◌∷◌, ◌++◌, flat_map}
use Rattle.bits.specs.BitLists.{bytes}
use Rattle.format.specs.declared.Head.{Head}
use Rattle.format.specs.declared.Refusal.TheVariants.{Short}
use Rattle.format.specs.Answers.{Said, stop, message, number_of, said_at}
use Rattle.format.specs.Masks.{Held, lent, held_in}
use Rattle.format.specs.Reading.{stretch_limit, row_room, lent_after, answer_of}
use Rattle.format.specs.Rows.{absent}
use Rattle.format.specs.Same.{same_list, sameℤ}
use Rattle.format.specs.Text.{tab, line_feed, dash, decimal, decimal_value, hex, hex_bits, fields_from}
use Rattle.format.specs.Walking.{HandedOut, Walk, walk, messages, row_count}

-- ---- a line of input: bit count and hex

-- the line that says these bits: capitals, a quarter of the bits rounded up, spare bits zero
unfoldable pub stretch_line : List Bool → List ℕ
stretch_line l = decimal (length l) ++ (tab ∷ (hex l ++ (line_feed ∷ [])))

-- the bits that a line says if it is one
unfoldable pub bits_said : List ℕ → List Bool
bits_said line =
    let fields = fields_from [] line in
    take (decimal_value 0 (get_or fields 0 [])) (hex_bits (get_or fields 1 []))

-- What a line is: one that says a stretch, or a bad one: no such line, one of over 50,850 bits, or without its line feed.
pub data Line : Type 0 where
  says : List Bool → Line
  bad : Line

unfoldable pub line_says : List ℕ → Line
line_says line =
    let l = bits_said line in
    cond (leb (length l) stretch_limit && same_list eqb (stretch_line l) line) (says l) bad

-- bits as bytes, with zeros after them
unfoldable pub bytes_said : List Bool → List ℕ
bytes_said l = bytes ((length l + 7) / 8) (l ++ replicate 7 false)

-- ---- lines of output: a letter, then values, each after a tab

-- `-` is absent
unfoldable pub value_text : ℤ → List ℕ
value_text (pos n) = decimal n
value_text (negsuc n) = cond (sameℤ (negsuc n) absent) (dash ∷ []) (dash ∷ decimal (suc n))

unfoldable pub record_text : ℕ → List ℤ → List ℕ
record_text letter vs = letter ∷ (flat_map (λ v. tab ∷ value_text v) vs ++ (line_feed ∷ []))

abbrev pub letter_m : ℕ
letter_m = 77

abbrev pub letter_r : ℕ
letter_r = 82

abbrev pub letter_e : ℕ
letter_e = 69

abbrev pub letter_b : ℕ
letter_b = 66

unfoldable pub head_values : Head → List ℤ
head_values h = h.subtype ∷ h.epoch ∷ h.interval ∷ h.indicator ∷ h.iod ∷ h.a ∷ h.b ∷ h.c ∷ []

-- M: place, length, the head, row count; then R for each row
unfoldable pub message_text : HandedOut → List ℕ
message_text d =
    let rows = d.content.rows in
    record_text letter_m (pos d.place ∷ pos (d.next - d.place) ∷ (head_values d.content.head ++ (pos (length rows) ∷ []))) ++ flat_map (record_text letter_r) rows

-- how many bits were missing where a stop is 3; `-` for every other
unfoldable pub missing_value : ℕ → ℕ → ℤ
missing_value number missing = cond (eqb number (number_of Short)) (pos missing) absent

-- E: stop number, place, messages, rows, missing bits
unfoldable pub stop_values : Said → ℕ → ℕ → List ℤ
stop_values (stop number place missing) messages rows = pos number ∷ pos place ∷ pos messages ∷ pos rows ∷ missing_value number missing ∷ []
stop_values (message h next n) messages rows = []

unfoldable pub walk_text : Walk → List ℕ
walk_text w =
    flat_map message_text w.handed ++ record_text letter_e (stop_values (said_at w.place (answer_of w.stop)) (messages w) (row_count w.handed))

-- B: the line's number
unfoldable pub bad_text : ℕ → List ℕ
bad_text k = record_text letter_b (pos k ∷ [])

-- ---- an input

-- what is listed, and what is held after it
pub record Listed : Type 0 where
  pub text : List ℕ
  pub held : Held

-- what is handed out does not depend on what the row buffer held
unfoldable pub walk_said : Held → List Bool → Walk
walk_said held l = walk (lent held) (bytes_said l) (length l) (replicate row_room (pos 0))

-- the k-th line; a bad one changes no holding
unfoldable pub list_line : Held → ℕ → Line → Listed
list_line held k (says l) = record { text = walk_text (walk_said held l); held = held_in (lent_after (walk_said held l).stop) }
list_line held k bad = record { text = bad_text k; held = held }

-- the lines of an input, each with its line feed; what stands behind the last one, if anything, is a line without
unfoldable pub lines_from : List ℕ → List ℕ → List (List ℕ)
lines_from [] [] = []
lines_from (b ∷ before) [] = (b ∷ before) ∷ []
lines_from before (c ∷ cs) = cond (eqb c line_feed) ((before ++ (c ∷ [])) ∷ lines_from [] cs) (lines_from (before ++ (c ∷ [])) cs)

-- lines from the k-th on, the mask held from line to line
unfoldable pub list_lines : Held → ℕ → List (List ℕ) → Listed
list_lines held k [] = record { text = []; held = held }
list_lines held k (line ∷ lines) =
    let here = list_line held k (line_says line) in
    let rest = list_lines here.held (suc k) lines in
    record { text = here.text ++ rest.text; held = rest.held }

unfoldable pub listing : Held → List ℕ → Listed
listing held input = list_lines held 1 (lines_from [] input)
