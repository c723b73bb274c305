-- What a listing still owes in a state: the text and the holding to come, by the input that is left.
use mathlib.Core.List.{List, [], ◌∷◌, ◌++◌, flat_map}
use Rattle.std.specs.Prelude.{ℕ, suc, ◌+◌, pos, take, replicate}
use Rattle.format.specs.Answers.{said_at}
use Rattle.format.specs.Listing.{Listed, lines_from, list_lines, message_text, record_text, letter_e, stop_values}
use Rattle.format.specs.Masks.{Held, lent, held_in}
use Rattle.format.specs.Reading.{row_room, lent_after, answer_of}
use Rattle.format.specs.Table.{table}
use Rattle.format.specs.Walking.{Walk, walk_on, messages, row_count}
use Rattle.holding.specs.Pictures.{mask_of}
use Rattle.walk.specs.declared.Tally.{Tally}
use Rattle.lister.specs.declared.Work.{Work}
use Rattle.lister.specs.declared.Work.TheVariants.{Gathering, Whole, Walking}
use Rattle.lister.specs.declared.State.{State}

-- text in front of what is listed
unfoldable pub behind : List ℕ → Listed → Listed
behind text l = record { text = text ++ l.text; held = l.held }

-- the walk from a place on
unfoldable pub walk_left : Held → List ℕ → ℕ → ℕ → Walk
walk_left held line bits place = walk_on table (lent held) line bits place (replicate row_room (pos 0))

-- what is left of it as text, the messages and rows before it counted in
unfoldable pub left_text : Tally → Walk → List ℕ
left_text tally w =
    flat_map message_text w.handed ++ record_text letter_e (stop_values (said_at w.place (answer_of w.stop)) (tally.messages + messages w) (tally.rows + row_count w.handed))

unfoldable pub owed_by : Work → Held → ℕ → List ℕ → List ℕ → Listed
owed_by (Gathering filled) held k line input = list_lines held k (lines_from (take filled line) input)
owed_by (Whole filled) held k line input = list_lines held k (take filled line ∷ lines_from [] input)
owed_by (Walking bits tally) held k line input =
    let w = walk_left held line bits tally.place in
    behind (left_text tally w) (list_lines (held_in (lent_after w.stop)) (suc k) (lines_from [] input))

abbrev pub owed : State → List ℕ → List ℕ → Listed
owed s line input = owed_by s.work (mask_of s.holding) s.number line input
