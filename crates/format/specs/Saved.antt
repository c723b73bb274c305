-- The saved holding: document 01, "Saved mask and listing", one line there and back.
use Rattle.std.specs.Prelude.{Bool, true, false, cond, ◌&&◌, ℕ, ◌*◌, leb, eqb, length, get_or, take, drop}
use mathlib.Core.List.{List, [], ◌∷◌, ◌++◌, flat_map}
use Rattle.format.specs.declared.Refusal.{Refusal}
use Rattle.format.specs.declared.Refusal.TheVariants.{Room, Value}
use Rattle.format.specs.Answers.{Done, done, undone_at}
use Rattle.format.specs.Good.{good, is_holding}
use Rattle.format.specs.Masks.{System, Held, nothing, mask, Lent, held_in, places_from}
use Rattle.format.specs.Same.{same_list}
use Rattle.format.specs.Tests.{Test, verdict}
use Rattle.format.specs.Text.{tab, line_feed, dash, digit_char, decimal, decimal_value, hex, hex_bits, fields_from}

-- ---- the line

abbrev pub letter_s : ℕ
letter_s = 83

-- `-` when the flag is 0 or the cell mask has no bits
unfoldable pub cell_text : List Bool → List ℕ
cell_text [] = dash ∷ []
cell_text (b ∷ l) = hex (b ∷ l)

unfoldable pub flag_text : Bool → List ℕ
flag_text true = digit_char 1 ∷ []
flag_text false = digit_char 0 ∷ []

unfoldable pub system_text : System → List ℕ
system_text s =
    tab ∷ (decimal s.id ++ (tab ∷ (hex s.satellites ++ (tab ∷ (hex s.signals ++ (tab ∷ (flag_text s.flag ++ (tab ∷ cell_text s.cells))))))))

unfoldable pub held_text : Held → List ℕ
held_text nothing = dash ∷ []
held_text (mask m) = decimal m.iod ++ flat_map system_text m.systems

unfoldable pub line_of : Held → List ℕ
line_of held = letter_s ∷ (tab ∷ (held_text held ++ (line_feed ∷ [])))

-- ---- and back: what the line says if it is one, and then the test that it is

unfoldable pub system_from : List ℕ → List ℕ → List ℕ → List ℕ → List ℕ → System
system_from id sats signals flag bits =
    let s = take 40 (hex_bits sats) in
    let g = take 16 (hex_bits signals) in
    let f = eqb (get_or flag 0 0) (digit_char 1) in
    record {
      id = decimal_value 0 id;
      satellites = s;
      signals = g;
      flag = f;
      cells = cond f (take (length (places_from 0 s) * length (places_from 0 g)) (hex_bits bits)) [];
    }

unfoldable pub systems_from : List (List ℕ) → List System
systems_from [] = []
systems_from (a ∷ []) = []
systems_from (a ∷ b ∷ []) = []
systems_from (a ∷ b ∷ c ∷ []) = []
systems_from (a ∷ b ∷ c ∷ d ∷ []) = []
systems_from (a ∷ b ∷ c ∷ d ∷ e ∷ more) = system_from a b c d e ∷ systems_from more

unfoldable pub held_from : List (List ℕ) → Held
held_from [] = nothing
held_from (s ∷ []) = nothing
held_from (s ∷ iod ∷ more) =
    cond (eqb (get_or iod 0 0) dash) nothing (mask (record { iod = decimal_value 0 iod; systems = systems_from more }))

-- How loading ends: with a holding, or refused.
pub data Loaded : Type 0 where
  loaded : Held → Loaded
  unloaded : Refusal → Loaded

-- 12 for a line that the form can't produce
unfoldable pub load : List ℕ → Loaded
load line =
    let held = held_from (fields_from [] line) in
    cond (good held && same_list eqb (line_of held) line) (loaded held) (unloaded Value)

-- the holding that is handed back: the empty one beside a refusal
unfoldable pub held_loaded : Loaded → Held
held_loaded (loaded held) = held
held_loaded (unloaded r) = nothing

-- what is answered beside it: how long the line is, or the refusal's number at 0
unfoldable pub done_loading : List ℕ → Loaded → Done
done_loading line (loaded held) = done (length line)
done_loading line (unloaded r) = undone_at 0 r

-- ---- saving into a lent buffer: 12 comes before 1

pub data Saved : Type 0 where
  saved : ℕ → Saved
  unsaved : Refusal → Saved

unfoldable pub saving : Lent → List ℕ → Saved
saving holding buffer =
    let size = length (line_of (held_in holding)) in
    verdict unsaved (saved size)
    (record { holds = is_holding holding; else = Value }
    ∷ record { holds = leb size (length buffer); else = Room }
    ∷ [])

-- what it answers: how long the line is, or the refusal's number at 0
unfoldable pub done_saving : Saved → Done
done_saving (saved n) = done n
done_saving (unsaved r) = undone_at 0 r

-- later bytes stay
unfoldable pub buffer_after : Saved → Held → List ℕ → List ℕ
buffer_after (saved n) held buffer = line_of held ++ drop n buffer
buffer_after (unsaved r) held buffer = buffer
