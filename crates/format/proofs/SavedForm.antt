-- The saved form: a good holding's line loads to it, and a line loads only to the holding whose line it is.
-- Assumes nothing.
use mathlib.Core.Path.{◌≡◌, refl, sym, ap, ap₂, ◌∙◌}
use mathlib.Core.Bool.{Bool, true, false, cond, ◌&&◌, and-eq-true_iff, false≢true}
use mathlib.Core.List.{List, [], ◌∷◌, ◌++◌, flat_map, append_assoc}
use Prim.Native.Nat.{ℕ}
use native.Mathlib.Omega.{arith}
use lib.Dec.{ltb, eqb}
use lib.ListN.{length, get_or, take}
use borrow.Author.Tests.{eqb-true, ne_eqb}
use Rattle.format.specs.declared.Refusal.{Refusal}
use Rattle.format.specs.declared.Refusal.TheVariants.{Value}
use Rattle.format.specs.Assigned.{known}
use Rattle.format.specs.Good.{good, good_system, good_systems}
use Rattle.format.specs.Masks.{System, Held, nothing, mask, satellites}
use Rattle.format.specs.Same.{same_list}
use Rattle.format.specs.Saved.{letter_s, cell_text, flag_text, system_text, held_text, line_of, system_from, systems_from, held_from, loaded, unloaded, load}
use Rattle.format.specs.Text.{line_feed, dash, digit_char, decimal, hex, hex_bits, fields_from}
use Rattle.format.proofs.Bodies.{All, none, more}
use Rattle.format.proofs.MakesBack.{GoodSystem, good_system_lem}
use Rattle.format.proofs.Sames.{same_list_sound, same_list_refl, eqb_refl}
use Rattle.format.proofs.Texts.{decimal_value_decimal, decimal_first, hex_bits_hex, Plain, plain_digit, plain_decimal, plain_hex, joined, fields_joined}

-- ---- cells and flags

-- the cell mask is read as it was written: as many bits as the flag says
pub cells_cell_text : (flag : Bool) (n : ℕ) (l : List Bool) → length l ≡ cond flag n 0 → cond flag (take n (hex_bits (cell_text l))) [] ≡ l
unfolding cell_text
cells_cell_text true n [] e = rw (← e)
cells_cell_text true n (b ∷ l) e = rw (← e) (hex_bits_hex (b ∷ l))
cells_cell_text false n [] e = refl
cells_cell_text false n (b ∷ l) e = absurd (omega arith)

-- the flag is read as it was written
flag_flag_text : (flag : Bool) → eqb (get_or (flag_text flag) 0 0) (digit_char 1) ≡ flag
unfolding flag_text digit_char
flag_flag_text true = refl
flag_flag_text false = refl

-- ---- text without tab and line feed

plain_cells : (l : List Bool) → Plain (cell_text l)
unfolding cell_text
plain_cells [] = more {x = dash} (omega arith) none
plain_cells (b ∷ l) = plain_hex (b ∷ l)

plain_flag : (flag : Bool) → Plain (flag_text flag)
unfolding flag_text
plain_flag true = plain_digit 1 none
plain_flag false = plain_digit 0 none

-- ---- a line is its fields, each after a tab

system_fields : System → List (List ℕ)
system_fields s = decimal s.id ∷ hex s.satellites ∷ hex s.signals ∷ flag_text s.flag ∷ cell_text s.cells ∷ []

held_fields : Held → List (List ℕ)
held_fields nothing = (dash ∷ []) ∷ []
held_fields (mask m) = decimal m.iod ∷ flat_map system_fields m.systems

systems_joined : (ss : List System) → flat_map system_text ss ++ (line_feed ∷ []) ≡ joined (flat_map system_fields ss)
unfolding flat_map system_text system_fields joined
systems_joined [] = refl
systems_joined (s ∷ ss) = simp (append_assoc, systems_joined ss)

line_joined : (held : Held) → line_of held ≡ letter_s ∷ joined (held_fields held)
unfolding line_of held_text held_fields joined
line_joined nothing = refl
line_joined (mask m) = simp (append_assoc, systems_joined)

plain_systems : (ss : List System) → All Plain (flat_map system_fields ss)
unfolding flat_map system_fields
plain_systems [] = none
plain_systems (s ∷ ss) =
    more (plain_decimal s.id) (more (plain_hex s.satellites) (more (plain_hex s.signals) (more (plain_flag s.flag) (more (plain_cells s.cells) (plain_systems ss)))))

plain_held : (held : Held) → All Plain (held_fields held)
unfolding held_fields
plain_held nothing = more (more {x = dash} (omega arith) none) none
plain_held (mask m) = more (plain_decimal m.iod) (plain_systems m.systems)

fields_line : (held : Held) → fields_from [] (line_of held) ≡ (letter_s ∷ []) ∷ held_fields held
unfolding fields_from
fields_line held = ap (fields_from []) (line_joined held) ∙ fields_joined (letter_s ∷ []) (held_fields held) (plain_held held)

-- ---- the fields of a good holding are its own

system_from_good : (before : List System) (s : System) → GoodSystem before s
    → system_from (decimal s.id) (hex s.satellites) (hex s.signals) (flag_text s.flag) (cell_text s.cells) ≡ s
unfolding system_from known
system_from_good before s g =
    let id = decimal_value_decimal s.id in
    let satellites : take 40 (hex_bits (hex s.satellites)) ≡ s.satellites = rw g.whole at (hex_bits_hex s.satellites) in
    let signals : take 16 (hex_bits (hex s.signals)) ≡ s.signals = rw g.long at (hex_bits_hex s.signals) in
    let flag = flag_flag_text s.flag in
    let cells : (system_from (decimal s.id) (hex s.satellites) (hex s.signals) (flag_text s.flag) (cell_text s.cells)).cells ≡ s.cells =
    rw (satellites, signals, flag) (cells_cell_text s.flag _ s.cells g.width) in
    λ i. record { id = id i; satellites = satellites i; signals = signals i; flag = flag i; cells = cells i }

systems_from_good : (before ss : List System) → good_systems before ss ≡ true → systems_from (flat_map system_fields ss) ≡ ss
unfolding good_systems systems_from flat_map system_fields
systems_from_good before [] g = refl
systems_from_good before (s ∷ ss) g =
    let h = (and-eq-true_iff (good_system before s) (good_systems (before ++ (s ∷ [])) ss)).0 g in
    ap₂ ◌∷◌ (system_from_good before s (good_system_lem before s h.0)) (systems_from_good (before ++ (s ∷ [])) ss h.1)

held_from_good : (held : Held) → good held ≡ true → held_from ((letter_s ∷ []) ∷ held_fields held) ≡ held
unfolding good held_from held_fields
held_from_good nothing g = refl
held_from_good (mask m) g =
    let h = (and-eq-true_iff (ltb m.iod 16) (good_systems [] m.systems)).0 g in
    let iod = decimal_value_decimal m.iod in
    let systems = systems_from_good [] m.systems h.1 in
    rw (ne_eqb (get_or (decimal m.iod) 0 0) dash (λ e. omega (arith, decimal_first m.iod))) (λ i. mask (record { iod = iod i; systems = systems i }))

held_from_line : (held : Held) → good held ≡ true → held_from (fields_from [] (line_of held)) ≡ held
held_from_line held g = ap held_from (fields_line held) ∙ held_from_good held g

-- ---- loading

-- a good holding's line loads to it
pub load_line : (held : Held) → good held ≡ true → load (line_of held) ≡ loaded held
unfolding load
load_line held g = rw (held_from_line held g, g, same_list_refl eqb eqb_refl (line_of held))

loaded_same : (g h : Held) → loaded g ≡ loaded h → g ≡ h
loaded_same g h e = cc

never_unloaded : (r : Refusal) (held : Held) → unloaded r ≡ loaded held → ⊥
never_unloaded r held e = false≢true cc

-- a line loads only to the good holding whose line it is
pub line_load : (line : List ℕ) (held : Held) → load line ≡ loaded held → (line_of held ≡ line) × (good held ≡ true)
unfolding load
line_load line held e = go (good found) (same_list eqb (line_of found) line) refl refl e
  where
    found : Held
    found = held_from (fields_from [] line)

    go : (b c : Bool) → good found ≡ b → same_list eqb (line_of found) line ≡ c → cond (b && c) (loaded found) (unloaded Value) ≡ loaded held
        → (line_of held ≡ line) × (good held ≡ true)
    go true true g s f = rw (← (loaded_same found held f)) (same_list_sound eqb eqb-true (line_of found) line s, g)
    go true false g s f = absurd (never_unloaded Value held f)
    go false c g s f = absurd (never_unloaded Value held f)

-- a line refused is no good holding's
pub line_refused : (line : List ℕ) (r : Refusal) → load line ≡ unloaded r → (held : Held) → good held ≡ true → line_of held ≡ line → ⊥
line_refused line r e held g same = never_unloaded r held (sym e ∙ ap load (sym same) ∙ load_line held g)

-- two good holdings have two lines
pub line_injective : (g h : Held) → good g ≡ true → good h ≡ true → line_of g ≡ line_of h → g ≡ h
line_injective g h good-g good-h same = loaded_same g h (sym (load_line g good-g) ∙ ap load same ∙ load_line h good-h)
