-- A slot of a holding: one system, with the strips from its first satellite's on; and the slots that are left from one on.
use Rattle.std.specs.Prelude.{true, false, cond, List, ◌∷◌, ◌++◌, ◌≡◌, ℕ, ◌+◌, ◌-◌, ◌*◌, ◌/◌, ◌≤◌, eqb, length, get_or, drop}
use Rattle.std.specs.Int.Count.{ones}
use Rattle.bits.specs.BitLists.{spell}
use Rattle.format.specs.Masks.{System}
use Rattle.format.specs.Saved.{flag_text}
use Rattle.format.specs.Text.{tab, decimal, hex}
use Rattle.holding.specs.declared.Holding.{Holding}
use Rattle.holding.specs.declared.Outline.{Outline}
use Rattle.holding.specs.Outlines.{outline_of, whole_of}
use Rattle.holding.specs.Pictures.{system_of, systems_of, sound}
use Rattle.saved.specs.declared.systems.Slot.{Slot}

abbrev pub slot_in : Outline → List ℕ → ℕ → Slot
slot_in o satellites i =
    record { id = get_or o.ids i 0; satellites = get_or satellites i 0; signals = get_or o.signals i 0; flag = get_or o.flags i false }

abbrev pub slot_at : Holding → ℕ → Slot
slot_at h i = slot_in (outline_of h) h.satellites i

-- an outline and masks that are a sound holding's, with some strips
pub record Outlined (o : Outline) (satellites : List ℕ) : Type 0 where
  pub strips : List ℕ
  pub sounds : sound (whole_of o satellites strips) ≡ true

abbrev pub system_in : Slot → List ℕ → System
system_in s strips = system_of s.id s.satellites s.signals s.flag strips

-- the systems in the slots from one on, with the strips from one on
abbrev pub systems_from : Holding → ℕ → ℕ → List System
systems_from h i n = systems_of (h.count - i) (drop i h.ids) (drop i h.satellites) (drop i h.signals) (drop i h.flags) (drop n h.strips)

-- a sound holding, and room for a text from a place of a line on
abbrev pub HasRoom : Holding → List ℕ → ℕ → List ℕ → Type 0
HasRoom h text at line = (sound h ≡ true) × (at + length text ≤ length line)

-- how many bits its cell mask has
abbrev pub cell_count : Slot → ℕ
cell_count s = cond s.flag (ones s.satellites * ones s.signals) 0

-- what a line says of it before its cell mask
unfoldable pub front_text : Slot → List ℕ
front_text s = (tab ∷ decimal s.id) ++ ((tab ∷ hex (spell 40 s.satellites)) ++ ((tab ∷ hex (spell 16 s.signals)) ++ (tab ∷ flag_text s.flag)))

-- how long its text is: a dash where the cell mask has no bits, else its digits
abbrev pub cell_long : ℕ → ℕ
cell_long n = cond (eqb n 0) 1 ((n + 3) / 4)

-- five tabs, the 14 digits of both masks and the flag stand beside it and the ID
abbrev pub system_long : Slot → ℕ
system_long s = length (decimal s.id) + 20 + cell_long (cell_count s)
