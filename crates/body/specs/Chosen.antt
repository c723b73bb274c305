-- The lines of a body satellite by satellite, and those of the satellites that a selection chooses.
use Rattle.std.specs.Prelude.{cond, ℕ, zero, suc, eqb, get_or}
use mathlib.Core.List.{List, [], ◌∷◌, map, flatten}
use Rattle.bits.specs.BitLists.{spell}
use Rattle.format.specs.Lengths.{total}
use Rattle.format.specs.Masks.{Satellite, Cell, places_from, pick}
use Rattle.format.specs.Messages.{satellite_lines, cell_lines}
use Rattle.format.specs.Rows.{Column, Line}
use Rattle.holding.specs.Held.{cells_at}
use Rattle.body.specs.declared.Satellite.{Satellite as CodeSatellite}

-- a satellite as the code has it
abbrev pub satellite_of : CodeSatellite → Satellite
satellite_of sat = record { system = sat.system; number = sat.number }

-- one for Galileo's ID, none for another's
abbrev pub galileo : ℕ → ℕ
galileo id = cond (eqb id 2) 1 0

-- of the first n slots how many there are up to the last one of Galileo, none where it has none
unfoldable pub up_to_galileo : List ℕ → ℕ → ℕ
up_to_galileo ids zero = 0
up_to_galileo ids (suc n) = cond (eqb (get_or ids n 0) 2) (suc n) (up_to_galileo ids n)

-- how many are Galileo's
unfoldable pub galileos : List Satellite → ℕ
galileos sats = total (λ sat. galileo sat.system) sats

-- one for each satellite
unfoldable pub alone : (ℕ → List Column) → List Satellite → List (List Line)
alone shape sats = map (λ sat. satellite_lines shape (sat ∷ [])) sats

-- the cells of one satellite, by a strip of w bits
unfoldable pub cells_in : ℕ → Satellite → ℕ → List Cell
cells_in w sat strip = cells_at sat (places_from 0 (spell w strip))

-- one for each cell of each satellite, by its strip
unfoldable pub striped : (ℕ → List Column) → List Satellite → List ℕ → List (List Line)
striped shape [] strips = []
striped shape (sat ∷ sats) [] = []
striped shape (sat ∷ sats) (strip ∷ strips) = cell_lines shape (cells_in 16 sat strip) ∷ striped shape sats strips

-- of such lines those of the satellites that a selection chooses, the first one's bit being the highest of 64
unfoldable pub chosen_lines : ℕ → List (List Line) → List Line
chosen_lines chosen groups = flatten (pick (spell 64 chosen) groups)
