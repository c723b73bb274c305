-- What is held, and what a holding's slots and strips say of it.
use Rattle.std.specs.Prelude.{Bool, true, false, List, [], ◌∷◌, ◌++◌, map, ℕ, suc, take}
use Rattle.bits.specs.BitLists.{spell}
use Rattle.format.specs.Masks.{Held, nothing, mask, Satellite, Cell, Sky, places_from, satellites, cells}
use Rattle.holding.specs.declared.Holding.{Holding}

-- ---- of what is held: whether there is a mask, its issue, its satellites and cells

unfoldable pub is_held : Held → Bool
is_held nothing = false
is_held (mask m) = true

unfoldable pub issue_of : Held → ℕ
issue_of nothing = 0
issue_of (mask m) = m.iod

unfoldable pub satellites_held : Held → List Satellite
satellites_held nothing = []
satellites_held (mask m) = satellites m.systems

unfoldable pub cells_held : Held → List Cell
cells_held nothing = []
cells_held (mask m) = cells m.systems

-- ---- by slots: the satellites

-- those of one system, by a mask of w bits
unfoldable pub satellites_in : ℕ → ℕ → ℕ → List Satellite
satellites_in w id m = map (λ place. record { system = id; number = suc place }) (places_from 0 (spell w m))

-- those of slots, by their IDs and their masks of 40 bits
unfoldable pub slot_satellites : List ℕ → List ℕ → List Satellite
slot_satellites [] masks = []
slot_satellites (id ∷ ids) [] = []
slot_satellites (id ∷ ids) (m ∷ masks) = satellites_in 40 id m ++ slot_satellites ids masks

-- those of a holding's slots
abbrev pub slots_of : Holding → List Satellite
slots_of h = slot_satellites (take h.count h.ids) h.satellites

-- ---- by strips: the cells

-- those of one satellite, at the places of its signals
abbrev pub cells_at : Satellite → List ℕ → List Cell
cells_at sat places = map (λ place. record { satellite = sat; signal = place }) places

-- those of satellites, each by its strip
unfoldable pub strip_cells : List Satellite → List ℕ → List Cell
strip_cells [] strips = []
strip_cells (sat ∷ sats) [] = []
strip_cells (sat ∷ sats) (strip ∷ strips) = cells_at sat (places_from 0 (spell 16 strip)) ++ strip_cells sats strips

-- what a holding shows to a message: its satellites in order, and the strip of each
pub record View : Type 0 where
  pub satellites : List Satellite
  pub strips : List ℕ

unfoldable pub sky_in : View → Sky
sky_in v = record { satellites = v.satellites; cells = strip_cells v.satellites v.strips }

abbrev pub view_of : Holding → View
view_of h = record { satellites = slots_of h; strips = h.strips }
