-- What a holding lends to a body: the IDs of its slots, their masks, and the strips of their satellites.
use Rattle.std.specs.Prelude.{◌≡◌, true, List, ℕ, ◌≤◌, length, take}
use Rattle.holding.specs.declared.Holding.{Holding}
use Rattle.holding.specs.Bounds.{narrow}
use Rattle.holding.specs.Held.{View, slot_satellites, strip_cells}

-- what they show to a message
abbrev pub view_by : List ℕ → List ℕ → List ℕ → View
view_by ids masks strips = record { satellites = slot_satellites ids masks; strips = strips }

-- a mask for each ID, none wider than 40 bits
pub record Slots (ids masks : List ℕ) : Type 0 where
  pub masked : length ids ≤ length masks
  pub thin : narrow 40 masks ≡ true

-- and a strip for each satellite; and they are no more than document 01's limits
pub record Lent (ids masks strips : List ℕ) : Type 0 where
  pub slots : Slots ids masks
  pub covered : length (slot_satellites ids masks) ≤ length strips
  pub satellites : length (slot_satellites ids masks) ≤ 64
  pub cells : length (strip_cells (slot_satellites ids masks) strips) ≤ 256

-- how many satellites and cells they have, of strips that are strips
pub record Sized (ids masks strips : List ℕ) (nsat ncell : ℕ) : Type 0 where
  pub lent : Lent ids masks strips
  pub satellites : length (slot_satellites ids masks) ≡ nsat
  pub cells : ncell ≡ length (strip_cells (slot_satellites ids masks) strips)
  pub thin : narrow 16 strips ≡ true
  pub most : length strips ≤ 64

-- they are a holding's: the IDs of its slots, and its masks and strips whole
pub record Lends (h : Holding) (ids masks strips : List ℕ) : Type 0 where
  pub named : ids ≡ take h.count h.ids
  pub masked : masks ≡ h.satellites
  pub striped : strips ≡ h.strips
