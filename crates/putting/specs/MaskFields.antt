-- The systems of a mask message (document 01, sub type 1) as fields, from the held mask: ID and satellite mask together, signal mask and cell flag
-- together, and where the flag is 1 the cell mask, a field for each satellite.
use Rattle.std.specs.Prelude.{cond, List, [], ◌∷◌, ◌++◌, ℕ, zero, suc, ◌+◌, ◌*◌, ◌^◌, take, drop}
use Rattle.std.specs.Int.Count.{ones}
use Rattle.bits.specs.BitLists.{digit, number}
use Rattle.holding.specs.declared.Holding.{Holding}
use Rattle.saved.specs.declared.systems.Slot.{Slot}
use Rattle.saved.specs.Gathering.{strip_bits}
use Rattle.saved.specs.Slots.{slot_at}
use Rattle.pens.specs.declared.pen.Field.{Field}

-- "satellite by satellite": the bits of each strip at the places of the signal mask
unfoldable pub strip_fields : ℕ → List ℕ → List Field
strip_fields signals [] = []
strip_fields signals (strip ∷ strips) = record { width = ones signals; value = number (strip_bits signals strip) } ∷ strip_fields signals strips

-- what comes before the cell mask
unfoldable pub front_fields : Slot → List Field
front_fields s =
    record { width = 44; value = s.id * 2 ^ 40 + s.satellites } ∷ record { width = 17; value = s.signals * 2 + digit s.flag } ∷ []

-- one system, with the strips from its first satellite's on
unfoldable pub system_fields : Slot → List ℕ → List Field
system_fields s strips = front_fields s ++ cond s.flag (strip_fields s.signals (take (ones s.satellites) strips)) []

-- the systems of k slots from the i-th on, with the strips from the n-th on
unfoldable pub fields_from : Holding → ℕ → ℕ → ℕ → List Field
fields_from h zero i n = []
fields_from h (suc k) i n = system_fields (slot_at h i) (drop n h.strips) ++ fields_from h k (i + 1) (n + ones (slot_at h i).satellites)

-- all of them
unfoldable pub mask_fields : Holding → List Field
mask_fields h = fields_from h h.count 0 0
