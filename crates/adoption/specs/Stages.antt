-- What the code's answers to the parts of a system say of how crate format's programs of them end, and a mask message from its systems on.
use Rattle.std.specs.Prelude.{◌≡◌, Bool, cond, List, [], ℕ, ◌+◌, ◌*◌, ◌^◌, ◌≤◌, ◌<◌, pos, length}
use Rattle.std.specs.Int.Count.{ones}
use Rattle.adoption.specs.declared.cells.Masks.{Masks}
use Rattle.adoption.specs.declared.cells.System.{System}
use Rattle.adoption.specs.declared.stages.Masked.{Masked}
use Rattle.adoption.specs.declared.stages.Named.{Named}
use Rattle.bits.specs.BitLists.{spell}
use Rattle.bits.specs.Places.{field}
use Rattle.format.specs.declared.Head.{Head}
use Rattle.format.specs.Masks as format
use Rattle.format.specs.Masks.{Mask, places_from}
use Rattle.format.specs.Messages.{BothMasks, system_id, system_masks, system_with, systems, Adopted, mask_type}
use Rattle.format.specs.Programs.{Program, done, ◌>>=◌, taking, numbered, Ended, well, badly}
use Rattle.format.specs.Rows.{absent}
use Rattle.heads.specs.declared.CommonHead.{CommonHead}
use Rattle.heads.specs.Fronts.{Opens}
use Rattle.heads.specs.Headings.{head_with}

-- ---- the ID

-- at a place
unfoldable pub end_named : ℕ → Named → Ended ℕ
end_named place (Named.Fine id) = well id (place + 4)
end_named place (Named.Refused r missing) = badly r missing

-- ---- the masks

-- two masks by their numbers
abbrev pub masks_by : ℕ → ℕ → BothMasks
masks_by sats signals = record { satellites = spell 40 sats; signals = spell 16 signals }

unfoldable pub end_masked : Masked → Ended BothMasks
end_masked (Masked.Fine sats signals f) = well (masks_by sats signals) (f.start + 16)
end_masked (Masked.Refused r missing) = badly r missing

-- no bit of the number is past the satellite mask's, and the front is one of this stretch
unfoldable pub FitsMasked : List ℕ → ℕ → Masked → Type 0
FitsMasked bs end (Masked.Fine sats signals f) = (sats < 2 ^ 40) × Opens bs f × (f.end ≡ end)
FitsMasked bs end (Masked.Refused r missing) = Unit {0}

-- ---- a system up to its cells, whose number is not yet tested

unfoldable pub with_cells : ℕ → BothMasks → Program format.System
with_cells id k = do
  flag ← numbered 1
  bits ← taking (flag * (length (places_from 0 k.satellites) * length (places_from 0 k.signals)))
  done (system_with id k flag bits)

unfoldable pub untested : List ℕ → ℕ → Program format.System
untested ids nsat = do
  id ← system_id ids
  masks ← system_masks nsat id
  with_cells id masks

-- how many bits the cell mask has
abbrev pub cell_bits : Masks → Bool → ℕ
cell_bits m flag = cond flag (ones m.satellites * ones m.signals) 0

-- the system with these masks and this flag whose cell mask stands at a place
unfoldable pub system_at : List ℕ → Masks → Bool → ℕ → format.System
system_at bs m flag place =
    let w = cell_bits m flag in
    record { id = m.id; satellites = spell 40 m.satellites; signals = spell 16 m.signals; flag = flag; cells = spell w (field bs place w) }

unfoldable pub end_system : List ℕ → System → Ended format.System
end_system bs (System.Fine m flag place) = well (system_at bs m flag place) (place + cell_bits m flag)
end_system bs (System.Refused r missing) = badly r missing

-- its masks are these
unfoldable pub HasMasks : Masks → System → Type 0
HasMasks k (System.Fine m flag place) = m ≡ k
HasMasks k (System.Refused r missing) = Unit {0}

-- after so many satellites there is room for its own
unfoldable pub FitsSystem : ℕ → System → Type 0
FitsSystem nsat (System.Fine m flag place) = (m.satellites < 2 ^ 40) × (nsat + ones m.satellites ≤ 64)
FitsSystem nsat (System.Refused r missing) = Unit {0}

-- ---- a mask message from its systems on, n more after those of a mask, and from their number on

unfoldable pub with_systems : Head → ℕ → Mask → Program Adopted
with_systems head n m = systems n m.systems >>= (λ all. done (record { head = head; made = record { iod = m.iod; systems = all } }))

unfoldable pub after_common_head : CommonHead → Program Adopted
after_common_head h = numbered 4 >>= (λ n. with_systems (head_with mask_type h (pos n) absent absent) n (record { iod = h.iod; systems = [] }))
