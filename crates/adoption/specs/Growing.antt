-- What the strips of a system are asked for, and the window that they are cut out of.
use Rattle.std.specs.Prelude.{◌≡◌, Bool, cond, List, ℕ, ◌+◌, ◌-◌, ◌*◌, ◌/◌, ◌^◌, ◌≤◌, ◌<◌, ltb, length, drop, replicate}
use Rattle.std.specs.Int.Count.{ones}
use Rattle.adoption.specs.declared.cells.Masks.{Masks}
use Rattle.adoption.specs.declared.grow.Window.{Window}
use Rattle.adoption.specs.Stages.{cell_bits}
use Rattle.bits.specs.Places.{field}

-- the strips of a system from one on: unused till then, and its cell mask at a place of the string
abbrev pub Grows : List ℕ → ℕ → Masks → Bool → List ℕ → ℕ → Type 0
Grows strips from m flag bs place =
    (from + ones m.satellites ≤ 64) × (m.satellites < 2 ^ 40) × (place + cell_bits m flag ≤ 8 * length bs) × (place < 2 ^ 32)
    × (drop from strips ≡ replicate (64 - from) 0)

-- 64 bits that begin at a place or before it
pub record Sees (bs : List ℕ) (window : Window) (at : ℕ) : Type 0 where
  pub before : window.from ≤ at
  pub bits : window.bits ≡ field bs window.from 64

-- those from a place's byte on
abbrev pub window_of : List ℕ → ℕ → Window
window_of bs at = record { bits = field bs (8 * (at / 8)) 64; from = 8 * (at / 8) }

-- the window for the w bits at a place: the last one where it has them all, else the one at the place
unfoldable pub window_for : Window → List ℕ → ℕ → ℕ → Window
window_for last bs at w = cond (ltb (at - last.from + w) 64) last (window_of bs at)
