-- The cell mask of a system by the strips of its satellites.
use Rattle.std.specs.Prelude.{Bool, ℕ}
use mathlib.Core.List.{List, flat_map}
use Rattle.bits.specs.BitLists.{spell}
use Rattle.format.specs.Masks.{pick}

-- the bits of one: those of its strip at the places of the signal mask
abbrev pub strip_bits : ℕ → ℕ → List Bool
strip_bits signals strip = pick (spell 16 signals) (spell 16 strip)

-- satellite by satellite
abbrev pub cell_bits : ℕ → List ℕ → List Bool
cell_bits signals strips = flat_map (λ strip. strip_bits signals strip) strips
