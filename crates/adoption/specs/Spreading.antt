-- A satellite's strip from its part of a cell mask, four bits at a time from the last.
use Rattle.std.specs.Prelude.{◌≡◌, List, ℕ, ◌+◌, ◌-◌, ◌/◌, ◌%◌, get_or}
use Rattle.std.specs.Int.Bits.{bit_and}
use Rattle.std.specs.Int.Count.{ones}
use Rattle.bits.specs.BitLists.{number, spell}
use Rattle.holding.specs.Spread.{spread}

-- the strip that the low bits of a number make over a signal mask
abbrev pub strip_of : ℕ → ℕ → ℕ
strip_of mask bits = number (spread (spell 16 mask) (spell (ones mask) bits))

-- a mask without its last place; 0 where it has none
abbrev pub without_last : ℕ → ℕ
without_last mask = bit_and mask (mask - 1)

-- the last four bits choose one of these strips, which takes their places; the other bits go to the rest of the mask
pub record ByFour (mask : ℕ) (strips : List ℕ) (rest : ℕ) : Type 0 where
  pub apart : (bits : ℕ) → strip_of mask bits ≡ strip_of rest (bits / 16) + get_or strips (bits % 16) 0
