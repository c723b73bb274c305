-- A field of a string whose bits end anywhere, also within a byte: the number, or how many of its bits are missing.
use Rattle.std.specs.Prelude.{cond, List, [], ◌∷◌, ℕ, zero, suc, ◌+◌, ◌-◌, ltb, Result, Ok, Err}
use Rattle.bits.specs.Places.{field}
use Rattle.bits.specs.declared.read.Short.{Short}
use Rattle.bits.specs.declared.read.Widths.{Widths}

-- how many of w bits at a place lie past the end: the needed ones less those left
unfoldable pub missing : ℕ → ℕ → ℕ → ℕ
missing end place w = w - (end - place)

-- what is whole if none is missing, else short by one or more
unfoldable pub unless_short : Result ℕ Short → ℕ → Result ℕ Short
unless_short whole zero = whole
unless_short whole (suc m) = Err (record { missing = suc m })

unfoldable pub taken_at : List ℕ → ℕ → ℕ → ℕ → Result ℕ Short
taken_at bs end place w = unless_short (Ok (field bs place w)) (missing end place w)

-- ---- fields one after the other

-- how many bits they have
unfoldable pub bits_of : List ℕ → ℕ
bits_of [] = 0
bits_of (w ∷ ws) = w + bits_of ws

-- by how much the first is short that is, where so many bits are left; 0 where none is
unfoldable pub short_by : List ℕ → ℕ → ℕ
short_by [] left = 0
short_by (w ∷ ws) left = cond (ltb left w) (w - left) (short_by ws (left - w))

-- four widths as the code has them
unfoldable pub widths_of : Widths → List ℕ
widths_of w = w.first ∷ w.second ∷ w.third ∷ w.fourth ∷ []
