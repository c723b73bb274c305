-- Bits and fields of a byte string, by place: most significant bit first, places counted from 0.
use Rattle.std.specs.Prelude.{List, ℕ, zero, suc, ◌+◌, ◌-◌, ◌*◌, ◌/◌, ◌%◌, ◌^◌, get_or}

-- the bit at a place, 0 or 1; past the last byte it is 0
unfoldable pub bit_at : List ℕ → ℕ → ℕ
bit_at bs place = get_or bs (place / 8) 0 / 2 ^ (7 - place % 8) % 2

-- the number in w bits at a place
unfoldable pub field : List ℕ → ℕ → ℕ → ℕ
field bs place zero = 0
field bs place (suc w) = field bs place w * 2 + bit_at bs (place + w)
