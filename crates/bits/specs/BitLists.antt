-- The same as lists of bits.
use Rattle.std.specs.Prelude.{Bool, true, false, List, [], ◌∷◌, ◌++◌, ℕ, zero, suc, ◌+◌, ◌*◌, ◌/◌, ◌%◌, ◌^◌, eqb, length, take, drop}

abbrev pub digit : Bool → ℕ
digit true = 1
digit false = 0

-- the number that a list of bits spells
unfoldable pub number : List Bool → ℕ
number [] = 0
number (b ∷ l) = digit b * 2 ^ length l + number l

-- the w low bits of a number, as a list
unfoldable pub spell : ℕ → ℕ → List Bool
spell zero n = []
spell (suc w) n = eqb (n / 2 ^ w % 2) 1 ∷ spell w n

-- the bits of a byte string
unfoldable pub bits : List ℕ → List Bool
bits [] = []
bits (b ∷ bs) = spell 8 b ++ bits bs

-- the first count bytes that a list of bits makes
unfoldable pub bytes : ℕ → List Bool → List ℕ
bytes zero l = []
bytes (suc count) l = number (take 8 l) ∷ bytes count (drop 8 l)

-- a list of bits with those from a place on replaced by others
unfoldable pub set_bits : List Bool → ℕ → List Bool → List Bool
set_bits l place new = take place l ++ (new ++ drop (place + length new) l)

-- the byte string after bits from a place on were set
unfoldable pub set_bytes : List ℕ → ℕ → List Bool → List ℕ
set_bytes bs place new = bytes (length bs) (set_bits (bits bs) place new)

-- the byte string after w bits at a place were set to a number
unfoldable pub set_field : List ℕ → ℕ → ℕ → ℕ → List ℕ
set_field bs place w n = set_bytes bs place (spell w n)
