-- Text: characters as numbers, decimal and hex, and the fields of a line; document 01, "Saved mask and listing".
use Rattle.std.specs.Prelude.{Bool, true, false, cond, List, [], ◌∷◌, ◌++◌, ℕ, zero, suc, ◌+◌, ◌-◌, ◌*◌, ◌/◌, ◌%◌, ltb, eqb}
use Prim.Native.Char.{code}
use Prim.Native.String as Str
use Prim.Native.String.{String}
use Rattle.bits.specs.BitLists.{number, spell}

-- ---- characters

-- a text as the numbers of its characters
unfoldable pub text : String → List ℕ
text Str.[] = []
text (Str.◌∷◌ c cs) = code c ∷ text cs

abbrev pub tab : ℕ
tab = 9

abbrev pub line_feed : ℕ
line_feed = 10

abbrev pub dash : ℕ
dash = 45

-- a digit, capitals from ten on
unfoldable pub digit_char : ℕ → ℕ
digit_char n = cond (ltb n 10) (48 + n) (55 + n)

unfoldable pub char_digit : ℕ → ℕ
char_digit c = cond (ltb c 58) (c - 48) (c - 55)

-- a number, decimal without leading zeros: by fuel, of which more than the number suffices
unfoldable pub digits_from : ℕ → ℕ → List ℕ
digits_from zero n = []
digits_from (suc fuel) n = cond (ltb n 10) (digit_char n ∷ []) (digits_from fuel (n / 10) ++ (digit_char (n % 10) ∷ []))

unfoldable pub decimal : ℕ → List ℕ
decimal n = digits_from (suc n) n

unfoldable pub decimal_value : ℕ → List ℕ → ℕ
decimal_value sum [] = sum
decimal_value sum (c ∷ cs) = decimal_value (10 * sum + char_digit c) cs

-- bits by fours, padded at the end with zero bits
unfoldable pub hex : List Bool → List ℕ
hex [] = []
hex (a ∷ []) = digit_char (number (a ∷ false ∷ false ∷ false ∷ [])) ∷ []
hex (a ∷ b ∷ []) = digit_char (number (a ∷ b ∷ false ∷ false ∷ [])) ∷ []
hex (a ∷ b ∷ c ∷ []) = digit_char (number (a ∷ b ∷ c ∷ false ∷ [])) ∷ []
hex (a ∷ b ∷ c ∷ d ∷ l) = digit_char (number (a ∷ b ∷ c ∷ d ∷ [])) ∷ hex l

unfoldable pub hex_bits : List ℕ → List Bool
hex_bits [] = []
hex_bits (c ∷ cs) = spell 4 (char_digit c) ++ hex_bits cs

-- ---- lines

-- the fields of a line, parted by tabs; a line feed ends it
unfoldable pub fields_from : List ℕ → List ℕ → List (List ℕ)
fields_from before [] = before ∷ []
fields_from before (c ∷ cs) =
    elim (eqb c line_feed) [ true ↦ before ∷ [] | false ↦ elim (eqb c tab) [ true ↦ before ∷ fields_from [] cs | false ↦ fields_from (before ++ (c ∷ [])) cs ] ]
