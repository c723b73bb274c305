-- The hex digits of a line of input, as they are tested: character by character, each with up to four of the bits that are left.
use Rattle.std.specs.Prelude.{Bool, true, ◌&&◌, List, [], ◌∷◌, ℕ, ◌-◌, ◌*◌, ◌/◌, ◌%◌, ◌^◌, eqb, ltb}
use Rattle.format.specs.Text.{digit_char, char_digit}

-- what a character says where n bits are left: of its four bits the first n, and zeros behind them
unfoldable pub kept : ℕ → ℕ → ℕ
kept n c = char_digit c % 16 / 2 ^ (4 - n) * 2 ^ (4 - n)

-- the characters say n bits, no more and no fewer, as digits do
unfoldable pub hex_says : ℕ → List ℕ → Bool
hex_says n [] = eqb n 0
hex_says n (c ∷ cs) = ltb 0 n && (eqb (digit_char (kept n c)) c && hex_says (n - 4) cs)

-- a character is a digit, and all are
unfoldable pub is_digit : ℕ → Bool
is_digit c = eqb (digit_char (char_digit c % 16)) c

unfoldable pub all_digits : List ℕ → Bool
all_digits [] = true
all_digits (c ∷ cs) = is_digit c && all_digits cs
