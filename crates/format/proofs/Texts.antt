-- Text: digits, decimal and hex are read as they were written, and the fields of a line are found again. Assumes nothing.
use mathlib.Core.Path.{◌≡◌, refl, ap, ◌∙◌}
use mathlib.Core.Bool.{Bool, true, false, cond}
use mathlib.Core.List.{List, [], ◌∷◌, ◌++◌, append_assoc, append-nil}
use Prim.Native.Nat.{ℕ, zero, suc, ◌+◌, ◌*◌, ◌/◌, ◌%◌, ◌≤◌, ◌<◌}
use native.Mathlib.Omega.{arith}
use lib.Dec.{ltb, eqb}
use lib.ListN.{length, get_or, take}
use borrow.Author.Tests.{ltb-true, ltb-false, lt-ltb, le-ltb, ne_eqb}
use Rattle.bits.specs.BitLists.{number, spell}
use Rattle.bits.proofs.BitLists.{number_lt, spell_number}
use Rattle.format.specs.Text.{tab, line_feed, dash, digit_char, char_digit, digits_from, decimal, decimal_value, hex, hex_bits, fields_from}
use Rattle.format.proofs.Bodies.{All, none, more, all_append}

-- ---- digits

-- of a choice by an order holds what holds of either side
pub choice : {A : Type 0} (P : A → Type 0) (m n : ℕ) (x y : A) → (m < n → P x) → (n ≤ m → P y) → P (cond (ltb m n) x y)
choice P m n x y below above = go (ltb m n) refl
  where
    go : (b : Bool) → ltb m n ≡ b → P (cond b x y)
    go true e = below (ltb-true m n e)
    go false e = above (ltb-false m n e)

-- a digit is read as it was written
pub char_digit_digit_char : (n : ℕ) → n < 16 → char_digit (digit_char n) ≡ n
unfolding char_digit digit_char
char_digit_digit_char n small =
    choice (λ (c : ℕ). char_digit c ≡ n) n 10 (48 + n) (55 + n) (λ h. rw (lt-ltb (48 + n) 58 (omega arith)) (omega arith))
    (λ h. rw (le-ltb (55 + n) 58 (omega arith)) (omega arith))

-- a digit stands above the dash, and so above tab and line feed
digit_char_above : (n : ℕ) → dash < digit_char n
unfolding digit_char
digit_char_above n = choice (λ (c : ℕ). dash < c) n 10 (48 + n) (55 + n) (λ h. omega arith) (λ h. omega arith)

-- ---- decimal

-- what holds of one digit, and of a digit more where it holds of the tenth part, holds of every number's digits
pub by_digits : (P : ℕ → List ℕ → Type 0) → ((n : ℕ) → n < 10 → P n (digit_char n ∷ [])) → ((n : ℕ) (l : List ℕ) → P (n / 10) l → P n (l ++ (digit_char (n % 10) ∷ [])))
    → (n : ℕ) → P n (decimal n)
unfolding decimal digits_from
by_digits P one then n = go (suc n) n (omega arith)
  where
    go : (fuel k : ℕ) → k < fuel → P k (digits_from fuel k)
    go zero k few = absurd (omega arith)
    go (suc fuel) k few = choice (P k) k 10 (digit_char k ∷ []) (digits_from fuel (k / 10) ++ (digit_char (k % 10) ∷ [])) (one k) (λ h. then k _ (go fuel (k / 10) (omega arith)))

-- whatever fuel there is, if it is more than the number
fuel_same : (fuel extra n : ℕ) → n < fuel → n < extra → digits_from fuel n ≡ digits_from extra n
unfolding digits_from
fuel_same zero extra n few enough = absurd (omega arith)
fuel_same (suc fuel) zero n few enough = absurd (omega arith)
fuel_same (suc fuel) (suc extra) n few enough =
    choice (λ (l : List ℕ). l ≡ cond (ltb n 10) (digit_char n ∷ []) (digits_from extra (n / 10) ++ (digit_char (n % 10) ∷ []))) n 10 (digit_char n ∷ []) (digits_from fuel (n / 10) ++ (digit_char (n % 10) ∷ []))
    (λ h. rw (lt-ltb n 10 h)) (λ h. rw (le-ltb n 10 h, fuel_same fuel extra (n / 10) (omega arith) (omega arith)))

-- a number is written by one digit, or by those of its tenth part and one more
pub decimal_one : (n : ℕ) → n < 10 → decimal n ≡ digit_char n ∷ []
unfolding decimal digits_from
decimal_one n small = rw (lt-ltb n 10 small)

pub decimal_more : (n : ℕ) → 10 ≤ n → decimal n ≡ decimal (n / 10) ++ (digit_char (n % 10) ∷ [])
unfolding decimal digits_from
decimal_more n large = rw (le-ltb n 10 large, fuel_same n (suc (n / 10)) (n / 10) (omega arith) (omega arith))

-- it is read as it was written
pub value_more : (sum : ℕ) (l : List ℕ) (c : ℕ) → decimal_value sum (l ++ (c ∷ [])) ≡ 10 * decimal_value sum l + char_digit c
unfolding decimal_value
value_more sum [] c = refl
value_more sum (x ∷ l) c = value_more (10 * sum + char_digit x) l c

pub decimal_value_decimal : (n : ℕ) → decimal_value 0 (decimal n) ≡ n
unfolding decimal_value
decimal_value_decimal =
    by_digits (λ n l. decimal_value 0 l ≡ n) (λ n h. omega (arith, char_digit_digit_char n (omega arith)))
    (λ n l it. value_more 0 l (digit_char (n % 10)) ∙ omega (arith, it, char_digit_digit_char (n % 10) (omega arith)))

-- its first character is no dash
pub decimal_first : (n : ℕ) → dash < get_or (decimal n) 0 0
decimal_first = by_digits (λ n l. dash < get_or l 0 0) (λ n h. digit_char_above n) (λ n l it. go l _ it)
  where
    go : (l : List ℕ) (c : ℕ) → dash < get_or l 0 0 → dash < get_or (l ++ (c ∷ [])) 0 0
    go [] c it = absurd (omega arith)
    go (x ∷ l) c it = it

-- ---- bits by fours

-- four bits by one digit
four : (a b c d : Bool) → spell 4 (char_digit (digit_char (number (a ∷ b ∷ c ∷ d ∷ [])))) ≡ a ∷ b ∷ c ∷ d ∷ []
four a b c d =
    let l : List Bool = a ∷ b ∷ c ∷ d ∷ [] in
    ap (spell 4) (char_digit_digit_char (number l) (number_lt l)) ∙ spell_number l

-- bits are read as they were written, and padding after them
pub hex_bits_hex : (l : List Bool) → take (length l) (hex_bits (hex l)) ≡ l
unfolding hex_bits hex
hex_bits_hex [] = refl
hex_bits_hex (a ∷ []) = rw (four a false false false)
hex_bits_hex (a ∷ b ∷ []) = rw (four a b false false)
hex_bits_hex (a ∷ b ∷ c ∷ []) = rw (four a b c false)
hex_bits_hex (a ∷ b ∷ c ∷ d ∷ l) = rw (four a b c d) (ap (λ (m : List Bool). a ∷ b ∷ c ∷ d ∷ m) (hex_bits_hex l))

-- ---- text without tab and line feed

abbrev pub Plain : List ℕ → Type 0
Plain text = All (λ c. line_feed < c) text

pub plain_digit : (n : ℕ) {text : List ℕ} → Plain text → Plain (digit_char n ∷ text)
plain_digit n p = more {x = digit_char n} (omega (arith, digit_char_above n)) p

pub plain_decimal : (n : ℕ) → Plain (decimal n)
plain_decimal = by_digits (λ n l. Plain l) (λ n h. plain_digit n none) (λ n l it. all_append it (plain_digit (n % 10) none))

pub plain_hex : (l : List Bool) → Plain (hex l)
unfolding hex
plain_hex [] = none
plain_hex (a ∷ []) = plain_digit _ none
plain_hex (a ∷ b ∷ []) = plain_digit _ none
plain_hex (a ∷ b ∷ c ∷ []) = plain_digit _ none
plain_hex (a ∷ b ∷ c ∷ d ∷ l) = plain_digit _ (plain_hex l)

-- it goes into one field
pub fields_plain : (before text rest : List ℕ) → Plain text → fields_from before (text ++ rest) ≡ fields_from (before ++ text) rest
unfolding fields_from
fields_plain before [] rest none = rw append-nil
fields_plain before (c ∷ text) rest (more above p) =
    rw (ne_eqb c line_feed (λ e. omega arith), fields_from, ne_eqb c tab (λ e. omega arith), fields_from) (fields_plain (before ++ (c ∷ [])) text rest p ∙ rw append_assoc)

-- ---- a line is its fields, each after a tab

-- from the first tab to the line feed
unfoldable pub joined : List (List ℕ) → List ℕ
joined [] = line_feed ∷ []
joined (f ∷ fs) = tab ∷ (f ++ joined fs)

-- fields without tab and line feed are found again
pub fields_joined : (before : List ℕ) (fs : List (List ℕ)) → All Plain fs → fields_from before (joined fs) ≡ before ∷ fs
unfolding fields_from joined
fields_joined before [] none = refl
fields_joined before (f ∷ fs) (more p ps) = ap (◌∷◌ before) (fields_plain [] f (joined fs) p ∙ fields_joined f fs ps)
