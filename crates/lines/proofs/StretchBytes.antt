-- Bits as bytes: two hex digits to a byte, and the bits that the bytes have. Assumes nothing.
use mathlib.Core.Path.{◌≡◌, refl, sym, ap, ap₂, ◌∙◌}
use mathlib.Core.Bool.{Bool, true, false, and-eq-true_iff}
use mathlib.Core.List.{List, [], ◌∷◌, ◌++◌}
use Prim.Native.Nat.{ℕ, zero, suc, ◌+◌, ◌*◌, ◌/◌, ◌≤◌, ◌<◌}
use native.Mathlib.Omega.{arith}
use lib.Dec.{eqb}
use lib.ListN.{length, get_or, take, drop, replicate, drop_of_length-le}
use lib.Seq.{drop-cons}
use borrow.Author.Tests.{eqb-true}
use Rattle.bits.specs.BitLists.{number, bytes}
use Rattle.bits.proofs.BitLists.{number_lt, number_append}
use Rattle.format.specs.Listing.{bytes_said}
use Rattle.format.specs.Same.{same_list}
use Rattle.format.specs.Text.{digit_char, char_digit, hex, hex_bits}
use Rattle.format.proofs.Bodies.{All, none, more}
use Rattle.format.proofs.Sames.{same_list_sound}
use Rattle.format.proofs.Texts.{char_digit_digit_char}
use Rattle.lines.specs.Digits.{hex_says}
use Rattle.lines.proofs.HexDigits.{digits_say}

-- ---- a byte of two digits

unfoldable pub paired : List ℕ → List ℕ
paired [] = []
paired (a ∷ []) = char_digit a * 16 ∷ []
paired (a ∷ b ∷ cs) = (char_digit a * 16 + char_digit b) ∷ paired cs

-- of eight bits, and of up to four
both : (l m : List Bool) → length l ≡ 4 → length m ≡ 4 → number (l ++ m) ≡ char_digit (digit_char (number l)) * 16 + char_digit (digit_char (number m))
both l m four more-four =
    let high : char_digit (digit_char (number l)) ≡ number l = char_digit_digit_char (number l) (rw four at (number_lt l)) in
    let low : char_digit (digit_char (number m)) ≡ number m = char_digit_digit_char (number m) (rw more-four at (number_lt m)) in
    number_append l m ∙ rw (more-four, high, low)

alone : (l : List Bool) → length l ≡ 4 → number (l ++ replicate 4 false) ≡ char_digit (digit_char (number l)) * 16
unfolding number
alone l four = both l (replicate 4 false) four refl ∙ omega (arith, char_digit_digit_char 0 (omega arith))

pub bytes_paired : (l : List Bool) → bytes_said l ≡ paired (hex l)
unfolding bytes_said paired hex bytes
bytes_paired [] = refl
bytes_paired (a ∷ []) = ap (λ (x : ℕ). x ∷ []) (alone (a ∷ false ∷ false ∷ false ∷ []) refl)
bytes_paired (a ∷ b ∷ []) = ap (λ (x : ℕ). x ∷ []) (alone (a ∷ b ∷ false ∷ false ∷ []) refl)
bytes_paired (a ∷ b ∷ c ∷ []) = ap (λ (x : ℕ). x ∷ []) (alone (a ∷ b ∷ c ∷ false ∷ []) refl)
bytes_paired (a ∷ b ∷ c ∷ d ∷ []) = ap (λ (x : ℕ). x ∷ []) (alone (a ∷ b ∷ c ∷ d ∷ []) refl)
bytes_paired (a ∷ b ∷ c ∷ d ∷ e ∷ []) = ap (λ (x : ℕ). x ∷ []) (both (a ∷ b ∷ c ∷ d ∷ []) (e ∷ false ∷ false ∷ false ∷ []) refl refl)
bytes_paired (a ∷ b ∷ c ∷ d ∷ e ∷ f ∷ []) = ap (λ (x : ℕ). x ∷ []) (both (a ∷ b ∷ c ∷ d ∷ []) (e ∷ f ∷ false ∷ false ∷ []) refl refl)
bytes_paired (a ∷ b ∷ c ∷ d ∷ e ∷ f ∷ g ∷ []) = ap (λ (x : ℕ). x ∷ []) (both (a ∷ b ∷ c ∷ d ∷ []) (e ∷ f ∷ g ∷ false ∷ []) refl refl)
bytes_paired (a ∷ b ∷ c ∷ d ∷ e ∷ f ∷ g ∷ h ∷ l) =
    let count : (length (a ∷ b ∷ c ∷ d ∷ e ∷ f ∷ g ∷ h ∷ l) + 7) / 8 ≡ suc ((length l + 7) / 8) = omega arith in
    rw count (ap₂ (λ (x : ℕ) (xs : List ℕ). x ∷ xs) (both (a ∷ b ∷ c ∷ d ∷ []) (e ∷ f ∷ g ∷ h ∷ []) refl refl) (bytes_paired l))

-- ---- what is a digit

pub record IsDigit (c : ℕ) : Type 0 where
  pub small : char_digit c < 16
  pub own : digit_char (char_digit c) ≡ c

digit_of : (n : ℕ) → n < 16 → IsDigit (digit_char n)
digit_of n few = record { small = omega (arith, char_digit_digit_char n few); own = ap digit_char (char_digit_digit_char n few) }

bits_digit : (l : List Bool) → length l ≡ 4 → IsDigit (digit_char (number l))
bits_digit l four = digit_of (number l) (rw four at (number_lt l))

hex_digits : (l : List Bool) → All IsDigit (hex l)
unfolding hex
hex_digits [] = none
hex_digits (a ∷ []) = more (bits_digit (a ∷ false ∷ false ∷ false ∷ []) refl) none
hex_digits (a ∷ b ∷ []) = more (bits_digit (a ∷ b ∷ false ∷ false ∷ []) refl) none
hex_digits (a ∷ b ∷ c ∷ []) = more (bits_digit (a ∷ b ∷ c ∷ false ∷ []) refl) none
hex_digits (a ∷ b ∷ c ∷ d ∷ l) = more (bits_digit (a ∷ b ∷ c ∷ d ∷ []) refl) (hex_digits l)

all_at : {P : ℕ → Type 0} (xs : List ℕ) → All P xs → (i : ℕ) → i < length xs → P (get_or xs i 0)
all_at [] none i there = absurd (omega arith)
all_at (x ∷ xs) (more p rest) zero there = p
all_at (x ∷ xs) (more p rest) (suc i) there = all_at xs rest i (omega arith)

-- ---- digits that say n bits

module _ (n : ℕ) (ds : List ℕ) (said : hex_says n ds ≡ true) where
  own_bits : hex (take n (hex_bits ds)) ≡ ds
  own_bits =
      let l : List Bool = take n (hex_bits ds) in
      same_list_sound eqb eqb-true (hex l) ds ((and-eq-true_iff (same_list eqb (hex l) ds) (eqb (length l) n)).0 (sym (digits_say n ds) ∙ said)).0

  pub said_paired : bytes_said (take n (hex_bits ds)) ≡ paired ds
  said_paired = bytes_paired (take n (hex_bits ds)) ∙ ap paired own_bits

  pub said_digit : (i : ℕ) → i < length ds → IsDigit (get_or ds i 0)
  said_digit i there = all_at ds (rw own_bits at (hex_digits (take n (hex_bits ds)))) i there

-- ---- pair by pair

module _ (ds : List ℕ) (i : ℕ) where
  pub next_pair : 2 * i + 2 ≤ length ds → paired (drop (2 * i) ds) ≡ ((char_digit (get_or ds (2 * i) 0) * 16 + char_digit (get_or ds (2 * i + 1) 0)) ∷ []) ++ paired (drop (2 * (i + 1)) ds)
  unfolding paired
  next_pair room =
      let second : suc (2 * i) ≡ 2 * i + 1 = omega arith in
      let third : suc (2 * i + 1) ≡ 2 * (i + 1) = omega arith in
      rw (drop-cons ds (2 * i) 0 (omega arith), second, drop-cons ds (2 * i + 1) 0 (omega arith), third)

  pub half_pair : 2 * i + 1 ≡ length ds → paired (drop (2 * i) ds) ≡ char_digit (get_or ds (2 * i) 0) * 16 ∷ []
  unfolding paired
  half_pair last = rw (drop-cons ds (2 * i) 0 (omega arith), drop_of_length-le ds {i = suc (2 * i)} (omega arith))

  pub no_pair : length ds ≤ 2 * i → paired (drop (2 * i) ds) ≡ []
  unfolding paired
  no_pair past = rw (drop_of_length-le ds {i = 2 * i} past)
