-- Digits by the tests that code makes of them: those of four bits each, and the last one. Assumes nothing.
use mathlib.Core.Path.{◌≡◌, refl, sym, ap, ap₂, ◌∙◌}
use mathlib.Core.Bool.{Bool, true, false, ◌&&◌, ◌||◌, and-true, and_assoc, and-eq-true_iff}
use mathlib.Core.List.{List, [], ◌∷◌, ◌++◌}
use Prim.Native.Nat.{ℕ, zero, suc, ◌+◌, ◌-◌, ◌*◌, ◌/◌, ◌%◌, ◌≤◌, ◌<◌}
use native.Mathlib.Decide.{dec_lt}
use native.Mathlib.Nat.{le_refl}
use native.Mathlib.Omega.{arith}
use lib.Dec.{eqb, leb, ltb}
use lib.ListN.{length, get_or, take, drop, length-append, drop_of_length-le}
use lib.Seq.{take-suc, take-length, take-append_seam, drop-append_seam}
use borrow.Author.Tests.{eq-eqb, ne_eqb, eqb-true, lt-ltb, le-ltb, le-leb, lt-leb}
use Rattle.format.specs.Same.{same_list}
use Rattle.format.specs.Text.{digit_char, char_digit, hex, hex_bits}
use Rattle.format.proofs.Sames.{same_list_sound}
use Rattle.text.proofs.HexDigits.{hex_long}
use Rattle.lines.specs.Digits.{kept, is_digit, all_digits, hex_says}
use Rattle.lines.proofs.HexDigits.{kept_whole, digits_say}

-- ---- one character

low : (x : ℕ) → x < 10 → digit_char x ≡ 48 + x
unfolding digit_char
low x few = rw (lt-ltb x 10 few)

high : (x : ℕ) → 10 ≤ x → digit_char x ≡ 55 + x
unfolding digit_char
high x many = rw (le-ltb x 10 many)

bounds : (x : ℕ) → x < 16 → (48 ≤ digit_char x) × (digit_char x ≤ 70)
bounds x few = go (dec_lt x 10)
  where
    go : Dec (x < 10) → (48 ≤ digit_char x) × (digit_char x ≤ 70)
    go (yes less) = (omega (arith, low x less), omega (arith, low x less))
    go (no not) = let more : 10 ≤ x = omega arith in (omega (arith, high x more), omega (arith, high x more))

said_low : (c : ℕ) → c < 58 → char_digit c ≡ c - 48
unfolding char_digit
said_low c few = rw (lt-ltb c 58 few)

said_high : (c : ℕ) → 58 ≤ c → char_digit c ≡ c - 55
unfolding char_digit
said_high c many = rw (le-ltb c 58 many)

-- the two ranges
pub in_ranges : (c : ℕ) → ((leb 48 c && leb c 57) || (leb 65 c && leb c 70)) ≡ is_digit c
unfolding is_digit
in_ranges c = go (dec_lt c 48) (dec_lt c 58) (dec_lt c 65) (dec_lt c 71)
  where
    go : Dec (c < 48) → Dec (c < 58) → Dec (c < 65) → Dec (c < 71) → ((leb 48 c && leb c 57) || (leb 65 c && leb c 70)) ≡ eqb (digit_char (char_digit c % 16)) c
    go (yes a) b d e =
        rw (lt-leb 48 c (omega arith), lt-leb 65 c (omega arith)) (sym (ne_eqb (digit_char (char_digit c % 16)) c (λ same. omega (arith, bounds (char_digit c % 16) (omega arith)))))
    go (no a) (yes b) d e =
        rw (le-leb 48 c (omega arith), le-leb c 57 (omega arith)) (sym (eq-eqb (digit_char (char_digit c % 16)) c (omega (arith, said_low c (omega arith), low (char_digit c % 16) (omega (arith, said_low c (omega arith)))))))
    go (no a) (no b) (yes d) e =
        rw (le-leb 48 c (omega arith), lt-leb c 57 (omega arith), lt-leb 65 c (omega arith))
        (sym (ne_eqb (digit_char (char_digit c % 16)) c (λ same. omega (arith, said_high c (omega arith), low (char_digit c % 16) (omega (arith, said_high c (omega arith)))))))
    go (no a) (no b) (no d) (yes e) =
        rw (le-leb 48 c (omega arith), lt-leb c 57 (omega arith), le-leb 65 c (omega arith), le-leb c 70 (omega arith))
        (sym (eq-eqb (digit_char (char_digit c % 16)) c (omega (arith, said_high c (omega arith), high (char_digit c % 16) (omega (arith, said_high c (omega arith)))))))
    go (no a) (no b) (no d) (no e) =
        rw (le-leb 48 c (omega arith), lt-leb c 57 (omega arith), le-leb 65 c (omega arith), lt-leb c 70 (omega arith))
        (sym (ne_eqb (digit_char (char_digit c % 16)) c (λ same. omega (arith, bounds (char_digit c % 16) (omega arith)))))

-- ---- all of them

all_more : (cs : List ℕ) (c : ℕ) → all_digits (cs ++ (c ∷ [])) ≡ (all_digits cs && is_digit c)
unfolding all_digits
all_more [] c = and-true (is_digit c)
all_more (b ∷ cs) c = ap (λ (x : Bool). is_digit b && x) (all_more cs c) ∙ sym (and_assoc (is_digit b) (all_digits cs) (is_digit c))

pub one_digit_more : (line : List ℕ) (i : ℕ) → i < length line → all_digits (take (suc i) line) ≡ (all_digits (take i line) && is_digit (get_or line i 0))
one_digit_more line i there = ap all_digits (take-suc line i 0 there) ∙ all_more (take i line) (get_or line i 0)

-- those of four bits each first
says_whole : (k left : ℕ) (cs : List ℕ) → k ≤ length cs → hex_says (4 * k + left) cs ≡ (all_digits (take k cs) && hex_says left (drop k cs))
unfolding all_digits is_digit hex_says
says_whole zero left cs room =
    let none : 4 * 0 + left ≡ left = omega arith in
    rw none
says_whole (suc k) left [] room = absurd (omega arith)
says_whole (suc k) left (c ∷ cs) room =
    let some : ltb 0 (4 * suc k + left) ≡ true = lt-ltb 0 (4 * suc k + left) (omega arith) in
    let rest : 4 * suc k + left - 4 ≡ 4 * k + left = omega arith in
    let four : kept (4 * suc k + left) c ≡ char_digit c % 16 = sym (kept_whole (4 * suc k + left) c (omega arith)) in
    rw (some, rest, four, says_whole k left cs (omega arith)) (sym (and_assoc (eqb (digit_char (char_digit c % 16)) c) (all_digits (take k cs)) (hex_says left (drop k cs))))

module _ (n : ℕ) (cs : List ℕ) where
  -- as many as they must be
  pub other_count : ¬ (length cs ≡ (n + 3) / 4) → hex_says n cs ≡ false
  other_count other = go (hex_says n cs) refl
    where
      go : (b : Bool) → hex_says n cs ≡ b → b ≡ false
      go false e = refl
      go true e =
          let l : List Bool = take n (hex_bits cs) in
          let both = (and-eq-true_iff (same_list eqb (hex l) cs) (eqb (length l) n)).0 (sym (digits_say n cs) ∙ e) in
          absurd (other (omega (arith, ap length (same_list_sound eqb eqb-true (hex l) cs both.0), eqb-true (length l) n both.1, hex_long l)))

  pub says_even : n % 4 ≡ 0 → length cs ≡ n / 4 → hex_says n cs ≡ all_digits cs
  unfolding hex_says
  says_even even count =
      let parts : n ≡ 4 * length cs + 0 = omega arith in
      ap (λ (m : ℕ). hex_says m cs) parts ∙ says_whole (length cs) 0 cs (le_refl (length cs))
      ∙ rw (take-length, drop_of_length-le cs {i = length cs} (le_refl (length cs))) (and-true _)

-- and one of fewer: the last one, whose digit is d
pub says_odd : (n : ℕ) {cs : List ℕ} (whole : List ℕ) (last d : ℕ) → ¬ (n % 4 ≡ 0) → cs ≡ whole ++ (last ∷ []) → length whole ≡ n / 4 → d ≡ digit_char (kept (n % 4) last)
    → hex_says n cs ≡ (all_digits whole && eqb d last)
unfolding hex_says
says_odd n whole last d odd parts count own =
    let long : n ≡ 4 * length whole + n % 4 = omega arith in
    let some : ltb 0 (n % 4) ≡ true = lt-ltb 0 (n % 4) (omega arith) in
    let none : n % 4 - 4 ≡ 0 = omega arith in
    let room : length whole ≤ length (whole ++ (last ∷ [])) = simp length-append (omega arith) in
    ap₂ hex_says long parts ∙ says_whole (length whole) (n % 4) (whole ++ (last ∷ [])) room
    ∙ rw (take-append_seam, drop-append_seam, some, none, own) (ap (λ (b : Bool). all_digits whole && b) (and-true _))
