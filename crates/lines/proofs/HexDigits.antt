-- Characters that say n bits are the hex digits of these bits. Assumes nothing.
use mathlib.Core.Path.{◌≡◌, refl, sym, ap, ◌∙◌}
use mathlib.Core.Bool.{Bool, true, false, ◌&&◌, and-true, and_assoc}
use mathlib.Core.List.{List, [], ◌∷◌, ◌++◌}
use Prim.Native.Nat.{ℕ, zero, suc, ◌-◌, ◌*◌, ◌/◌, ◌%◌, ◌^◌, ◌≤◌, ◌<◌}
use native.Mathlib.Omega.{arith}
use lib.Dec.{eqb, ltb}
use lib.ListN.{length, take}
use borrow.Author.Tests.{eq-eqb, ne_eqb, lt-ltb}
use native.Mathlib.Decide.{ℕ_discrete}
use native.Mathlib.Nat.{div-mul-le_self}
use Rattle.bits.specs.BitLists.{digit, number, spell}
use Rattle.bits.proofs.BitLists.{digit_eqb, number_append, number_spell}
use Rattle.bits.proofs.Windows.{one_shifted}
use Rattle.format.specs.Same.{same_list}
use Rattle.format.specs.Text.{digit_char, char_digit, hex, hex_bits}
use Rattle.lines.specs.Digits.{kept, hex_says}

-- what is kept is the number of the bits that are left, and zeros: of one, two, three and four
module _ (c : ℕ) where
  abbrev d : ℕ
  d = char_digit c

  bit : (w : ℕ) → digit (eqb (d / w % 2) 1) ≡ d / w % 2
  bit w = digit_eqb (d / w % 2) (omega arith)

  keeps_one : number (eqb (d / 8 % 2) 1 ∷ false ∷ false ∷ false ∷ []) ≡ kept 1 c
  unfolding number kept
  keeps_one = rw (bit 8) (omega arith)

  keeps_two : number (eqb (d / 8 % 2) 1 ∷ eqb (d / 4 % 2) 1 ∷ false ∷ false ∷ []) ≡ kept 2 c
  unfolding number kept
  keeps_two = rw (bit 8, bit 4) (omega arith)

  first_three : spell 3 (d / 2) ≡ eqb (d / 8 % 2) 1 ∷ eqb (d / 4 % 2) 1 ∷ eqb (d / 2 % 2) 1 ∷ []
  unfolding spell
  first_three =
      let eight : d / 2 / 4 ≡ d / 8 = omega arith in
      let four : d / 2 / 2 ≡ d / 4 = omega arith in
      let two : d / 2 / 1 ≡ d / 2 = omega arith in
      rw (eight, four, two)

  keeps_three : number (eqb (d / 8 % 2) 1 ∷ eqb (d / 4 % 2) 1 ∷ eqb (d / 2 % 2) 1 ∷ false ∷ []) ≡ kept 3 c
  unfolding kept number
  keeps_three = ap (λ (l : List Bool). number (l ++ (false ∷ []))) (sym first_three) ∙ number_append (spell 3 (d / 2)) (false ∷ []) ∙ rw (number_spell 3 (d / 2)) (omega arith)

  keeps_four : (n : ℕ) → number (spell 4 d) ≡ kept (suc (suc (suc (suc n)))) c
  unfolding kept
  keeps_four n =
      let none : 4 - suc (suc (suc (suc n))) ≡ 0 = omega arith in
      number_spell 4 d ∙ rw none (omega arith)

four_more : (a b : ℕ) → eqb (suc (suc (suc (suc a)))) (suc (suc (suc (suc b)))) ≡ eqb a b
four_more a b = go (ℕ_discrete a b)
  where
    go : Dec (a ≡ b) → eqb (suc (suc (suc (suc a)))) (suc (suc (suc (suc b)))) ≡ eqb a b
    go (yes e) = eq-eqb _ _ (ap (λ (n : ℕ). suc (suc (suc (suc n)))) e) ∙ sym (eq-eqb a b e)
    go (no other) = ne_eqb (suc (suc (suc (suc a)))) (suc (suc (suc (suc b)))) (λ e. other (omega arith)) ∙ sym (ne_eqb a b other)

-- as code has it
pub kept_whole : (n c : ℕ) → 4 ≤ n → char_digit c % 16 ≡ kept n c
unfolding kept
kept_whole n c whole =
    let none : 4 - n ≡ 0 = omega arith in
    rw none (omega arith)

pub kept_part : (n c : ℕ) → n < 4 → let spare = 1 * 2 ^ (4 - n) % 2 ^ 64 in char_digit c % 16 / spare * spare ≡ kept n c
unfolding kept
kept_part n c few = rw (one_shifted (4 - n) (omega arith))

pub kept_small : (n c : ℕ) → kept n c < 16
unfolding kept
kept_small n c = omega (arith, div-mul-le_self (char_digit c % 16) (2 ^ (4 - n)))

-- none are left
none_say : (cs : List ℕ) → hex_says 0 cs ≡ same_list eqb [] cs
unfolding hex_says same_list
none_say [] = refl
none_say (c ∷ cs) = refl

pub digits_say : (n : ℕ) (cs : List ℕ) → hex_says n cs ≡ (same_list eqb (hex (take n (hex_bits cs))) cs && eqb (length (take n (hex_bits cs))) n)
unfolding hex_says same_list hex_bits hex spell
digits_say zero [] = refl
digits_say (suc n) [] = ne_eqb (suc n) 0 (λ e. omega arith) ∙ sym (ne_eqb 0 (suc n) (λ e. omega arith))
digits_say zero (c ∷ cs) = refl
digits_say (suc zero) (c ∷ cs) = rw (keeps_one c) (ap (λ (b : Bool). eqb (digit_char (kept 1 c)) c && b) (none_say cs) ∙ sym (and-true _))
digits_say (suc (suc zero)) (c ∷ cs) = rw (keeps_two c) (ap (λ (b : Bool). eqb (digit_char (kept 2 c)) c && b) (none_say cs) ∙ sym (and-true _))
digits_say (suc (suc (suc zero))) (c ∷ cs) = rw (keeps_three c) (ap (λ (b : Bool). eqb (digit_char (kept 3 c)) c && b) (none_say cs) ∙ sym (and-true _))
digits_say (suc (suc (suc (suc n)))) (c ∷ cs) =
    let left : suc (suc (suc (suc n))) - 4 ≡ n = omega arith in
    let some : ltb 0 (suc (suc (suc (suc n)))) ≡ true = lt-ltb 0 (suc (suc (suc (suc n)))) (omega arith) in
    rw (some, left, digits_say n cs, keeps_four c n, four_more (length (take n (hex_bits cs))) n)
    (sym (and_assoc (eqb (digit_char (kept (suc (suc (suc (suc n)))) c)) c) (same_list eqb (hex (take n (hex_bits cs))) cs) (eqb (length (take n (hex_bits cs))) n)))
