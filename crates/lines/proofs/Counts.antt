-- The count that opens a line, character by character. Assumes nothing.
use mathlib.Core.Path.{◌≡◌, refl, sym, ap, ◌∙◌}
use mathlib.Core.Bool.{Bool, true, false, cond, not, ◌&&◌, and-true, and_assoc, and-false}
use mathlib.Core.List.{List, [], ◌∷◌, ◌++◌}
use Prim.Native.Nat.{ℕ, zero, suc, ◌+◌, ◌*◌, ◌/◌, ◌%◌, ◌≤◌, ◌<◌}
use native.Mathlib.Omega.{arith}
use lib.Dec.{eqb}
use lib.ListN.{length, get_or, take, length-append}
use lib.Seq.{take-suc, length-take-le}
use Rattle.std.specs.List.{prefix_len, take_while}
use Rattle.std.proofs.lemmas.List.Folds.{length-prefix_len}
use Rattle.format.specs.Same.{same_list}
use Rattle.format.specs.Text.{tab, digit_char, char_digit, decimal, decimal_value}
use Rattle.format.proofs.Texts.{value_more}
use Rattle.lines.specs.Counting.{tab_within, opens_with}
use Rattle.text.specs.Digits.{last_digits}
use Rattle.text.proofs.LastDigits.{length_digits, own_digits}

-- ---- the first tab

pub tab_near : (n : ℕ) (line : List ℕ) → tab_within n line ≤ n
unfolding tab_within
tab_near zero line = omega arith
tab_near (suc n) [] = omega arith
tab_near (suc n) (c ∷ cs) = go (eqb c tab) (tab_near n cs)
  where
    go : (b : Bool) → tab_within n cs ≤ n → cond b 0 (suc (tab_within n cs)) ≤ suc n
    go true near = omega arith
    go false near = omega arith

-- as code counts them
pub tab_counted : (n : ℕ) (line : List ℕ) → length (take_while (λ c. not (eqb c tab)) (take n line)) ≡ tab_within n line
unfolding tab_within
tab_counted n line = length-prefix_len (λ c. not (eqb c tab)) (take n line) ∙ passed n line
  where
    passed : (n : ℕ) (line : List ℕ) → prefix_len (λ c. not (eqb c tab)) (take n line) ≡ tab_within n line
    passed zero line = refl
    passed (suc n) [] = refl
    passed (suc n) (c ∷ cs) = go (eqb c tab) (passed n cs)
      where
        go : (b : Bool) {k : ℕ} → k ≡ tab_within n cs → cond (not b) (1 + k) 0 ≡ cond b 0 (suc (tab_within n cs))
        go true e = refl
        go false e = omega (arith, e)

-- ---- what the characters say

pub value_next : (line : List ℕ) (i : ℕ) → i < length line → decimal_value 0 (take (suc i) line) ≡ 10 * decimal_value 0 (take i line) + char_digit (get_or line i 0)
value_next line i there = rw (take-suc line i 0 there) (value_more 0 (take i line) (get_or line i 0))

-- ---- lists that are the same, from their ends

same_ends : (xs ys : List ℕ) (x y : ℕ) → length xs ≡ length ys → same_list eqb (xs ++ (x ∷ [])) (ys ++ (y ∷ [])) ≡ (same_list eqb xs ys && eqb x y)
unfolding same_list
same_ends [] [] x y long = and-true (eqb x y)
same_ends [] (b ∷ ys) x y long = absurd (omega arith)
same_ends (a ∷ xs) [] x y long = absurd (omega arith)
same_ends (a ∷ xs) (b ∷ ys) x y long = rw (same_ends xs ys x y (omega arith)) (sym (and_assoc (eqb a b) (same_list eqb xs ys) (eqb x y)))

-- one that is longer is another
same_long : (xs ys : List ℕ) → ¬ (length xs ≡ length ys) → same_list eqb xs ys ≡ false
unfolding same_list
same_long [] [] other = absurd (other refl)
same_long [] (y ∷ ys) other = refl
same_long (x ∷ xs) [] other = refl
same_long (x ∷ xs) (y ∷ ys) other = rw (same_long xs ys (λ e. other (ap suc e))) (and-false (eqb x y))

-- ---- whether they are a number's digits

module _ (line : List ℕ) (k n : ℕ) (there : k ≤ length line) where
  pub opens_not : ¬ (length (decimal n) ≡ k) → opens_with line k n ≡ false
  unfolding opens_with
  opens_not other = same_long (take k line) (decimal n) (λ e. other (sym e ∙ length-take-le k line there))

  pub opens_last : length (decimal n) ≡ k → opens_with line k n ≡ same_list eqb (take k line) (last_digits 10 k n)
  unfolding opens_with
  opens_last long = ap (same_list eqb (take k line)) (own_digits n ∙ ap (λ (w : ℕ). last_digits 10 w n) long)

-- the last one first: d is what it must be
pub digits_last : {whole : Bool} {all : List ℕ} (rest : List ℕ) (c d n : ℕ) → whole ≡ same_list eqb all (last_digits 10 (length all) n) → all ≡ rest ++ (c ∷ []) → d ≡ digit_char (n % 10)
    → whole ≡ (same_list eqb rest (last_digits 10 (length rest) (n / 10)) && eqb c d)
unfolding last_digits
digits_last rest c d n so parts last =
    let long : length (rest ++ (c ∷ [])) ≡ suc (length rest) = simp length-append (omega arith) in
    so ∙ rw (parts, long, last) (same_ends rest (last_digits 10 (length rest) (n / 10)) c (digit_char (n % 10)) (sym (length_digits 10 (length rest) (n / 10))))

pub digits_none : (rest : List ℕ) (n : ℕ) → length rest ≡ 0 → same_list eqb rest (last_digits 10 (length rest) n) ≡ true
unfolding last_digits same_list
digits_none [] n none = refl
digits_none (c ∷ rest) n none = absurd (omega arith)
