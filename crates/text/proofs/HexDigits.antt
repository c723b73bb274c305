-- Bits by fours are the last digits of their number to the base of 16. Assumes nothing.
use mathlib.Core.Path.{◌≡◌, refl, ap, ap₂, ◌∙◌}
use mathlib.Core.Bool.{Bool}
use mathlib.Core.List.{List, [], ◌∷◌, ◌++◌}
use Prim.Native.Nat.{ℕ, zero, suc, ◌+◌, ◌*◌, ◌/◌, ◌%◌}
use native.Mathlib.Omega.{arith}
use lib.ListN.{length}
use lib.Seq.{sets}
use Rattle.bits.specs.BitLists.{number, spell}
use Rattle.bits.proofs.BitLists.{length_spell, number_spell, spell_append}
use Rattle.format.specs.Text.{digit_char, hex}
use Rattle.text.specs.Digits.{last_digits}
use Rattle.text.proofs.LastDigits.{length_digits}
use Rattle.text.proofs.Stores.{Wrote}

-- in two parts, of which the first is of whole digits
pub hex_append : (k : ℕ) (l m : List Bool) → length l ≡ 4 * k → hex (l ++ m) ≡ hex l ++ hex m
unfolding hex
hex_append zero [] m e = refl
hex_append zero (a ∷ l) m e = absurd (omega arith)
hex_append (suc k) [] m e = absurd (omega arith)
hex_append (suc k) (a ∷ []) m e = absurd (omega arith)
hex_append (suc k) (a ∷ b ∷ []) m e = absurd (omega arith)
hex_append (suc k) (a ∷ b ∷ c ∷ []) m e = absurd (omega arith)
hex_append (suc k) (a ∷ b ∷ c ∷ d ∷ l) m e = ap (λ (x : List ℕ). digit_char (number (a ∷ b ∷ c ∷ d ∷ [])) ∷ x) (hex_append k l m (omega arith))

-- one digit
pub hex_four : (n : ℕ) → hex (spell 4 n) ≡ digit_char (n % 16) ∷ []
unfolding hex spell
hex_four n = ap (λ (d : ℕ). digit_char d ∷ []) (number_spell 4 n)

pub hex_digits : (k n : ℕ) → hex (spell (4 * k) n) ≡ last_digits 16 k n
unfolding hex spell last_digits
hex_digits zero n = refl
hex_digits (suc k) n =
    let wide : 4 * suc k ≡ 4 * k + 4 = omega arith in
    let parts : n ≡ n / 16 * 16 + n % 16 = omega arith in
    ap (λ (w : ℕ). hex (spell w n)) wide ∙ ap (λ (x : ℕ). hex (spell (4 * k + 4) x)) parts
    ∙ ap hex (spell_append (4 * k) 4 (n / 16) (n % 16) (omega arith))
    ∙ hex_append k (spell (4 * k) (n / 16)) (spell 4 (n % 16)) (length_spell (4 * k) (n / 16))
    ∙ ap₂ ◌++◌ (hex_digits k (n / 16)) (hex_four (n % 16) ∙ ap (λ (d : ℕ). digit_char d ∷ []) (omega arith))

-- as many as they are, and stored
pub length_hex : (k n : ℕ) → length (hex (spell (4 * k) n)) ≡ k
length_hex k n = ap length (hex_digits k n) ∙ length_digits 16 k n

pub hex_wrote : (before : List ℕ) {at : ℕ} (k n : ℕ) {after : List ℕ} {end : ℕ} → (end ≡ at + k) × (after ≡ sets before at (hex (spell (4 * k) n)))
    → Wrote before at (hex (spell (4 * k) n)) after end
hex_wrote before k n e = record { place = omega (arith, e.0, length_hex k n); same = e.1 }

-- a digit for four bits, and for those that are left
pub hex_long : (l : List Bool) → length (hex l) ≡ (length l + 3) / 4
unfolding hex
hex_long [] = refl
hex_long (a ∷ []) = refl
hex_long (a ∷ b ∷ []) = refl
hex_long (a ∷ b ∷ c ∷ []) = refl
hex_long (a ∷ b ∷ c ∷ d ∷ l) = omega (arith, hex_long l)
