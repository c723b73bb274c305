-- What characters say: their bits, one by one and one text behind another. Assumes nothing.
use mathlib.Core.Path.{◌≡◌, refl, sym, ap, ◌∙◌}
use mathlib.Core.Bool.{Bool, true, false}
use mathlib.Core.List.{List, [], ◌∷◌, ◌++◌, append_assoc}
use Prim.Native.Nat.{ℕ, suc, ◌+◌, ◌-◌, ◌/◌, ◌%◌, ◌^◌, ◌≤◌, ◌<◌}
use native.Mathlib.Nat.{zero-div}
use native.Mathlib.Omega.{arith}
use lib.Dec.{eqb, ltb}
use lib.ListN.{length, get_or, drop, take-append-drop, get_or-append}
use lib.Seq.{get_or-append-add}
use borrow.Author.Tests.{ltb-true, ltb-false}
use Rattle.bits.specs.BitLists.{spell}
use Rattle.bits.proofs.BitLists.{length_spell, spell_at}
use Rattle.format.specs.Text.{char_digit, hex, hex_bits}
use Rattle.format.proofs.Texts.{choice, hex_bits_hex}

-- a character says less than 256
pub said_small : (c : ℕ) → c < 256 → char_digit c < 256
unfolding char_digit
said_small c small = choice (λ (n : ℕ). n < 256) c 58 (c - 48) (c - 55) (λ h. omega arith) (λ h. omega arith)

-- ---- the bits of a text

pub hex_bits_append : (l m : List ℕ) → hex_bits (l ++ m) ≡ hex_bits l ++ hex_bits m
unfolding hex_bits
hex_bits_append [] m = refl
hex_bits_append (c ∷ l) m = rw (hex_bits_append l m, append_assoc (spell 4 (char_digit c)) (hex_bits l) (hex_bits m))

-- bits that were written come first, whatever stands behind them
pub written_first : (l : List Bool) (m : List ℕ) → hex_bits (hex l ++ m) ≡ l ++ (drop (length l) (hex_bits (hex l)) ++ hex_bits m)
written_first l m =
    let all = hex_bits (hex l) in
    let first : all ≡ l ++ drop (length l) all = sym (take-append-drop (length l) all) ∙ ap (λ (k : List Bool). k ++ drop (length l) all) (hex_bits_hex l) in
    hex_bits_append (hex l) m ∙ ap (λ (k : List Bool). k ++ hex_bits m) first ∙ append_assoc l (drop (length l) all) (hex_bits m)

-- one of them: no bit is set behind the text
pub bit_said : (text : List ℕ) (i : ℕ) → get_or (hex_bits text) i false ≡ eqb (char_digit (get_or text (i / 4) 0) / 2 ^ (3 - i % 4) % 2) 1
unfolding hex_bits char_digit
bit_said [] i = rw (zero-div (2 ^ (3 - i % 4)))
bit_said (c ∷ cs) i = go (spell 4 (char_digit c)) (length_spell 4 (char_digit c)) (spell_at 4 (char_digit c) i) (ltb i 4) refl (bit_said cs (i - 4))
  where
    go : (four : List Bool) → length four ≡ 4 → (i < 4 → get_or four i false ≡ eqb (char_digit c / 2 ^ (3 - i) % 2) 1) → (b : Bool) → ltb i 4 ≡ b
        → get_or (hex_bits cs) (i - 4) false ≡ eqb (char_digit (get_or cs ((i - 4) / 4) 0) / 2 ^ (3 - (i - 4) % 4) % 2) 1
        → get_or (four ++ hex_bits cs) i false ≡ eqb (char_digit (get_or (c ∷ cs) (i / 4) 0) / 2 ^ (3 - i % 4) % 2) 1
    go four long here true e it =
        let few : i < 4 = ltb-true i 4 e in
        let first : i / 4 ≡ 0 = omega arith in
        let same : i % 4 ≡ i = omega arith in
        get_or-append four (hex_bits cs) false i (omega arith) ∙ here few ∙ rw (first, same)
    go four long here false e it =
        let large : 4 ≤ i = ltb-false i 4 e in
        let parts : i ≡ length four + (i - 4) = omega arith in
        let next : i / 4 ≡ suc ((i - 4) / 4) = omega arith in
        let same : i % 4 ≡ (i - 4) % 4 = omega arith in
        ap (λ (k : ℕ). get_or (four ++ hex_bits cs) k false) parts ∙ get_or-append-add four (hex_bits cs) (i - 4) false ∙ it ∙ rw (next, same)
