-- Digits of a line that become bytes, pair by pair, at the front of a buffer: another one, or the line itself, of which then what is behind the bytes is as it was. Assumes nothing.
use mathlib.Core.Path.{◌≡◌, refl, sym, ap, ◌∙◌}
use mathlib.Core.Bool.{true}
use mathlib.Core.List.{List, [], ◌∷◌}
use Prim.Native.Nat.{ℕ, ◌+◌, ◌-◌, ◌*◌, ◌≤◌, ◌<◌}
use native.Mathlib.Omega.{arith}
use lib.ListN.{length, get_or, take, drop, set, length-drop}
use lib.Seq.{sets, drop-set-lt, drop-drop, get_or-drop, get_or-take, length-take-le}
use Rattle.format.specs.Listing.{bytes_said}
use Rattle.format.specs.Text.{digit_char, char_digit, hex_bits}
use Rattle.text.proofs.Stores.{Left, Wrote, part_wrote, none_left}
use Rattle.lines.specs.Digits.{hex_says}
use Rattle.lines.proofs.StretchBytes.{paired, next_pair, half_pair, no_pair, IsDigit, said_digit, said_paired}

-- k digits from a place on
abbrev pub digits_in : List ℕ → ℕ → ℕ → List ℕ
digits_in line first k = take k (drop first line)

length_digits_in : (line : List ℕ) (first k : ℕ) → first + k ≤ length line → length (digits_in line first k) ≡ k
length_digits_in line first k room = length-take-le k (drop first line) (rw length-drop (omega arith))

-- i bytes of the digits of a line that was `before` are there, in a buffer that was `old`
pub record Pairs (before : List ℕ) (first k : ℕ) (old line out : List ℕ) (i : ℕ) : Type 0 where
  pub rest : drop i line ≡ drop i before
  pub left : Left old 0 (paired (digits_in before first k)) out i (paired (drop (2 * i) (digits_in before first k)))

module _ {before : List ℕ} {first k : ℕ} {old line out : List ℕ} {i : ℕ} (p : Pairs before first k old line out i) where
  abbrev ds : List ℕ
  ds = digits_in before first k

  -- the digits that are left stand where they stood
  digit_there : (at j : ℕ) → at ≡ first + j → 2 * i ≤ j → j < k → get_or line at 0 ≡ get_or ds j 0
  digit_there at j there behind few =
      let far : at ≡ i + (at - i) = omega arith in
      let back : i + (at - i) ≡ first + j = omega arith in
      ap (λ (n : ℕ). get_or line n 0) far ∙ sym (get_or-drop i line (at - i) 0) ∙ ap (λ (l : List ℕ). get_or l (at - i) 0) p.rest ∙ get_or-drop i before (at - i) 0
      ∙ ap (λ (n : ℕ). get_or before n 0) back ∙ sym (get_or-drop first before j 0) ∙ sym (get_or-take k (drop first before) j 0 few)

  first_there : 2 * i < k → get_or line (first + 2 * i) 0 ≡ get_or ds (2 * i) 0
  first_there few = digit_there (first + 2 * i) (2 * i) refl (omega arith) few

  second_there : 2 * i + 1 < k → get_or line (first + 2 * i + 1) 0 ≡ get_or ds (2 * i + 1) 0
  second_there few = digit_there (first + 2 * i + 1) (2 * i + 1) (omega arith) (omega arith) few

  -- what a byte that is stored in the line leaves behind itself
  pub rest_set : (v : ℕ) → drop (i + 1) (set line i v) ≡ drop (i + 1) before
  rest_set v = drop-set-lt (i + 1) line i v (omega arith) ∙ sym (drop-drop 1 i line) ∙ ap (drop 1) p.rest ∙ drop-drop 1 i before

  -- of a line that has them all, and whose digits say n bits
  module _ (n : ℕ) (room : first + k ≤ length before) (said : hex_says n ds ≡ true) where
    all : length ds ≡ k
    all = length_digits_in before first k room

    asked : {c : ℕ} (j : ℕ) → c ≡ get_or ds j 0 → j < k → (char_digit c < 16) × (digit_char (char_digit c) ≡ c)
    asked j same few = let d : IsDigit (get_or ds j 0) = said_digit n ds said j (omega (arith, all)) in rw same (d.small, d.own)

    pub first_asked : 2 * i < k → (char_digit (get_or line (first + 2 * i) 0) < 16) × (digit_char (char_digit (get_or line (first + 2 * i) 0)) ≡ get_or line (first + 2 * i) 0)
    first_asked few = asked (2 * i) (first_there few) few

    pub second_asked : 2 * i + 1 < k → (char_digit (get_or line (first + 2 * i + 1) 0) < 16) × (digit_char (char_digit (get_or line (first + 2 * i + 1) 0)) ≡ get_or line (first + 2 * i + 1) 0)
    second_asked few = asked (2 * i + 1) (second_there few) few

    -- one byte more; the line may be another, but not behind it
    pub one_more : {a b : ℕ} {next : List ℕ} → 2 * i + 1 < k → a ≡ char_digit (get_or line (first + 2 * i) 0) → b ≡ char_digit (get_or line (first + 2 * i + 1) 0)
        → drop (i + 1) next ≡ drop (i + 1) before → Pairs before first k old next (set out i (a * 16 + b)) (i + 1)
    one_more {a} {b} few high low rest =
        let value : a * 16 + b ≡ char_digit (get_or ds (2 * i) 0) * 16 + char_digit (get_or ds (2 * i + 1) 0) =
        omega (arith, high, low, ap char_digit (first_there (omega arith)), ap char_digit (second_there few)) in
        let wrote : Wrote out i ((char_digit (get_or ds (2 * i) 0) * 16 + char_digit (get_or ds (2 * i + 1) 0)) ∷ []) (set out i (a * 16 + b)) (i + 1) =
        record { place = refl; same = ap (set out i) value } in
        record { rest = rest; left = part_wrote p.left (next_pair ds i (omega (arith, all))) wrote }

    -- all are there, where the digits are even and where they are odd
    in_bytes : sets old 0 (paired ds) ≡ sets old 0 (bytes_said (take n (hex_bits ds)))
    in_bytes = ap (sets old 0) (sym (said_paired n ds said))

    pub even_done : k ≤ 2 * i → out ≡ sets old 0 (bytes_said (take n (hex_bits ds)))
    even_done past = (none_left p.left (no_pair ds i (omega (arith, all)))).same ∙ in_bytes

    pub odd_done : {a : ℕ} → 2 * i + 1 ≡ k → a ≡ char_digit (get_or line (first + 2 * i) 0) → set out i (a * 16) ≡ sets old 0 (bytes_said (take n (hex_bits ds)))
    odd_done {a} last high =
        let value : a * 16 ≡ char_digit (get_or ds (2 * i) 0) * 16 = ap (λ (x : ℕ). x * 16) (high ∙ ap char_digit (first_there (omega arith))) in
        let wrote : Wrote out i (char_digit (get_or ds (2 * i) 0) * 16 ∷ []) (set out i (a * 16)) (i + 1) = record { place = refl; same = ap (set out i) value } in
        (none_left (part_wrote {more = []} p.left (half_pair ds i (omega (arith, all))) wrote) refl).same ∙ in_bytes
