-- The line of a good holding: what stands behind letter and tab, and the issue. Assumes nothing.
use mathlib.Core.Path.{◌≡◌, refl, sym, ap, ◌∙◌}
use mathlib.Core.Bool.{Bool, true, false}
use mathlib.Core.List.{List, [], ◌∷◌, ◌++◌, append_assoc, flat_map}
use Prim.Native.Nat.{ℕ, ◌+◌, ◌*◌, ◌/◌, ◌%◌, ◌≤◌, ◌<◌}
use native.Mathlib.Omega.{arith}
use lib.Dec.{ltb}
use lib.ListN.{length, get_or, drop, get_or-append}
use lib.Seq.{drop-append_seam, drop-drop}
use borrow.Author.Tests.{ltb-true, ltb-false, lt-ltb, le-ltb}
use Rattle.format.proofs.Sames.{and_true}
use Rattle.format.proofs.Texts.{choice, char_digit_digit_char, decimal_one, decimal_more, decimal_first}
use Rattle.format.specs.Good.{good_systems, good}
use Rattle.format.specs.Masks.{System, Mask, nothing, mask}
use Rattle.format.specs.Saved.{system_text, held_text, line_of}
use Rattle.format.specs.Text.{dash, line_feed, digit_char, decimal}
use Rattle.saved.specs.Lines.{text_from}
use Rattle.saved.specs.Saying.{issue_said}

-- ---- a dash or an issue

pub dash_first : get_or (line_of nothing) 2 0 ≡ dash
unfolding line_of held_text
dash_first = refl

longer : (l : List ℕ) → dash < get_or l 0 0 → 0 < length l
longer [] above = absurd (omega arith)
longer (c ∷ l) above = omega arith

module _ (m : Mask) where
  -- behind letter and tab
  pub behind_tab : drop 2 (line_of (mask m)) ≡ decimal m.iod ++ text_from m.systems
  unfolding line_of held_text
  behind_tab = append_assoc (decimal m.iod) (flat_map system_text m.systems) (line_feed ∷ [])

  pub behind_issue : drop (2 + length (decimal m.iod)) (line_of (mask m)) ≡ text_from m.systems
  behind_issue =
      let all = line_of (mask m) in
      let k = length (decimal m.iod) in
      sym (drop-drop k 2 all) ∙ ap (drop k) behind_tab ∙ drop-append_seam (decimal m.iod) (text_from m.systems)

  pub no_dash : get_or (line_of (mask m)) 2 0 ≡ dash → ⊥
  unfolding line_of held_text
  no_dash e =
      let first = decimal_first m.iod in
      let some : 0 < length (decimal m.iod) = longer (decimal m.iod) first in
      let there = ap (λ (t : List ℕ). get_or t 0 0) behind_tab ∙ get_or-append (decimal m.iod) (text_from m.systems) 0 0 some in
      omega (arith, there, first)

  pub good_parts : good (mask m) ≡ true → (m.iod < 16) × (good_systems [] m.systems ≡ true)
  unfolding good
  good_parts e =
      let parts = and_true (ltb m.iod 16) _ e in
      (ltb-true m.iod 16 parts.0, parts.1)

-- ---- the issue, of one digit or of two

-- a character below the digits follows
below : (ss : List System) → get_or (text_from ss) 0 0 < 48
unfolding flat_map system_text
below [] = omega arith
below (s ∷ ss) = omega arith

digit_above : (n : ℕ) → 48 ≤ digit_char n
unfolding digit_char
digit_above n = choice (λ (c : ℕ). 48 ≤ c) n 10 (48 + n) (55 + n) (λ h. omega arith) (λ h. omega arith)

one_digit : (n : ℕ) (ss : List System) → n < 10 → issue_said (digit_char n ∷ text_from ss) ≡ n
unfolding issue_said
one_digit n ss small = rw (lt-ltb (get_or (text_from ss) 0 0) 48 (below ss)) (char_digit_digit_char n (omega arith))

two_digits : (a b : ℕ) (more : List ℕ) → a < 2 → b < 10 → issue_said (digit_char a ∷ digit_char b ∷ more) ≡ 10 * a + b
unfolding issue_said
two_digits a b more few small =
    rw (le-ltb (digit_char b) 48 (digit_above b), char_digit_digit_char a (omega arith), char_digit_digit_char b (omega arith)) (omega arith)

pub issue_said_lem : (n : ℕ) (ss : List System) → n < 16 → issue_said (decimal n ++ text_from ss) ≡ n
issue_said_lem n ss small = go (ltb n 10) refl
  where
    go : (b : Bool) → ltb n 10 ≡ b → issue_said (decimal n ++ text_from ss) ≡ n
    go true e =
        let few : n < 10 = ltb-true n 10 e in
        rw (decimal_one n few) (one_digit n ss few)
    go false e =
        let large : 10 ≤ n = ltb-false n 10 e in
        rw (decimal_more n large, decimal_one (n / 10) (omega arith)) (two_digits (n / 10) (n % 10) (text_from ss) (omega arith) (omega arith) ∙ omega arith)
