-- The line of some bits passes each test, and a line that passes them all is the line of the bits that it says. Assumes nothing.
use mathlib.Core.Path.{◌≡◌, refl, sym, ap, ◌∙◌}
use mathlib.Core.Bool.{Bool, true}
use mathlib.Core.List.{List, [], ◌∷◌, ◌++◌}
use Prim.Native.Nat.{ℕ, zero, suc, ◌+◌, ◌≤◌, ◌<◌}
use native.Mathlib.Nat.{add-zero}
use native.Mathlib.Numerals.{add-one}
use native.Mathlib.Omega.{arith}
use lib.Dec.{eqb}
use lib.ListN.{length, get_or, take, drop, length-append, take-append-drop}
use lib.Seq.{take-append_seam, drop-append_seam, take_at, get_or-append-add, drop-cons, drop-drop}
use borrow.Author.Tests.{ne_eqb}
use Rattle.format.specs.Listing.{stretch_line}
use Rattle.format.specs.Reading.{stretch_limit}
use Rattle.format.specs.Text.{tab, line_feed, decimal, hex}
use Rattle.format.proofs.Bodies.{more}
use Rattle.format.proofs.Sames.{same_list_refl, eqb_refl}
use Rattle.format.proofs.Texts.{hex_bits_hex, Plain, plain_decimal}
use Rattle.lines.specs.Counting.{tab_within}
use Rattle.lines.specs.Digits.{hex_says}
use Rattle.lines.proofs.HexDigits.{digits_say}
use Rattle.text.proofs.Values.{decimal_long}

-- ---- a count, and the tab behind it

-- the first tab stands behind text without one
tab_behind : (room : ℕ) (l rest : List ℕ) → Plain l → length l ≤ room → tab_within room (l ++ (tab ∷ rest)) ≡ length l
unfolding tab_within
tab_behind zero [] rest plain few = refl
tab_behind (suc room) [] rest plain few = refl
tab_behind zero (c ∷ l) rest plain few = absurd (omega arith)
tab_behind (suc room) (c ∷ l) rest (more above plain) few = rw (ne_eqb c tab (λ e. omega arith), tab_behind room l rest plain (omega arith))

-- ---- the line of some bits

module _ (l : List Bool) (few : length l ≤ stretch_limit) where
  abbrev n : ℕ
  n = length l

  abbrev digits : List ℕ
  digits = decimal n

  pub its_tab : tab_within 5 (stretch_line l) ≡ length digits
  unfolding stretch_line
  its_tab = tab_behind 5 digits (hex l ++ (line_feed ∷ [])) (plain_decimal n) (decimal_long 4 n (omega arith))

  pub its_count : take (length digits) (stretch_line l) ≡ digits
  unfolding stretch_line
  its_count = take-append_seam digits _

  pub its_rest : drop (length digits) (stretch_line l) ≡ tab ∷ (hex l ++ (line_feed ∷ []))
  unfolding stretch_line
  its_rest = drop-append_seam digits _

  pub its_digits : hex_says n (hex l) ≡ true
  its_digits = digits_say n (hex l) ∙ rw (hex_bits_hex l, same_list_refl eqb eqb_refl (hex l), eqb_refl n)

  pub its_length : length (stretch_line l) ≡ length digits + (length (hex l) + 2)
  unfolding stretch_line
  its_length = simp length-append (omega arith)

  pub its_tab_char : get_or (stretch_line l) (length digits) 0 ≡ tab
  unfolding stretch_line
  its_tab_char = ap (λ (k : ℕ). get_or (stretch_line l) k 0) (sym (add-zero (length digits))) ∙ get_or-append-add digits _ 0 0

  pub its_end : drop (length digits + 1) (stretch_line l) ≡ hex l ++ (line_feed ∷ [])
  its_end = sym (drop-drop 1 (length digits) (stretch_line l)) ∙ ap (drop 1) its_rest

  pub its_middle : (k : ℕ) → length (hex l) ≡ k → take k (drop (length digits + 1) (stretch_line l)) ≡ hex l
  its_middle k long = ap (take k) its_end ∙ take_at (hex l) (line_feed ∷ []) k long

-- ---- a line in parts

pub in_parts : (line : List ℕ) (t : ℕ) (middle : List ℕ) → t < length line → get_or line t 0 ≡ tab → drop (t + 1) line ≡ middle ++ (line_feed ∷ [])
    → line ≡ take t line ++ (tab ∷ (middle ++ (line_feed ∷ [])))
in_parts line t middle there tabbed behind =
    sym (take-append-drop t line) ∙ ap (λ (l : List ℕ). take t line ++ l) (drop-cons line t 0 there ∙ rw (tabbed, ← (add-one t)) (ap (◌∷◌ tab) behind))
