-- What a line of input is, by the tests that are made of it, each in its turn. Assumes nothing.
use mathlib.Core.Path.{◌≡◌, sym, ap, ◌∙◌}
use mathlib.Core.Bool.{Bool, true, false, and-eq-true_iff, false≢true}
use mathlib.Core.List.{List, [], ◌∷◌, ◌++◌}
use Rattle.std.specs.Prelude.{Some, None}
use Prim.Native.Nat.{ℕ, suc, ◌+◌, ◌-◌, ◌≤◌, ◌<◌}
use native.Mathlib.Nat.{le_refl}
use native.Mathlib.Omega.{arith}
use lib.Dec.{eqb}
use lib.ListN.{length, get_or, take, drop, length-append, length-drop}
use lib.Seq.{take_all}
use Rattle.std.proofs.lemmas.List.{same_from_push}
use Rattle.std.specs.Bool.{then_some}
use borrow.Author.Tests.{eqb-true}
use Rattle.format.specs.Listing.{stretch_line, line_says}
use Rattle.format.specs.Reading.{stretch_limit}
use Rattle.format.specs.Same.{same_list}
use Rattle.format.specs.Text.{tab, line_feed, decimal, decimal_value, hex, hex_bits}
use Rattle.format.proofs.InputLines.{line_says_lem, never_says}
use Rattle.format.proofs.Sames.{same_list_sound, same_list_refl, eqb_refl}
use Rattle.format.proofs.Texts.{decimal_value_decimal}
use Rattle.lines.specs.Counting.{tab_within, opens_with}
use Rattle.lines.specs.Digits.{hex_says}
use Rattle.lines.specs.Saying.{line_for}
use Rattle.lines.proofs.HexDigits.{digits_say}
use Rattle.lines.proofs.StretchLines.{its_tab, its_count, its_digits, its_length, its_tab_char, its_end, in_parts}

-- the place of the first tab, and the number before it
module _ (line : List ℕ) (t : ℕ) (tab-at : t ≡ tab_within 5 line) (n : ℕ) (number_there : n ≡ decimal_value 0 (take t line)) where
  -- what stands behind the tab
  abbrev behind : List ℕ
  behind = take (length line - (t + 1)) (drop (t + 1) line)

  rest : behind ≡ drop (t + 1) line
  rest = take_all (length line - (t + 1)) (drop (t + 1) line) (rw length-drop (le_refl _))

  -- if it is the line of some bits
  module _ (l : List Bool) (few : length l ≤ stretch_limit) (same : line ≡ stretch_line l) where
    tabbed : t ≡ length (decimal (length l))
    tabbed = tab-at ∙ ap (tab_within 5) same ∙ its_tab l few

    opening : take t line ≡ decimal (length l)
    opening = rw (tabbed, same) (its_count l few)

    counted : n ≡ length l
    counted = number_there ∙ ap (decimal_value 0) opening ∙ decimal_value_decimal (length l)

    long : length line ≡ t + (length (hex l) + 2)
    long = ap length same ∙ its_length l few ∙ ap (λ (k : ℕ). k + (length (hex l) + 2)) (sym tabbed)

    char_there : get_or line t 0 ≡ tab
    char_there = rw (tabbed, same) (its_tab_char l few)

    rest_there : behind ≡ hex l ++ (line_feed ∷ [])
    rest_there = rest ∙ rw (tabbed, same) (its_end l few)

    digits_there : {middle : List ℕ} {last : ℕ} → behind ≡ middle ++ (last ∷ []) → (middle ≡ hex l) × (last ≡ line_feed)
    digits_there parts = same_from_push _ _ _ _ (sym parts ∙ rest_there)

  -- ---- a test that fails

  -- where each line of bits passes a test, one that does not is bad
  fails : {P : Type 0} → ((l : List Bool) → length l ≤ stretch_limit → line ≡ stretch_line l → P) → ¬ P → None ≡ line_for (line_says line)
  unfolding line_for
  fails passes not = sym (ap line_for (never_says line (λ l few same. not (passes l few same))))

  pub no_tab : length line ≤ t → None ≡ line_for (line_says line)
  no_tab past = fails (λ l few same. let some : t < length line = omega (arith, long l few same) in some) (λ some. omega arith)

  pub another : ¬ (get_or line t 0 ≡ tab) → None ≡ line_for (line_says line)
  another = fails char_there

  pub too_many : stretch_limit < n → None ≡ line_for (line_says line)
  too_many many = fails (λ l few same. let some : n ≤ stretch_limit = omega (arith, counted l few same) in some) (λ some. omega arith)

  opens : (l : List Bool) → length l ≤ stretch_limit → line ≡ stretch_line l → opens_with line t n ≡ true
  unfolding opens_with
  opens l few same = rw (counted l few same, opening l few same) (same_list_refl eqb eqb_refl (decimal (length l)))

  pub no_count : opens_with line t n ≡ false → None ≡ line_for (line_says line)
  no_count e = fails opens (λ some. false≢true (sym e ∙ some))

  pub no_room : length behind ≡ 0 → None ≡ line_for (line_says line)
  no_room none = fails (λ l few same. let some : 0 < length behind = rw (rest_there l few same) (simp length-append (omega arith)) in some) (λ some. omega arith)

  -- the digits, and what stands behind them
  module _ (middle : List ℕ) (last : ℕ) (parts : behind ≡ middle ++ (last ∷ [])) where
    pub no_end : ¬ (last ≡ line_feed) → None ≡ line_for (line_says line)
    no_end = fails (λ l few same. (digits_there l few same parts).1)

    pub no_digits : hex_says n middle ≡ false → None ≡ line_for (line_says line)
    no_digits e = fails (λ l few same. rw (counted l few same, (digits_there l few same parts).0) (its_digits l few)) (λ some. false≢true (sym e ∙ some))

    -- ---- all pass but the last one, which may

    pub says_bits : (said : Bool) → said ≡ hex_says n middle → t < length line → get_or line t 0 ≡ tab → n ≤ stretch_limit → opens_with line t n ≡ true → last ≡ line_feed
        → then_some said (record { bits = n; first = t + 1 }) ≡ line_for (line_says line)
    unfolding line_for opens_with stretch_line
    says_bits false e there at_tab few opened ended = no_digits (sym e)
    says_bits true e there at_tab few opened ended =
        let l : List Bool = take n (hex_bits middle) in
        let both = (and-eq-true_iff (same_list eqb (hex l) middle) (eqb (length l) n)).0 (sym (digits_say n middle) ∙ sym e) in
        let said : hex l ≡ middle = same_list_sound eqb eqb-true (hex l) middle both.0 in
        let count : length l ≡ n = eqb-true (length l) n both.1 in
        let front : take t line ≡ decimal n = same_list_sound eqb eqb-true (take t line) (decimal n) opened in
        let same : line ≡ stretch_line l =
        in_parts line t middle there at_tab (sym rest ∙ rw ended at parts)
        ∙ ap (λ (x : List ℕ). x ++ (tab ∷ (middle ++ (line_feed ∷ [])))) (front ∙ ap decimal (sym count))
        ∙ ap (λ (x : List ℕ). decimal (length l) ++ (tab ∷ (x ++ (line_feed ∷ [])))) (sym said) in
        let short : length l ≤ stretch_limit = omega arith in
        let place : t + 1 ≡ suc (length (decimal (length l))) = omega (arith, tabbed l short same) in
        (λ i. Some (record { bits = sym count i; first = place i })) ∙ sym (ap line_for (ap line_says same ∙ line_says_lem l short))
