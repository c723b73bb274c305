-- A line of input says the bits whose line it is, if they are not too many, and no other line says any. Assumes nothing.
use mathlib.Core.Path.{◌≡◌, refl, sym, ap, ◌∙◌}
use mathlib.Core.Bool.{Bool, true, false, cond, ◌&&◌, and-eq-true_iff, false≢true}
use mathlib.Core.List.{List, [], ◌∷◌, ◌++◌}
use Prim.Native.Nat.{ℕ, ◌≤◌}
use lib.Dec.{leb, eqb}
use lib.ListN.{length}
use borrow.Author.Tests.{eqb-true, le-leb, leb-true}
use Rattle.format.specs.Listing.{stretch_line, bits_said, Line, says, bad, line_says}
use Rattle.format.specs.Reading.{stretch_limit}
use Rattle.format.specs.Same.{same_list}
use Rattle.format.specs.Text.{decimal, hex, fields_from}
use Rattle.format.proofs.Bodies.{none, more}
use Rattle.format.proofs.Sames.{same_list_sound, same_list_refl, eqb_refl}
use Rattle.format.proofs.Texts.{decimal_value_decimal, hex_bits_hex, plain_decimal, plain_hex, joined, fields_plain, fields_joined}

-- its fields are the count and the digits
fields_stretch : (l : List Bool) → fields_from [] (stretch_line l) ≡ decimal (length l) ∷ hex l ∷ []
unfolding stretch_line joined
fields_stretch l = fields_plain [] (decimal (length l)) (joined (hex l ∷ [])) (plain_decimal (length l)) ∙ fields_joined (decimal (length l)) (hex l ∷ []) (more (plain_hex l) none)

-- so the bits are read as they were written
bits_stretch : (l : List Bool) → bits_said (stretch_line l) ≡ l
unfolding bits_said
bits_stretch l = rw (fields_stretch l, decimal_value_decimal (length l)) (hex_bits_hex l)

pub line_says_lem : (l : List Bool) → length l ≤ stretch_limit → line_says (stretch_line l) ≡ says l
unfolding line_says
line_says_lem l few = rw (bits_stretch l, le-leb (length l) stretch_limit few, same_list_refl eqb eqb_refl (stretch_line l))

-- what a line is, by the test of what it says
by_test : (line : List ℕ) (b c : Bool) → leb (length (bits_said line)) stretch_limit ≡ b → same_list eqb (stretch_line (bits_said line)) line ≡ c
    → (l : List Bool) → cond (b && c) (says (bits_said line)) bad ≡ says l → (line ≡ stretch_line l) × (length l ≤ stretch_limit)
by_test line true true few same l e =
    let it : bits_said line ≡ l = cc in
    rw (← it) (sym (same_list_sound eqb eqb-true (stretch_line (bits_said line)) line same), leb-true (length (bits_said line)) stretch_limit few)
by_test line true false few same l e = absurd (false≢true cc)
by_test line false c few same l e = absurd (false≢true cc)

-- a line says only the bits whose line it is
pub says_line : (line : List ℕ) (l : List Bool) → line_says line ≡ says l → (line ≡ stretch_line l) × (length l ≤ stretch_limit)
unfolding line_says
says_line line l e = by_test line _ _ refl refl l e

-- a line that is no bits' line is bad
pub never_says : (line : List ℕ) → ((l : List Bool) → length l ≤ stretch_limit → line ≡ stretch_line l → ⊥) → line_says line ≡ bad
never_says line never = go (line_says line) refl
  where
    go : (x : Line) → line_says line ≡ x → x ≡ bad
    go (says l) e = absurd (never l (says_line line l e).1 (says_line line l e).0)
    go bad e = refl
