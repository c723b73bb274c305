-- `saved::characters::bit_at` meets its contract. Assumes nothing.
use mathlib.Core.Path.{◌≡◌, sym, ap, ◌∙◌}
use mathlib.Core.Bool.{Bool}
use Prim.Native.Nat.{ℕ, ◌-◌, ◌/◌, ◌%◌, ◌^◌}
use native.Mathlib.Omega.{arith}
use borrow.Author.Rules.{rules}
use lib.ListN.{get_or, drop}
use lib.Seq.{get_or-drop}
use Rattle.bits.specs.BitLists.{digit}
use Rattle.bits.proofs.BitLists.{digit_eqb}
use Rattle.format.specs.Text.{char_digit}
use Rattle.text.proofs.Characters.{bit_said}
use Rattle.saved.proofs.characters.bit_at.Statement.{statement}
use Rattle.saved.proofs.characters.bit_at.Tie as tie

returns : tie.Need-returns
returns c =
    let x = c.args in
    let text = drop x.at x.line.now in
    let four : c.said-four.result ≡ char_digit (get_or text (x.i / 4) 0) = c.said-four.ensures ∙ ap char_digit (c.char_at.ensures ∙ sym (get_or-drop x.at x.line.now (x.i / 4) 0)) in
    let bit = char_digit (get_or text (x.i / 4) 0) / 2 ^ (3 - x.i % 4) % 2 in
    ap (λ (n : ℕ). n / 2 ^ (3 - x.i % 4) % 2) four ∙ sym (digit_eqb bit (omega arith)) ∙ ap (λ (b : Bool). digit b) (sym (bit_said text x.i))

pub bit_at_spec : {M : Type 1} → statement M
bit_at_spec =
    tie.close
    (tie.spec (λ c. search rules) (λ c κs. search rules) (λ c κs. search rules) (λ c. search rules) (λ c. search rules) (λ c. search rules) returns)
