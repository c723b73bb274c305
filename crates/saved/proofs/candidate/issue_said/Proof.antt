-- `saved::candidate::issue_said` meets its contract. Assumes nothing.
use mathlib.Core.Path.{◌≡◌, sym, ap, ◌∙◌}
use mathlib.Core.List.{List}
use Prim.Native.Nat.{ℕ, ◌<◌}
use native.Mathlib.Omega.{arith}
use borrow.Author.Rules.{rules}
use borrow.Author.Tests.{lt-ltb, le-ltb}
use lib.ListN.{get_or, drop}
use lib.Seq.{get_or-drop}
use Rattle.format.specs.Text.{char_digit}
use Rattle.text.proofs.Characters.{said_small}
use Rattle.saved.specs.Saying.{issue_said}
use Rattle.saved.proofs.candidate.issue_said.Statement.{statement}
use Rattle.saved.proofs.candidate.issue_said.Tie as tie

-- the first character behind letter and tab, and the second
module _ (c : tie.After-said-tens) where
  abbrev text : List ℕ
  text = drop 2 c.args.line.now

  small : c.said-tens.result < 256
  small = omega (arith, c.said-tens.ensures, said_small c.char_at.result (omega (arith, c.char_at.type_inv)))

  tens : c.said-tens.result ≡ char_digit (get_or text 0 0)
  tens = c.said-tens.ensures ∙ ap char_digit (c.char_at.ensures ∙ sym (get_or-drop 2 c.args.line.now 0 0))

module _ (c : tie.After-char_at-second) where
  second : c.char_at-second.result ≡ get_or (text c.before) 1 0
  second = c.char_at-second.ensures ∙ sym (get_or-drop 2 c.args.line.now 1 0)

returns-then-second-lt48 : tie.Need-returns-then-second-lt48
unfolding issue_said
returns-then-second-lt48 c =
    let k = c.before in
    rw (lt-ltb (get_or (text k.before) 1 0) 48 (omega (arith, second k, c.if-second-lt48.true))) (tens k.before)

few : (c : tie.After-said) → c.said.result < 256
few c = omega (arith, c.said.ensures, said_small c.char_at-second.result (omega (arith, c.char_at-second.type_inv)))

returns : tie.Need-returns
unfolding issue_said
returns c =
    let k = c.before.before in
    rw (le-ltb (get_or (text k.before) 1 0) 48 (omega (arith, second k, c.if-second-lt48.false)), ← (second k), ← c.said.ensures, ← (tens k.before))

pub issue_said_spec : {M : Type 1} → statement M
issue_said_spec =
    tie.close
    (tie.spec (λ c κs. search rules) (λ c κs. search rules) (λ c. search rules) (λ c κs. search rules) (λ c. omega (arith, small c.before.before)) returns-then-second-lt48
    (λ c. omega (arith, small c.before.before)) (λ c κs. search rules) (λ c. omega (arith, small c.before.before.before, few c)) (λ c. search rules) returns)
