-- `saved::candidate::strip_said` meets its contract. Assumes nothing.
use mathlib.Core.Path.{◌≡◌}
use mathlib.Core.Bool.{true, false}
use native.Mathlib.Omega.{arith}
use borrow.Author.Rules.{rules}
use borrow.Author.Tests.{not-true, not-false}
use lib.ListN.{drop}
use Rattle.format.specs.Text.{hex_bits}
use Rattle.saved.specs.Saying.{strip_said}
use Rattle.saved.proofs.SpreadBits.{spread_lt}
use Rattle.saved.proofs.candidate.strip_said.Statement.{statement}
use Rattle.saved.proofs.candidate.strip_said.Tie as tie

returns-then-not-s : tie.Need-returns-then-not-s
unfolding strip_said
returns-then-not-s c =
    let off : c.args.s.flag ≡ false = not-true _ c.if-not-s.true in
    rw off

overflow_cast-result : tie.Need-overflow_cast-result
overflow_cast-result c =
    let x = c.args in
    omega (arith, c.spread_at.ensures, spread_lt (hex_bits (drop x.at x.line.now)) x.s.signals 16 x.first)

returns : tie.Need-returns
unfolding strip_said
returns c =
    let e = c in
    let on : e.args.s.flag ≡ true = not-false _ e.if-not-s.false in
    rw on c.spread_at.ensures

pub strip_said_spec : {M : Type 1} → statement M
strip_said_spec = tie.close (tie.spec returns-then-not-s (λ c. search rules) (λ c κs. search rules) overflow_cast-result returns)
