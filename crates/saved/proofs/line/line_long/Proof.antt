-- `saved::line::line_long` meets its contract. Assumes nothing.
use mathlib.Core.Path.{sym, ap}
use Prim.Native.Nat.{◌≤◌}
use native.Mathlib.Omega.{arith}
use borrow.Author.Rules.{rules}
use borrow.Author.Tests.{not-true, not-false}
use lib.ListN.{length, length-append}
use Rattle.holding.specs.Outlines.{whole_of}
use Rattle.text.proofs.Values.{decimal_long}
use Rattle.saved.proofs.HeldTexts.{nothing_line, mask_line}
use Rattle.saved.proofs.line.line_long.Statement.{statement}
use Rattle.saved.proofs.line.line_long.Tie as tie

returns-then-not-outline : tie.Need-returns-then-not-outline
returns-then-not-outline c strips sounds =
    let x = c.args in
    let h = whole_of x.outline x.satellites.now strips in
    sym (ap length (nothing_line h (not-true _ c.if-not-outline.true)))

few : (c : tie.After-decimals) → c.decimals.result ≤ 3
few c = omega (arith, c.decimals.ensures, decimal_long 2 c.args.outline.iod (omega (arith, c.struct_known-2-1.given)))

returns : tie.Need-returns
returns c strips sounds =
    let d = c.before in
    let e = d in
    let x = e.args in
    let h = whole_of x.outline x.satellites.now strips in
    omega (arith, simp length-append at (ap length (mask_line h (not-false _ e.if-not-outline.false))), d.decimals.ensures, c.systems_long.ensures.0 strips sounds)

pub line_long_spec : {M : Type 1} → statement M
line_long_spec =
    tie.close
    (tie.spec returns-then-not-outline (λ c. search rules) (λ c κs. search rules) (λ c κs. search rules) (λ c. omega (arith, few c.before, c.systems_long.ensures.1))
    (λ c. omega (arith, few c.before, c.systems_long.ensures.1)) returns)
