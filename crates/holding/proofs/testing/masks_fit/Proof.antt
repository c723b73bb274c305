-- `holding::testing::masks_fit` meets its contract: the tests of masks_fit one after the other. Assumes nothing.
use Rattle.bits.proofs.Words.{sym, ◌∙◌, ◌+◌, ◌^◌, arith, rules}
use borrow.Author.Tests.{lt-ltb, le-ltb, le-leb, lt-leb}
use lib.Count.{ones, ones-le}
use Rattle.holding.specs.Testing.{masks_fit}
use Rattle.holding.proofs.testing.masks_fit.Statement.{statement}
use Rattle.holding.proofs.testing.masks_fit.Tie as tie

returns-then-n-count-gt-SATELLITES : tie.Need-returns-then-n-count-gt-SATELLITES
unfolding masks_fit
returns-then-n-count-gt-SATELLITES c =
    let x = c.args in
    let known = sym c.satellites_assigned.ensures ∙ c.if-not-satellites_assigned.false in
    let count = c.count.ensures in
    rw (lt-ltb x.satellites (2 ^ 40) (omega arith), known, lt-leb (x.n + ones x.satellites) 64 (omega arith))

returns : tie.Need-returns
unfolding masks_fit
returns c =
    let x = c.args in
    let known = sym c.satellites_assigned.ensures ∙ c.if-not-satellites_assigned.false in
    let count = c.count.ensures in
    rw (lt-ltb x.satellites (2 ^ 40) (omega arith), known, le-leb (x.n + ones x.satellites) 64 (omega arith)) c.signals_assigned.ensures

pub masks_fit_spec : {M : Type 1} → statement M
unfolding masks_fit
masks_fit_spec =
    tie.close
    (tie.spec (λ c. rw (le-ltb c.args.satellites (2 ^ 40) (omega arith))) (λ c κs. search rules)
    (λ c. let x = c.args in let over = sym c.satellites_assigned.ensures ∙ c.if-not-satellites_assigned.true in rw (lt-ltb x.satellites (2 ^ 40) (omega arith), over))
    (λ c κs. search rules)
    (λ c. let x = c.args in omega (arith, c.count.ensures, ones-le 64 x.satellites c.ranges.satellites.fits))
    returns-then-n-count-gt-SATELLITES (λ c κs. search rules) returns)
