-- `holding::testing::slot_fits` meets its contract: the tests of slot_fits one after the other. Assumes nothing.
use Rattle.bits.proofs.Words.{◌≡◌, sym, ap, ◌∙◌, ℕ, ◌+◌, ◌-◌, ◌≤◌, arith, rules, get_or, take, drop}
use borrow.Author.Tests.{lt-ltb, le-ltb}
use lib.Count.{ones}
use Rattle.holding.specs.Testing.{strips_fit, slot_fits}
use Rattle.holding.proofs.Fitting.{few_with}
use Rattle.holding.proofs.testing.slot_fits.Statement.{statement}
use Rattle.holding.proofs.testing.slot_fits.Tie as tie

returns-then-named_in : tie.Need-returns-then-named_in
unfolding slot_fits
returns-then-named_in c =
    let x = c.args in
    let again = sym c.named_in.ensures ∙ c.if-named_in.true in
    rw (lt-ltb (get_or x.ids.now x.i 0) 5 (omega arith), again)

returns-then-not-masks_fit : tie.Need-returns-then-not-masks_fit
unfolding slot_fits
returns-then-not-masks_fit c =
    let x = c.args in
    let new = sym c.named_in.ensures ∙ c.if-named_in.false in
    let over = sym c.masks_fit.ensures ∙ c.if-not-masks_fit.true in
    rw (lt-ltb (get_or x.ids.now x.i 0) 5 (omega arith), new, over)

-- a slot whose masks fit leaves room for its satellites
few : (c : tie.After-count) → let x = c.args in x.n + ones x.slot.satellites ≤ 64
few c =
    let x = c.args in
    few_with x.n (get_or x.ids.now x.i 0) x.slot.satellites x.slot.signals (sym c.masks_fit.ensures ∙ c.if-not-masks_fit.false)

returns : tie.Need-returns
unfolding slot_fits
returns c =
    let x = c.args in
    let new = sym c.named_in.ensures ∙ c.if-named_in.false in
    let fit = sym c.masks_fit.ensures ∙ c.if-not-masks_fit.false in
    let width : x.n + c.count.result - x.n ≡ ones x.slot.satellites = omega (arith, c.count.ensures) in
    rw (lt-ltb (get_or x.ids.now x.i 0) 5 (omega arith), new, fit)
    (c.strips_fit.ensures ∙ ap (λ (k : ℕ). strips_fit x.slot.flag x.slot.signals (take k (drop x.n x.strips.now))) width)

pub slot_fits_spec : {M : Type 1} → statement M
unfolding slot_fits
slot_fits_spec =
    tie.close
    (tie.spec (λ c. search rules) (λ c. omega (arith, c.shared_slice_known-3-1.given c.args.i))
    (λ c. let x = c.args in rw (le-ltb (get_or x.ids.now x.i 0) 5 (omega arith))) (λ c κs. search rules) returns-then-named_in
    (λ c. search rules) (λ c κs. search rules) returns-then-not-masks_fit (λ c κs. search rules) (λ c. omega (arith, c.count.ensures, few c))
    (λ c κs. (omega arith, omega (arith, c.count.ensures, few c))) returns)
