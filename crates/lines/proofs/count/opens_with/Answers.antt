use Rattle.std.proofs.Common.{sym, ◌∙◌, ◌≡◌, arith, length, take, length-take-le}
use mathlib.Core.Bool.{and-true, and-false}
use borrow.Author.Tests.{eq-eqb, ne_eqb}
use Rattle.format.specs.Text.{decimal}
use Rattle.lines.proofs.Counts.{opens_not, opens_last, digits_last, digits_none}
use Rattle.lines.proofs.count.opens_with.Goals as goal

pub returns-then-decimals-k : goal.returns-then-decimals-k
returns-then-decimals-k c = let x = c.args in sym (opens_not x.line.now x.k x.n c.requires (λ e. omega (arith, e, c.decimals.ensures)))

pub loop-c-init : goal.loop-c-init
loop-c-init c =
    let x = c.args in
    let long : length (decimal x.n) ≡ x.k = sym c.decimals.ensures ∙ omega arith in
    let all : c.into_iter-c-iterator.result.iter.rest.now ≡ take x.k x.line.now = cc in
    opens_last x.line.now x.k x.n c.requires long ∙ rw (all, length-take-le x.k x.line.now c.requires)

pub returns-then-c-digit : goal.returns-then-c-digit
returns-then-c-digit c =
    sym (digits_last c.next.new.self.iter.rest.now c.in-Some.c.now c.digit.result c.loop-c.left c.loop-c.invariant c.in-Some.ensures.steps c.digit.ensures ∙ rw (ne_eqb c.in-Some.c.now c.digit.result c.if-c-digit.true) (and-false _))

pub loop-c-preserved : goal.loop-c-preserved
loop-c-preserved c = digits_last c.next.new.self.iter.rest.now c.in-Some.c.now c.digit.result c.loop-c.left c.loop-c.invariant c.in-Some.ensures.steps c.digit.ensures ∙ rw (eq-eqb c.in-Some.c.now c.digit.result c.if-c-digit.false) (and-true _)

pub returns : goal.returns
returns c = sym (c.loop-c.invariant ∙ digits_none c.loop-c.c-iterator.iter.rest.now c.loop-c.left c.in-None.ensures.steps.0)
