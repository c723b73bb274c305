use Rattle.std.proofs.Common.{sym, ◌∙◌, arith, ap}
use mathlib.Core.Bool.{and-true, and-false}
use borrow.Author.Tests.{eq-eqb, ne_eqb}
use Rattle.format.specs.Text.{digit_char}
use Rattle.lines.proofs.WholeDigits.{other_count, says_even, says_odd}
use Rattle.lines.proofs.digits.digits_say.Goals as goal

-- digits of four bits alone
pub returns-then-digits-k : goal.returns-then-digits-k
returns-then-digits-k c = c.all_digits.ensures ∙ sym (says_even c.args.n c.args.digits.now c.if-left-eq0.true c.if-digits-k.true)

pub returns-else-digits-k : goal.returns-else-digits-k
returns-else-digits-k c = rw (ne_eqb _ _ c.if-digits-k.false) (sym (other_count c.args.n c.args.digits.now (λ e. omega arith)))

-- and one of fewer
pub returns-in_default : goal.returns-in_default
returns-in_default c = sym (other_count c.args.n c.args.digits.now (λ e. omega (arith, c.in_default.ensures.cases)))

pub returns-then-whole-k : goal.returns-then-whole-k
returns-then-whole-k c = sym (other_count c.args.n c.args.digits.now (λ e. omega (arith, c.in-Some.ensures.cases.1)))

pub returns-then-digit-last : goal.returns-then-digit-last
returns-then-digit-last c =
    let last = c.in-Some.field-0-0.now in
    let parts = says_odd c.args.n c.in-Some.whole.now last c.digit.result c.if-left-eq0.false c.in-Some.ensures.cases.0 c.if-whole-k.false (c.digit.ensures ∙ ap digit_char c.nibble.ensures.value) in
    c.all_digits-then-digit-last.ensures ∙ sym (parts ∙ rw (eq-eqb c.digit.result last c.if-digit-last.true) (and-true _))

pub returns-else-digit-last : goal.returns-else-digit-last
returns-else-digit-last c =
    let last = c.in-Some.field-0-0.now in
    let parts = says_odd c.args.n c.in-Some.whole.now last c.digit.result c.if-left-eq0.false c.in-Some.ensures.cases.0 c.if-whole-k.false (c.digit.ensures ∙ ap digit_char c.nibble.ensures.value) in
    let other = ne_eqb c.digit.result last c.if-digit-last.false in
    other ∙ sym (parts ∙ rw other (and-false _))
