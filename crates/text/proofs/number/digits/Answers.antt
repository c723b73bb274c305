use Rattle.std.proofs.Common.{◌≡◌, ◌∙◌, ℕ, suc, ◌-◌, ap, sym, arith}
use lib.Seq.{sets}
use Rattle.text.specs.Digits.{last_digits}
use Rattle.text.proofs.LastDigits.{one_digit}
use Rattle.text.proofs.number.digits.Goals as goal

pub loop-i-preserved : goal.loop-i-preserved
loop-i-preserved c =
    let x = c.args in
    let l = c.loop-i in
    let more : l.i ≡ suc (l.i - 1) = omega arith in
    l.invariant ∙ ap (λ (k : ℕ). sets l.line x.at (last_digits x.base k l.left)) more ∙ one_digit l.line x.at x.base (l.i - 1) l.left ∙ rw (← c.digit.ensures)

pub returns-clause-line_after : goal.returns-clause-line_after
unfolding last_digits
returns-clause-line_after c =
    let none : c.loop-i.i ≡ 0 = omega arith in
    sym (c.loop-i.invariant ∙ rw (none, last_digits))
