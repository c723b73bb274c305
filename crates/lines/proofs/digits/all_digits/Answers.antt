use Rattle.std.proofs.Common.{◌∙◌, ap₂, sym, arith, refl, add-one}
use mathlib.Core.Bool.{◌&&◌}
use Rattle.lines.specs.Digits.{all_digits}
use Rattle.lines.proofs.WholeDigits.{one_digit_more}
use Rattle.lines.proofs.digits.all_digits.Goals as goal

pub loop-c-init : goal.loop-c-init
unfolding all_digits
loop-c-init c = refl

pub loop-c-preserved : goal.loop-c-preserved
loop-c-preserved c =
    let l = c.loop-c in
    ap₂ ◌&&◌ l.invariant c.is_digit-all.ensures ∙ sym (one_digit_more c.args.digits.now l.c-index (omega arith)) ∙ rw (add-one l.c-index)
