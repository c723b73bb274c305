use Rattle.std.proofs.Common.{◌≡◌, take}
use Rattle.lines.specs.Digits.{all_digits}
use Rattle.lines.proofs.digits.all_digits.Given as goal

abbrev pub invariant-loop-c : goal.invariant-loop-c
invariant-loop-c l = l.all ≡ all_digits (take l.c-index l.digits)
