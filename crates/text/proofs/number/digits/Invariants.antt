use Rattle.std.proofs.Common.{◌≡◌}
use lib.Seq.{sets}
use Rattle.text.specs.Digits.{last_digits}
use Rattle.text.proofs.number.digits.Given as goal

-- the digits that are left, before those that are stored
abbrev pub invariant-loop-i : goal.invariant-loop-i
invariant-loop-i l = sets l.initial.line l.at (last_digits l.base l.k l.n) ≡ sets l.line l.at (last_digits l.base l.i l.left)
