use Rattle.std.proofs.Common.{◌≡◌, length, eqb}
use Rattle.format.specs.Same.{same_list}
use Rattle.text.specs.Digits.{last_digits}
use Rattle.lines.specs.Counting.{opens_with}
use Rattle.lines.proofs.count.opens_with.Given as goal

-- the characters that are left are the digits of what is left of the number
abbrev pub invariant-loop-c : goal.invariant-loop-c
invariant-loop-c l = let left = l.c-iterator.iter.rest.now in opens_with l.line l.k l.n ≡ same_list eqb left (last_digits 10 (length left) l.left)
