-- So many flags stand in the part.
use Rattle.std.proofs.Common.{◌≡◌, ℕ, ◌<◌, false, get_or}
use mir.Val.{bool_byte}
use Rattle.passing.proofs.give.flags.Given as goal

abbrev pub invariant-loop-i : goal.invariant-loop-i
invariant-loop-i l = (k : ℕ) → k < l.i → get_or l.part k 0 ≡ bool_byte (get_or l.flags k false)
