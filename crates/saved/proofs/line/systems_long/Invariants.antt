-- What is counted, and the slots that are left.
use Rattle.std.proofs.Common.{◌≡◌, true, ℕ, List}
use Rattle.holding.specs.Outlines.{whole_of}
use Rattle.holding.specs.Pictures.{sound}
use Rattle.saved.proofs.SlotsLeft.{LongLeft}
use Rattle.saved.proofs.line.systems_long.Given as goal

abbrev pub invariant-loop-i : goal.invariant-loop-i
invariant-loop-i l = (strips : List ℕ) → sound (whole_of l.outline l.satellites strips) ≡ true → LongLeft (whole_of l.outline l.satellites strips) l.long l.i
