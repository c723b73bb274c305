-- What stood so far, and what is left.
use Rattle.std.proofs.Common.{◌≡◌, length}
use Rattle.holding.specs.Outlines.{whole_of}
use Rattle.saved.proofs.Compared.{Compared}
use Rattle.saved.proofs.line.is_own.Given as goal

abbrev pub invariant-loop-i : goal.invariant-loop-i
invariant-loop-i l = record {
  compared : Compared (whole_of l.outline l.satellites l.strips) l.line l.place l.from l.i;
  room : length l.piece ≡ 182;
}
