-- The bits that wait for their digit, and the strips that are left.
use Rattle.saved.proofs.StripTexts.{StripsLeft}
use Rattle.saved.proofs.cells.mask_text.Given as goal

abbrev pub invariant-loop-strip : goal.invariant-loop-strip
invariant-loop-strip l = StripsLeft l.initial.line l.at l.signals l.strips l.line l.place l.bits l.pending l.strip-index
