-- What is built, and the systems that are left.
use Rattle.std.proofs.Common.{◌≡◌}
use Rattle.saved.proofs.MasksSaid.{Building}
use Rattle.saved.proofs.candidate.mask_said.Given as goal

abbrev pub invariant-loop-i : goal.invariant-loop-i
invariant-loop-i l = record {
  built : Building l.line l.iod l.at l.h l.satellites l.strips l.place;
  counted : l.h.count ≡ l.i;
}
