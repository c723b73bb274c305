-- The numbers so far stand over the first bytes.
use Rattle.std.proofs.Common.{◌≡◌, map, take}
use Rattle.format.specs.Reading.{over}
use Rattle.passing.specs.Bytes.{parts_of}
use Rattle.passing.proofs.give.numbers.Given as goal

abbrev pub invariant-loop-i : goal.invariant-loop-i
invariant-loop-i g l = l.part ≡ over (parts_of g.row.K (map g.T.Number.value (take l.i l.ns))) l.initial.part
