use Rattle.std.proofs.Common.{◌+◌, ◌/◌}
use Rattle.lines.proofs.PairsLeft.{Pairs}
use Rattle.lines.proofs.stretch.stretch_of.Given as goal

-- the digits that are left stand where they stood
abbrev pub invariant-loop-i : goal.invariant-loop-i
invariant-loop-i l = Pairs l.line l.first ((l.fn.n + 3) / 4) l.initial.bytes l.line l.bytes l.i
