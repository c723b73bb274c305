use Rattle.std.proofs.Common.{◌+◌, ◌/◌}
use Rattle.lines.proofs.PairsLeft.{Pairs}
use Rattle.lines.proofs.stretch.stretch_in.Given as goal

-- the digits that are left stand where they stood
abbrev pub invariant-loop-i : goal.invariant-loop-i
invariant-loop-i l = Pairs l.initial.line l.first ((l.fn.n + 3) / 4) l.initial.line l.line l.line l.i
