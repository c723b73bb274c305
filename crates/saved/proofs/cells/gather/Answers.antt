use Rattle.std.proofs.Common.{arith}
use Rattle.saved.proofs.Gathers.{one_gathered, none_more, all_gathered}
use Rattle.saved.proofs.cells.gather.Goals as goal

pub loop-i-preserved-then-signals-i-eq1 : goal.loop-i-preserved-then-signals-i-eq1
loop-i-preserved-then-signals-i-eq1 c = one_gathered c.loop-i.invariant (omega arith) c.if-signals-i-eq1.true

pub loop-i-preserved : goal.loop-i-preserved
loop-i-preserved c = none_more c.loop-i.invariant (omega arith) c.if-signals-i-eq1.false

pub returns : goal.returns
returns c = all_gathered c.loop-i.invariant (omega arith)
