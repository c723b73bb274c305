use Rattle.std.proofs.Common.{arith}
use Rattle.saved.proofs.SpreadBits.{one_spread, none_here, all_spread}
use Rattle.saved.proofs.characters.spread_at.Goals as goal

pub loop-i-preserved-then-places-i-eq1 : goal.loop-i-preserved-then-places-i-eq1
loop-i-preserved-then-places-i-eq1 c = one_spread c.loop-i.invariant (omega arith) c.if-places-i-eq1.true c.bit_at.ensures

pub loop-i-preserved : goal.loop-i-preserved
loop-i-preserved c = none_here c.loop-i.invariant (omega arith) c.if-places-i-eq1.false

pub returns : goal.returns
returns c = all_spread c.loop-i.invariant (omega arith)
