use Rattle.std.proofs.Common.{arith}
use Rattle.text.proofs.LastDigits.{width}
use Rattle.text.proofs.number.number.Goals as goal

pub short-requires-then-n-lt100 : goal.short-requires-then-n-lt100
short-requires-then-n-lt100 c = let two = width 1 c.args.n (omega arith) (omega arith) in (two, omega (arith, two))

pub short-requires-then-n-lt1000 : goal.short-requires-then-n-lt1000
short-requires-then-n-lt1000 c = let three = width 2 c.args.n (omega arith) (omega arith) in (three, omega (arith, three))

pub short-requires-then-n-lt10000 : goal.short-requires-then-n-lt10000
short-requires-then-n-lt10000 c = let four = width 3 c.args.n (omega arith) (omega arith) in (four, omega (arith, four))
