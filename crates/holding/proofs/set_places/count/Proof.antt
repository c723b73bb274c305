-- `holding::set_places::count` meets its contract. Assumes nothing.
use Rattle.bits.proofs.Words.{arith, rules}
use lib.Count.{ones-le}
use Rattle.holding.proofs.set_places.count.Statement.{statement}
use Rattle.holding.proofs.set_places.count.Tie as tie

pub count_spec : {M : Type 1} → statement M
count_spec = tie.close (tie.spec (λ c. omega (arith, ones-le 64 c.args.mask c.ranges.mask.fits)) (λ c. search rules))
