-- `bits::window::join` meets its contract. Assumes nothing.
use Rattle.bits.proofs.Windows.{halves}
use Rattle.bits.proofs.window.join.Statement.{statement}
use Rattle.bits.proofs.window.join.Tie as tie

pub join_spec : {M : Type 1} → statement M
join_spec = tie.close (tie.spec (λ c. halves c.args.high c.args.low c.ranges.high.fits c.ranges.low.fits))
