-- `holding::set_places::first` meets its contract. Assumes nothing.
use Rattle.bits.proofs.Words.{arith, rules}
use lib.Count.{leading_le}
use Rattle.holding.proofs.set_places.first.Statement.{statement}
use Rattle.holding.proofs.set_places.first.Tie as tie

pub first_spec : {M : Type 1} → statement M
first_spec = tie.close (tie.spec (λ c. omega (arith, leading_le 64 c.args.mask)) (λ c. search rules))
