-- `holding::Holding::empty` meets its contract. Assumes nothing.
use mathlib.Core.Path.{refl}
use Rattle.holding.specs.Pictures.{picture_of}
use Rattle.holding.proofs.Holding.empty.Statement.{statement}
use Rattle.holding.proofs.Holding.empty.Tie as tie

pub empty_spec : {M : Type 1} → statement M
unfolding picture_of
empty_spec = tie.close (tie.spec (λ c. refl))
