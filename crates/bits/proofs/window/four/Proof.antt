-- `bits::window::four` meets its contract. Assumes nothing.
use Rattle.bits.proofs.Windows.{joined}
use Rattle.bits.proofs.window.four.Statement.{statement}
use Rattle.bits.proofs.window.four.Tie as tie

pub four_spec : {M : Type 1} → statement M
four_spec = tie.close (tie.spec (λ c. let x = c.args in let f = c.ranges in joined x.a x.b x.c x.d f.a.fits f.b.fits f.c.fits f.d.fits))
