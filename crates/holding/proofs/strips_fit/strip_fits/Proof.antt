-- `holding::strips_fit::strip_fits` meets its contract. Assumes nothing.
use Rattle.holding.specs.Testing.{strip_fits}
use Rattle.holding.proofs.strips_fit.strip_fits.Statement.{statement}
use Rattle.holding.proofs.strips_fit.strip_fits.Tie as tie

pub strip_fits_spec : {M : Type 1} → statement M
unfolding strip_fits
strip_fits_spec = tie.close (tie.spec (λ c. rw c.if-flag.true) (λ c. rw c.if-flag.false))
