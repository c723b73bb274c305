-- `holding::testing::issue_fits` meets its contract. Assumes nothing.
use borrow.Author.Tests.{eq-eqb, ne_eqb}
use Rattle.holding.proofs.testing.issue_fits.Statement.{statement}
use Rattle.holding.proofs.testing.issue_fits.Tie as tie

pub issue_fits_spec : {M : Type 1} → statement M
issue_fits_spec =
    tie.close
    (tie.spec (λ c. rw c.if-held.true) (λ c. rw (c.if-held.false, ne_eqb c.args.iod 0 c.if-iod-ne0.true))
    (λ c. rw (c.if-held.false, eq-eqb c.args.iod 0 c.if-iod-ne0.false)))
