-- `matching::fits::line::third` meets its contract. Assumes nothing.
use Rattle.bits.proofs.Words.{◌∙◌, arith, rules}
use Rattle.matching.proofs.RowTests.{gap_fits, read_fits}
use Rattle.matching.proofs.fits.line.third.Statement.{statement}
use Rattle.matching.proofs.fits.line.third.Tie as tie

returns-then-c-eq0 : tie.Need-returns-then-c-eq0
returns-then-c-eq0 c = c.absent_at.ensures ∙ gap_fits c.args.c _ c.if-c-eq0.true

returns : tie.Need-returns
returns c = read_fits c.args.c _ (record { sfits = c.column_fits-arg-1.given }) c.column_fits.ensures

pub third_spec : {M : Type 1} → statement M
third_spec = tie.close (tie.spec (λ c κs. omega (arith, c.requires.0)) returns-then-c-eq0 (λ c. search rules) (λ c κs. search rules) returns)
