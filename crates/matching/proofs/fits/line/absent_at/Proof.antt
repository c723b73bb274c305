-- `matching::fits::line::absent_at` meets its contract. Assumes nothing.
use Rattle.bits.proofs.Words.{rules, get_or, pos}
use Rattle.matching.proofs.RowTests.{absent_bits_lem}
use Rattle.matching.proofs.fits.line.absent_at.Statement.{statement}
use Rattle.matching.proofs.fits.line.absent_at.Tie as tie

pub absent_at_spec : {M : Type 1} → statement M
absent_at_spec = tie.close (tie.spec (λ c. search rules) (λ c. c.requires) (λ c. let x = c.args in absent_bits_lem (get_or x.row.now x.i (pos 0)) (record { sfits = c.result-1.given })))
