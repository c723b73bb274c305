-- `pens::number::fits` meets its contract. Assumes nothing.
use Rattle.bits.proofs.Words.{◌≡◌, arith, rules}
use mir.Facts.{to_z-of_z}
use Rattle.bits.proofs.Windows.{one_shifted}
use Rattle.pens.specs.Numbers.{word_of}
use Rattle.pens.proofs.Numbers.{word_fits}
use Rattle.pens.proofs.number.fits.Statement.{statement}
use Rattle.pens.proofs.number.fits.Tie as tie

returns : tie.Need-returns
returns c =
    let found : c.word.result ≡ word_of c.args.v = rw (to_z-of_z c.ranges.v) at c.word.ensures.0 in
    rw (found, one_shifted c.args.w (omega arith)) (word_fits c.args.v c.ranges.v c.args.w c.requires)

pub fits_spec : {M : Type 1} → statement M
fits_spec = tie.close (tie.spec (λ c κs. search rules) (λ c. search rules) returns)
