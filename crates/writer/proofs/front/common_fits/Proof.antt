-- `writer::front::common_fits` meets its contract: its tests, each as the head has the number. Assumes nothing.
use Rattle.bits.proofs.Words.{◌&&◌, rules}
use Rattle.fitting.specs.FitHeads.{number_fits, common_fits}
use Rattle.pens.proofs.Numbers.{of_struct}
use Rattle.writer.proofs.front.common_fits.Statement.{statement}
use Rattle.writer.proofs.front.common_fits.Tie as tie

returns : tie.Need-returns
unfolding common_fits
returns c =
    let t3 = c.before.before in
    let t2 = t3.before.before in
    let t1 = t2.before.before in
    let x = c.args in
    let epoch = of_struct (number_fits x.epoch) x.head.epoch t1.struct_told-1.given.1.0.1 t1.fits.ensures in
    let interval = of_struct (number_fits 4) x.head.interval t2.struct_told-2-1.given.1.1.0.1 t2.fits-2.ensures in
    let indicator = of_struct (number_fits 1) x.head.indicator t3.struct_told-3-1.given.1.1.1.0.1 t3.fits-3.ensures in
    let iod = of_struct (number_fits 4) x.head.iod c.struct_told-4-1.given.1.1.1.1.0.1 c.fits-4.ensures in
    λ i. epoch i && (interval i && (indicator i && iod i))

pub common_fits_spec : {M : Type 1} → statement M
common_fits_spec = tie.close (tie.spec (λ c κs. search rules) (λ c κs. search rules) (λ c κs. search rules) (λ c κs. search rules) returns)
