-- `writer::plan::flagged_fits` meets its contract: its tests, each as the head has the number. Assumes nothing.
use Rattle.bits.proofs.Words.{◌&&◌, rules}
use Rattle.fitting.specs.FitHeads.{number_fits, network_fits}
use Rattle.writer.specs.Plans.{flagged_head}
use Rattle.pens.proofs.Numbers.{of_struct}
use Rattle.writer.proofs.plan.flagged_fits.Statement.{statement}
use Rattle.writer.proofs.plan.flagged_fits.Tie as tie

returns : tie.Need-returns
unfolding flagged_head
returns c =
    let t3 = c.before.before in
    let t2 = t3.before.before in
    let h = c.args.head in
    let a = of_struct (number_fits 1) h.a t2.struct_told-1.given.1.1.1.1.1.0.1 t2.fits.ensures in
    let b = of_struct (number_fits 1) h.b t3.struct_told-2-1.given.1.1.1.1.1.1.0.1 t3.fits-2.ensures in
    let d = of_struct network_fits h.c c.struct_told-3-1.given.1.1.1.1.1.1.1.0.1 c.network_fits.ensures in
    λ i. c.common_fits.ensures i && (a i && (b i && d i))

pub flagged_fits_spec : {M : Type 1} → statement M
flagged_fits_spec = tie.close (tie.spec (λ c κs. search rules) (λ c κs. search rules) (λ c κs. search rules) (λ c κs. search rules) returns)
