-- `writer::plan::packet_fits` meets its contract: its tests, each as the head has the number. Assumes nothing.
use Rattle.bits.proofs.Words.{◌&&◌, rules}
use Rattle.fitting.specs.FitHeads.{number_fits}
use Rattle.writer.specs.Plans.{packet_head}
use Rattle.pens.proofs.Numbers.{of_struct}
use Rattle.writer.proofs.plan.packet_fits.Statement.{statement}
use Rattle.writer.proofs.plan.packet_fits.Tie as tie

returns : tie.Need-returns
unfolding packet_head
returns c =
    let t3 = c.before.before in
    let t2 = t3.before.before in
    let h = c.args.head in
    let indicator = of_struct (number_fits 1) h.indicator t2.struct_told-1.given.1.1.1.0.1 t2.fits.ensures in
    let a = of_struct (number_fits 3) h.a t3.struct_told-2-1.given.1.1.1.1.1.0.1 t3.fits-2.ensures in
    let b = of_struct (number_fits 2) h.b c.struct_told-3-1.given.1.1.1.1.1.1.0.1 c.fits-3.ensures in
    λ i. c.packet_bare.ensures i && (indicator i && (a i && b i))

pub packet_fits_spec : {M : Type 1} → statement M
packet_fits_spec = tie.close (tie.spec (λ c κs. search rules) (λ c κs. search rules) (λ c κs. search rules) (λ c κs. search rules) returns)
