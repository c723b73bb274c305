-- `writer::plan::alone_fits` meets its contract: its tests, each as the head has the number. Assumes nothing.
use Rattle.bits.proofs.Words.{◌&&◌, rules}
use Rattle.writer.specs.Plans.{alone_head}
use Rattle.pens.proofs.Numbers.{of_struct, is_absent}
use Rattle.writer.proofs.plan.alone_fits.Statement.{statement}
use Rattle.writer.proofs.plan.alone_fits.Tie as tie

returns : tie.Need-returns
unfolding alone_head
returns c =
    let t3 = c.before.before in
    let t2 = t3.before.before in
    let t1 = t2 in
    let h = t1.args.head in
    let a = of_struct is_absent h.a t2.struct_told-1.given.1.1.1.1.1.0.1 t2.is_absent.ensures in
    let b = of_struct is_absent h.b t3.struct_told-2-1.given.1.1.1.1.1.1.0.1 t3.is_absent-2.ensures in
    let d = of_struct is_absent h.c c.struct_told-3-1.given.1.1.1.1.1.1.1.0.1 c.is_absent-3.ensures in
    λ i. t1.common_fits.ensures i && (a i && (b i && d i))

pub alone_fits_spec : {M : Type 1} → statement M
alone_fits_spec = tie.close (tie.spec (λ c κs. search rules) (λ c κs. search rules) (λ c κs. search rules) (λ c κs. search rules) returns)
