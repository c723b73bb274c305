-- `writer::message::mask_fits` meets its contract: its tests, each as the head has the number. Assumes nothing.
use Rattle.bits.proofs.Words.{Bool, ◌&&◌, rules, eqb, pos, ℤ}
use Rattle.format.specs.Same.{sameℤ}
use Rattle.writer.specs.Written.{mask_right}
use Rattle.pens.proofs.Numbers.{of_struct, is_absent}
use Rattle.writer.proofs.message.mask_fits.Statement.{statement}
use Rattle.writer.proofs.message.mask_fits.Tie as tie

returns : tie.Need-returns
unfolding mask_right
returns c =
    let t3 = c.before.before in
    let t2 = t3.before in
    let t1 = t2 in
    let x = t1.args in
    let test : ℤ → Bool = λ z. sameℤ z (pos x.systems) in
    let a = of_struct test x.head.a c.struct_told-3-1.given.1.1.1.1.1.0.1 c.is.ensures in
    let b = of_struct is_absent x.head.b t1.struct_told-1.given.1.1.1.1.1.1.0.1 t1.is_absent.ensures in
    let d = of_struct is_absent x.head.c t2.struct_told-2-1.given.1.1.1.1.1.1.1.0.1 t2.is_absent-2.ensures in
    λ i. t3.common_fits.ensures i && (a i && (b i && (d i && eqb x.count 0)))

pub mask_fits_spec : {M : Type 1} → statement M
mask_fits_spec = tie.close (tie.spec (λ c κs. search rules) (λ c κs. search rules) (λ c κs. search rules) (λ c κs. search rules) returns)
