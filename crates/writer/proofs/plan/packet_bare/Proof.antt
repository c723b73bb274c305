-- `writer::plan::packet_bare` meets its contract: its tests, each as the head has the number. Assumes nothing.
use Rattle.bits.proofs.Words.{◌&&◌, rules}
use Rattle.writer.specs.Plans.{packet_bare}
use Rattle.pens.proofs.Numbers.{of_struct, is_absent}
use Rattle.writer.proofs.plan.packet_bare.Statement.{statement}
use Rattle.writer.proofs.plan.packet_bare.Tie as tie

returns : tie.Need-returns
unfolding packet_bare
returns c =
    let t3 = c.before.before in
    let t2 = t3.before.before in
    let t1 = t2 in
    let h = t1.args.head in
    let epoch = of_struct is_absent h.epoch t1.struct_told-1.given.1.0.1 t1.is_absent.ensures in
    let interval = of_struct is_absent h.interval t2.struct_told-2-1.given.1.1.0.1 t2.is_absent-2.ensures in
    let iod = of_struct is_absent h.iod t3.struct_told-3-1.given.1.1.1.1.0.1 t3.is_absent-3.ensures in
    let network = of_struct is_absent h.c c.struct_told-4-1.given.1.1.1.1.1.1.1.0.1 c.is_absent-4.ensures in
    λ i. epoch i && (interval i && (iod i && network i))

pub packet_bare_spec : {M : Type 1} → statement M
packet_bare_spec = tie.close (tie.spec (λ c κs. search rules) (λ c κs. search rules) (λ c κs. search rules) (λ c κs. search rules) returns)
