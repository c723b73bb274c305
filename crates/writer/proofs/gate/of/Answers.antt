-- `writer::gate::of` meets its contract. Assumes nothing.
use Rattle.bits.proofs.Words.{ap, pos, cond, ◌&&◌, ℤ}
use Rattle.format.specs.declared.Refusal.TheVariants.{Network}
use Rattle.format.specs.Same.{sameℤ}
use Rattle.writer.specs.declared.gate.Gate.{Gate}
use Rattle.writer.specs.declared.gate.Gate.TheVariants.{Open, Shut}
use Rattle.writer.specs.Kinds.{issue_gate, gate_by}
use Rattle.pens.proofs.Numbers.{of_struct}
use Rattle.writer.proofs.gate.of.Goals as goal

pub returns-in-Masked : goal.returns-in-Masked
unfolding gate_by
returns-in-Masked c =
    let x = c.args in
    let flagged = c.in-Masked.layout.flagged in
    let test : ℤ → Gate = λ z. cond (flagged && sameℤ z (pos 0)) (Shut Network) Open in
    let found = of_struct test x.head.c c.struct_told-1.given.1.1.1.1.1.1.1.0.1 c.network.ensures in
    let behind = ap (issue_gate x.held x.iod x.head) found in
    rw c.in-Masked.is (cc)
