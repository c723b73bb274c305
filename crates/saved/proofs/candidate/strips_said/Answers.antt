use Rattle.std.proofs.Common.{◌≤◌, ◌<◌, ◌^◌, arith}
use lib.Count.{ones-le}
use Rattle.saved.proofs.StripsSaid.{strip_stored, strips_stored}
use Rattle.saved.proofs.candidate.strips_said.Goals as goal

pub loop-i-preserved : goal.loop-i-preserved
loop-i-preserved c =
    let small : c.args.s.signals < 2 ^ 16 = omega (arith, c.well_formed) in
    let strip = c.strip_said-strip.result in
    let narrow : c.count-w.result ≤ 16 = omega (arith, c.count-w.ensures, ones-le 16 c.args.s.signals small) in
    let few : c.count-cells.result ≤ 16 = omega (arith, c.count-cells.ensures, ones-le 16 strip (omega arith)) in
    strip_stored c.loop-i.invariant (omega arith) c.strip_said-strip.ensures c.count-w.ensures narrow c.count-cells.ensures few

pub returns-clause-value : goal.returns-clause-value
returns-clause-value c =
    let most : c.loop-i.cells ≤ 1024 = omega arith in
    rw (← c.count-n.ensures) ((strips_stored c.loop-i.invariant (omega arith)).0, most)

pub returns-clause-strips_after : goal.returns-clause-strips_after
returns-clause-strips_after c = rw (← c.count-n.ensures) (strips_stored c.loop-i.invariant (omega arith)).1
