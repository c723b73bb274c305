use Rattle.bits.proofs.Words.{ap, List, ℕ, suc, ◌≤◌, add-one, arith, get_or, drop}
use lib.Count.{ones, ones-le}
use lib.Seq.{drop-cons}
use Rattle.bits.specs.BitLists.{spell}
use Rattle.format.specs.Lengths.{total}
use Rattle.format.specs.Masks.{pick}
use Rattle.body.proofs.Selected.{pick_set, pick_clear, pick_over}
use Rattle.body.proofs.cells.count.Goals as goal
use Rattle.body.proofs.cells.count.Goals.{then-marks-ge-FIRST, else-marks-ge-FIRST}

pub loop-strip-preserved : goal.loop-strip-preserved
unfolding total
loop-strip-preserved c =
    let l = c.loop-strip in
    let strip = get_or c.args.strips.now l.strip-index 0 in
    let behind = drop (suc l.strip-index) c.args.strips.now in
    let next = ap (λ (x : List ℕ). total ones (pick (spell 64 l.marks) x)) (drop-cons c.args.strips.now l.strip-index 0 c.loop-strip-test.true) in
    let few : ones strip ≤ 64 = ones-le 64 strip (omega (arith, c.type_inv.strips l.strip-index)) in
    rw (add-one l.strip-index) (elim c.if-marks-ge-FIRST.branch [
      | then-marks-ge-FIRST w ↦
          (omega (arith, few), omega (arith, next, ap (total ones) (pick_set l.marks strip behind w.if-marks-ge-FIRST.true l.auto.marks-fits.fits)))
      | else-marks-ge-FIRST w ↦
          (omega arith, omega (arith, next, ap (total ones) (pick_clear l.marks strip behind w.if-marks-ge-FIRST.false)))
    ])

pub returns : goal.returns
unfolding total
returns c = omega (arith, ap (total ones) (pick_over c.loop-strip.marks c.loop-strip.strip-index c.args.strips.now c.loop-strip-test.false))
