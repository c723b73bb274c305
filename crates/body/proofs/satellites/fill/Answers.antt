use Rattle.bits.proofs.Words.{arith}
use lib.ListN.{length-drop}
use Rattle.rows.specs.Shapes.{columns_in}
use Rattle.body.proofs.Groups.{alone_nil}
use Rattle.body.proofs.Turns.{alone_turn, slot_turn_at, slots_over_at}
use Rattle.body.proofs.Walking.{slot_call, slot_passed, slots_end}
use Rattle.body.proofs.satellites.fill.Goals as goal

pub bounds-masks-i : goal.bounds-masks-i
bounds-masks-i c =
    let l = c.loop-i in
    omega (arith, l.invariant.0.masked, length-drop l.i c.args.ids.now, length-drop l.i c.args.masks.now)

pub slot-passed-requires : goal.slot-passed-requires
slot-passed-requires c =
    let l = c.loop-i in
    let turn = slot_turn_at c.args.ids.now c.args.masks.now l.i c.loop-i-test.true l.invariant.0 in
    let asked = c.requires.1 in
    record { formed = asked.formed; kind = asked.kind; room = (slot_call l.marks (alone_turn (columns_in c.args.wanted.shape) turn) l.invariant.1).room }

pub overflow_add-k : goal.overflow_add-k
overflow_add-k c =
    let l = c.loop-i in
    let turn = slot_turn_at c.args.ids.now c.args.masks.now l.i c.loop-i-test.true l.invariant.0 in
    let g = slot_passed l.marks (alone_turn (columns_in c.args.wanted.shape) turn) l.invariant.1 _ _ c.slot-passed.ensures in
    omega (arith, g.count, g.few)

pub loop-i-preserved : goal.loop-i-preserved
loop-i-preserved c =
    let l = c.loop-i in
    let turn = slot_turn_at c.args.ids.now c.args.masks.now l.i c.loop-i-test.true l.invariant.0 in
    (turn.slots, slot_passed l.marks (alone_turn (columns_in c.args.wanted.shape) turn) l.invariant.1 _ _ c.slot-passed.ensures)

pub returns : goal.returns
returns c =
    let l = c.loop-i in
    slots_end l.marks (alone_nil (columns_in c.args.wanted.shape) (slots_over_at c.args.ids.now c.args.masks.now l.i c.loop-i-test.false)) l.invariant.1
