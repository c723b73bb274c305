use Rattle.std.proofs.Common.{arith, drop}
use Rattle.format.specs.Saved.{system_text}
use Rattle.holding.specs.Outlines.{whole_of}
use Rattle.text.proofs.Stores.{wrote, told}
use Rattle.saved.specs.Slots.{system_in}
use Rattle.saved.proofs.SlotsLeft.{few_slots, strips_there, read_low, read_few, none_written, one_room, one_written, all_written}
use Rattle.saved.proofs.line.systems_text.Goals as goal

pub loop-i-init : goal.loop-i-init
loop-i-init c = let a = c.args in none_written a.line.now a.at (whole_of a.outline a.satellites.now a.strips.now) c.requires.0

pub slot_in-slot-requires : goal.slot_in-slot-requires
slot_in-slot-requires c = omega (arith, few_slots c.loop-i.invariant.slots)

pub system-place-requires : goal.system-place-requires
system-place-requires c =
    let l = c.loop-i.invariant in
    let is = c.slot_in-slot.ensures in
    (read_low l.slots (omega arith) is, omega (arith, read_few l.slots (omega arith) is, strips_there l.slots), one_room l (omega arith) is c.requires.1)

pub loop-i-preserved : goal.loop-i-preserved
loop-i-preserved c =
    let text = system_text (system_in c.slot_in-slot.result (drop c.loop-i.from c.args.strips.now)) in
    one_written c.loop-i.invariant (omega arith) c.slot_in-slot.ensures (wrote c.loop-i.line text (c.system-place.ensures.value, c.system-place.ensures.line_after)) c.count-from.ensures

pub returns-clause-value : goal.returns-clause-value
returns-clause-value c = (told (all_written c.loop-i.invariant (omega arith))).0

pub returns-clause-line_after : goal.returns-clause-line_after
returns-clause-line_after c = (told (all_written c.loop-i.invariant (omega arith))).1
