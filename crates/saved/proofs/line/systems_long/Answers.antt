use Rattle.std.proofs.Common.{◌∙◌, ap, arith}
use Rattle.saved.specs.declared.systems.Slot.{Slot}
use Rattle.saved.specs.Slots.{system_long}
use Rattle.saved.proofs.SlotsLeft.{none_long, one_long, all_long, long_few, few_slots}
use Rattle.saved.proofs.line.systems_long.Goals as goal

pub loop-i-init : goal.loop-i-init
loop-i-init c strips sounds = none_long _ sounds

pub slot_in-requires : goal.slot_in-requires
slot_in-requires c = omega (arith, few_slots (c.loop-i.invariant c.requires.strips c.requires.sounds).slots)

pub loop-i-preserved : goal.loop-i-preserved
loop-i-preserved c strips sounds =
    let e = c.system_long-long.ensures in
    one_long (c.loop-i.invariant strips sounds) (omega arith) (e.value ∙ ap (λ (s : Slot). system_long s) c.slot_in.ensures) e.upper_bound

pub returns-clause-by_index : goal.returns-clause-by_index
returns-clause-by_index c strips sounds = all_long (c.loop-i.invariant strips sounds) (omega arith)

pub returns-clause-upper_bound : goal.returns-clause-upper_bound
returns-clause-upper_bound c = long_few (c.loop-i.invariant c.requires.strips c.requires.sounds)
