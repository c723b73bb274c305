-- `putting::mask::put_systems` meets its contract. The loop's invariant: what is put out, and the slots that are left. Assumes nothing.
use Rattle.bits.proofs.Words.{◌-◌, arith, rules}
use Rattle.holding.specs.Outlines.{whole_of}
use Rattle.saved.proofs.SlotsLeft.{few_slots, strips_there}
use Rattle.putting.proofs.MaskPens.{SystemsLeft, all_systems, strips_lent, system_room, system_ready, system_passed, systems_put}
use Rattle.putting.proofs.mask.put_systems.Statement.{statement}
use Rattle.putting.proofs.mask.put_systems.Tie as tie

abbrev invariant-loop-i : tie.invariant-loop-i
invariant-loop-i outline satellites strips bytes₀ all behind₀ from₀ i₀ bytes behind from i = SystemsLeft behind₀ bytes₀ (whole_of outline satellites strips) behind bytes from i

abbrev decreases-loop-i : tie.decreases-loop-i
decreases-loop-i outline satellites strips bytes₀ all behind₀ from₀ i₀ bytes behind from i = outline.count - i

strips-inside : tie.Need-slice_bounds-put_system-count invariant-loop-i decreases-loop-i
strips-inside c = let l = c.loop-i.invariant.slots in omega (arith, strips_there l, l.few)

put_system-behind-requires : tie.Need-put_system-behind-requires invariant-loop-i decreases-loop-i
put_system-behind-requires c κs =
    let s = c.before.before in
    let l = s in
    let more = s.loop-i-test.true in
    let lent = strips_lent l.loop-i.invariant in
    (system_room l.loop-i.invariant more s.slot_in-slot.ensures lent, system_ready l.loop-i.invariant more s.slot_in-slot.ensures lent)

loop-again : tie.Need-loop-i-preserved invariant-loop-i decreases-loop-i
loop-again c =
    let p = c.before.before.before in
    let s = p.before.before.before in
    let l = s in
    system_passed l.loop-i.invariant s.loop-i-test.true s.slot_in-slot.ensures (strips_lent l.loop-i.invariant) p.put_system-behind.ensures.0 p.put_system-behind.ensures.1 c.count-from.ensures

pub put_systems_spec : {M : Type 1} → statement M
put_systems_spec =
    tie.close
    (tie.spec
    invariant-loop-i
    decreases-loop-i
    (λ c. let s = c in all_systems (whole_of s.args.outline s.args.satellites.now s.args.strips.now) s.requires.0 s.requires.1)
    (λ c. search rules)
    (λ c κs. omega (arith, few_slots c.loop-i.invariant.slots))
    (λ c. omega (arith, c.loop-i.invariant.slots.few))
    strips-inside
    strips-inside
    (λ c. search rules)
    put_system-behind-requires
    (λ c κs. search rules)
    (λ c. omega (arith, (loop-again c).slots.few))
    (λ c. omega (arith, (loop-again c).slots.few))
    (λ c. search rules)
    loop-again
    (λ c. omega (arith, c.loop-i.invariant.inks.same))
    (λ c. systems_put c.loop-i.invariant c.loop-i-test.false))
