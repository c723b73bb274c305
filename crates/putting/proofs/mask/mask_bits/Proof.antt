-- `putting::mask::mask_bits` meets its contract. The loop's invariant, with any strips: what is counted, and the slots that are left. Assumes nothing.
use Rattle.bits.proofs.Words.{◌≡◌, ap, ◌∙◌, true, List, ℕ, ◌-◌, arith, rules}
use Rattle.holding.specs.Outlines.{whole_of}
use Rattle.holding.specs.Pictures.{sound}
use Rattle.saved.proofs.SlotsLeft.{few_slots}
use Rattle.saved.specs.declared.systems.Slot.{Slot}
use Rattle.saved.specs.Slots.{cell_count}
use Rattle.putting.proofs.MaskLengths.{BitsLeft, none_counted, one_counted, counted_few, all_counted}
use Rattle.putting.proofs.mask.mask_bits.Statement.{statement}
use Rattle.putting.proofs.mask.mask_bits.Tie as tie

abbrev invariant-loop-i : tie.invariant-loop-i
invariant-loop-i outline satellites bits₀ i₀ bits i = (strips : List ℕ) → sound (whole_of outline satellites strips) ≡ true → BitsLeft (whole_of outline satellites strips) bits i

abbrev decreases-loop-i : tie.decreases-loop-i
decreases-loop-i outline satellites bits₀ i₀ bits i = outline.count - i

-- with the strips that there are
module _ (c : tie.At-loop-i invariant-loop-i decreases-loop-i) where
  abbrev s : tie.Start invariant-loop-i decreases-loop-i
  s = c.before

  here : BitsLeft (whole_of s.args.outline s.args.satellites.now s.requires.strips) c.loop-i.bits c.loop-i.i
  here = c.loop-i.invariant s.requires.strips s.requires.sounds

loop-again : tie.Need-loop-i-preserved invariant-loop-i decreases-loop-i
loop-again c strips on =
    let d = c in
    one_counted (d.loop-i.invariant strips on) d.loop-i-test.true (c.cell_count.ensures.0 ∙ ap (λ (t : Slot). cell_count t) d.slot_in.ensures)

pub mask_bits_spec : {M : Type 1} → statement M
mask_bits_spec =
    tie.close
    (tie.spec
    invariant-loop-i
    decreases-loop-i
    (λ c strips on. none_counted (whole_of c.args.outline c.args.satellites.now strips) on)
    (λ c. search rules)
    (λ c κs. omega (arith, few_slots (here c.before.before).slots))
    (λ c κs. search rules)
    (λ c. omega (arith, c.cell_count.ensures.1))
    (λ c. let p = (s c.before.before.before.before).requires in omega (arith, counted_few (loop-again c p.strips p.sounds)))
    (λ c. omega (arith, few_slots (here c.before.before.before.before).slots))
    (λ c. omega arith)
    loop-again
    (λ c. (λ strips on. all_counted (c.loop-i.invariant strips on) c.loop-i-test.false, counted_few (here c.before.before))))
