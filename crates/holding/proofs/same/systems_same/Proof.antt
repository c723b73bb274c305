-- `holding::same::systems_same` meets its contract. The loop's invariant: the systems are the same just if those passed are and those from the i-th slot on.
-- Assumes nothing.
use Rattle.bits.proofs.Words.{◌≡◌, refl, sym, ◌∙◌, ◌&&◌, ◌-◌, ◌≤◌, arith, rules}
use Rattle.holding.proofs.Compared.{slots_from, Slots, slots_typed, slot_next, slots_end}
use Rattle.holding.proofs.same.systems_same.Statement.{statement}
use Rattle.holding.proofs.same.systems_same.Tie as tie

abbrev invariant-loop-i : tie.invariant-loop-i
invariant-loop-i satellites masks old new same₀ i₀ same i = (i ≤ 5) × (slots_from 0 old satellites new masks ≡ (same && slots_from i old satellites new masks))

abbrev decreases-loop-i : tie.decreases-loop-i
decreases-loop-i satellites masks old new same₀ i₀ same i = 5 - i

module _ (s : tie.Start invariant-loop-i decreases-loop-i) where
  old : Slots s.args.old s.args.satellites.now
  old =
      let lists = s.well_formed.0.1.1.1.1.1.1 in
      slots_typed s.args.old _ lists.0.1.0.1 s.requires.0 lists.1.1.0.1.0.1 lists.1.0.1.0.1

  new : Slots s.args.new s.args.masks.now
  new =
      let lists = s.well_formed.1.1.0.1.1.1.1.1.1 in
      slots_typed s.args.new _ lists.0.1.0.1 s.requires.1 lists.1.1.0.1.0.1 lists.1.0.1.0.1

loop-again : tie.Need-loop-i-preserved invariant-loop-i decreases-loop-i
loop-again c =
    let start = c.before.before.before.before.before.before.before.before.before.before in
    let x = start.args in
    let s = c.loop-i in
    (omega arith, s.invariant.1 ∙ slot_next x.old x.satellites.now x.new x.masks.now (old start) (new start) s.same s.i (omega arith))

returns : tie.Need-returns invariant-loop-i decreases-loop-i
returns c =
    let start = c.before.before in
    let x = start.args in
    let s = c.loop-i in
    sym (s.invariant.1 ∙ slots_end x.old x.satellites.now x.new x.masks.now (old start) (new start) s.same s.i (omega arith))

pub systems_same_spec : {M : Type 1} → statement M
systems_same_spec =
    tie.close
    (tie.spec invariant-loop-i decreases-loop-i (λ c. (omega arith, refl)) (λ c. search rules) (λ c. search rules) (λ c. search rules) (λ c. search rules)
    (λ c. search rules) (λ c. search rules) (λ c. search rules) (λ c. search rules) (λ c. search rules) (λ c. search rules) (λ c. search rules)
    (λ c. search rules) (λ c. search rules) (λ c. search rules) loop-again returns)
