-- `holding::testing::slots_empty` meets its contract. The loop's invariant: nothing is gathered just if the slots are empty from the i-th on.
-- Assumes nothing.
use Rattle.bits.proofs.Words.{◌≡◌, sym, ◌∙◌, false, suc, ◌-◌, ◌^◌, ◌≤◌, ◌<◌, arith, rules, eqb, length, get_or, drop}
use native.Mathlib.Nat.{sub_self}
use lib.Bits.{bit_or, or_lt}
use Rattle.holding.specs.Testing.{empty_slots}
use Rattle.holding.proofs.Fitting.{empty_slot}
use Rattle.holding.proofs.Noughts.{gather_slot, flag_small}
use Rattle.holding.proofs.testing.slots_empty.Statement.{statement}
use Rattle.holding.proofs.testing.slots_empty.Tie as tie

abbrev invariant-loop-i : tie.invariant-loop-i
invariant-loop-i ids satellites signals flags from wide₀ half₀ thin₀ i₀ wide half thin i =
    (from ≤ i) × (i ≤ length ids) × (half < 2 ^ 64) × (thin < 2 ^ 64)
    × (empty_slots (length ids - i) (drop i ids) (drop i satellites) (drop i signals) (drop i flags) ≡ eqb (bit_or wide (bit_or half thin)) 0)

abbrev decreases-loop-i : tie.decreases-loop-i
decreases-loop-i ids satellites signals flags from wide₀ half₀ thin₀ i₀ wide half thin i = i

loop-again : tie.Need-loop-i-preserved invariant-loop-i decreases-loop-i
loop-again c =
    let x = c.args in
    let s = c.loop-i in
    let k = s.i - 1 in
    let next : suc k ≡ s.i = omega arith in
    let here = rw next at (empty_slot x.ids.now x.satellites.now x.signals.now x.flags.now k (omega arith)) in
    let id = get_or x.ids.now k 0 in
    let signals = get_or x.signals.now k 0 in
    let flag = get_or x.flags.now k false in
    let more = gather_slot s.wide s.half s.thin id (get_or x.satellites.now k 0) signals flag in
    let half = or_lt 64 s.half signals s.invariant.2 (omega (arith, c.shared_slice_known-in-loop-i-1.given k)) in
    let name = or_lt 64 id _ (omega (arith, c.shared_slice_known-in-loop-i-2-1.given k)) (flag_small flag) in
    let thin = or_lt 64 s.thin _ s.invariant.3 name in
    (omega arith, omega arith, half, thin, here ∙ rw s.invariant.4 more)

pub slots_empty_spec : {M : Type 1} → statement M
unfolding empty_slots
slots_empty_spec =
    tie.close
    (tie.spec invariant-loop-i decreases-loop-i (λ c. (omega arith, omega arith, omega arith, omega arith, rw sub_self)) (λ c. omega arith) (λ c. search rules) (λ c. search rules)
    (λ c. search rules) (λ c. search rules) (λ c. search rules) (λ c. search rules) (λ c. search rules) (λ c. omega arith) loop-again
    (λ c. record { fits = c.loop-i.invariant.2 }) (λ c. record { fits = c.loop-i.invariant.3 })
    (λ c. let all : c.loop-i.i ≡ c.args.from = omega arith in sym (rw all at c.loop-i.invariant.4)))
