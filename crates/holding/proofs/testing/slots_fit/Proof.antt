-- `holding::testing::slots_fit` meets its contract. The loop's invariant: the whole test is that of what is left, after the n satellites of the slots
-- passed and the cells of their strips. Assumes nothing.
use Rattle.bits.proofs.Words.{◌≡◌, sym, ◌∙◌, false, ◌&&◌, [], ◌+◌, ◌-◌, ◌≤◌, add-one, arith, rules, eqb, leb, length, get_or, take, drop}
use native.Mathlib.Nat.{sub-zero}
use borrow.Author.Tests.{eq-eqb, ne_eqb}
use lib.Count.{ones}
use Rattle.format.specs.Lengths.{total}
use Rattle.holding.specs.Building.{ones_in}
use Rattle.holding.specs.Testing.{empty_strips, empty_slots, slots_fit}
use Rattle.holding.proofs.Fitting.{fits_few, next_slot, no_slot}
use Rattle.holding.proofs.testing.slots_fit.Statement.{statement}
use Rattle.holding.proofs.testing.slots_fit.Tie as tie

abbrev invariant-loop-i : tie.invariant-loop-i
invariant-loop-i ids satellites signals flags strips count nsat ncell i₀ n₀ i n =
    (i ≤ count) × (n ≤ 64)
    × (slots_fit nsat ncell count [] 0 0 ids satellites signals flags strips
    ≡ slots_fit nsat ncell (count - i) (take i ids) n (ones_in (take n strips)) (drop i ids) (drop i satellites) (drop i signals) (drop i flags) (drop n strips))

abbrev decreases-loop-i : tie.decreases-loop-i
decreases-loop-i ids satellites signals flags strips count nsat ncell i₀ n₀ i n = count - i

returns-then-not-slot_fits : tie.Need-returns-then-not-slot_fits invariant-loop-i decreases-loop-i
returns-then-not-slot_fits c =
    let a = c in
    let x = a.args in
    let s = a.loop-i in
    let next = next_slot x.nsat x.ncell x.count s.n s.i x.ids.now x.satellites.now x.signals.now x.flags.now x.strips.now (omega arith) (omega arith) in
    sym (s.invariant.2 ∙ next ∙ rw (sym c.slot_fits.ensures ∙ c.if-not-slot_fits.true))

-- a slot that fits leaves room for its satellites
few : (c : tie.Else-not-slot_fits invariant-loop-i decreases-loop-i) → let a = c.before.before.before.before.before.before in
    a.loop-i.n + ones (get_or a.args.satellites.now a.loop-i.i 0) ≤ 64
few c =
    let a = c.before.before.before.before.before.before in
    let x = a.args in
    let s = a.loop-i in
    fits_few (take s.i x.ids.now) s.n (get_or x.ids.now s.i 0) (get_or x.satellites.now s.i 0) (get_or x.signals.now s.i 0) (get_or x.flags.now s.i false)
    (drop s.n x.strips.now) (sym c.slot_fits.ensures ∙ c.if-not-slot_fits.false)

loop-again : tie.Need-loop-i-preserved invariant-loop-i decreases-loop-i
loop-again c =
    let a = c in
    let x = a.args in
    let s = a.loop-i in
    let fit = sym c.slot_fits.ensures ∙ c.if-not-slot_fits.false in
    let next = next_slot x.nsat x.ncell x.count s.n s.i x.ids.now x.satellites.now x.signals.now x.flags.now x.strips.now (omega arith) (omega arith) in
    (omega arith, omega (arith, few c.before.before, c.count-n.ensures), s.invariant.2 ∙ next ∙ rw (fit, add-one s.i, c.count-n.ensures))

-- what is left of the test after the last slot
ends : (c : tie.After-loop-i invariant-loop-i decreases-loop-i) → let x = c.args in
    let n = c.loop-i.n in
    slots_fit x.nsat x.ncell x.count [] 0 0 x.ids.now x.satellites.now x.signals.now x.flags.now x.strips.now
    ≡ (eqb n x.nsat && (empty_slots (length x.ids.now - x.count) (drop x.count x.ids.now) (drop x.count x.satellites.now) (drop x.count x.signals.now) (drop x.count x.flags.now)
    && (empty_strips (drop n x.strips.now) && (leb (ones_in (take n x.strips.now)) 256 && eqb (ones_in (take n x.strips.now)) x.ncell))))
ends c =
    let x = c.args in
    let s = c.loop-i in
    s.invariant.2
    ∙ no_slot x.nsat x.ncell x.count s.i s.n (ones_in (take s.n x.strips.now)) (take s.i x.ids.now) x.ids.now x.satellites.now x.signals.now x.flags.now
    (drop s.n x.strips.now) (omega arith)

-- its first two tests hold
ends-in : (c : tie.Else-not-slots_empty invariant-loop-i decreases-loop-i) → let l = c.before.before.before in
    let x = l.args in
    let n = l.loop-i.n in
    slots_fit x.nsat x.ncell x.count [] 0 0 x.ids.now x.satellites.now x.signals.now x.flags.now x.strips.now
    ≡ (empty_strips (drop n x.strips.now) && (leb (ones_in (take n x.strips.now)) 256 && eqb (ones_in (take n x.strips.now)) x.ncell))
ends-in c =
    let l = c.before.before.before in
    let x = l.args in
    let unused = sym c.slots_empty.ensures ∙ c.if-not-slots_empty.false in
    ends l ∙ rw (eq-eqb l.loop-i.n x.nsat c.if-n-nsat.false, unused)

returns-then-not-slots_empty : tie.Need-returns-then-not-slots_empty invariant-loop-i decreases-loop-i
returns-then-not-slots_empty c =
    let a = c in
    let used = sym c.slots_empty.ensures ∙ c.if-not-slots_empty.true in
    sym (ends c.before.before.before ∙ rw (eq-eqb a.loop-i.n a.args.nsat c.if-n-nsat.false, used))

pub slots_fit_spec : {M : Type 1} → statement M
unfolding total
slots_fit_spec =
    tie.close
    (tie.spec invariant-loop-i decreases-loop-i (λ c. (omega arith, omega arith, rw sub-zero)) (λ c. search rules) (λ c. search rules) (λ c. search rules) (λ c. search rules)
    (λ c. search rules) (λ c κs. search rules) returns-then-not-slot_fits (λ c. search rules) (λ c. search rules) (λ c κs. search rules)
    (λ c. omega (arith, few c.before.before, c.count-n.ensures)) (λ c. omega arith) (λ c. omega arith) loop-again
    (λ c. let a = c in sym (ends c.before ∙ rw (ne_eqb a.loop-i.n a.args.nsat c.if-n-nsat.true)))
    (λ c κs. search rules) returns-then-not-slots_empty (λ c κs. search rules)
    (λ c. sym (ends-in c.before.before ∙ rw (sym c.strips_empty.ensures ∙ c.if-not-strips_empty.true)))
    (λ c κs. (omega arith, omega arith, sym c.strips_empty.ensures ∙ c.if-not-strips_empty.false))
    (λ c. sym (ends-in c.before.before.before ∙ rw (sym c.strips_empty.ensures ∙ c.if-not-strips_empty.false) (sym c.cells_fit.ensures))))
