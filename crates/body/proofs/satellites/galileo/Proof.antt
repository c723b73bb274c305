-- `body::satellites::galileo` meets its contract. The loop's invariant: with those of the slots that are left it is the whole.
-- Assumes nothing.
use Rattle.bits.proofs.Words.{◌≡◌, Bool, true, false, cond, List, ℕ, suc, ◌+◌, ◌-◌, ◌*◌, ◌/◌, ◌%◌, ◌^◌, ◌≤◌, ◌<◌, add-one, arith, rules, eqb, length, get_or, drop}
use native.Mathlib.Nat.{mod-lt}
use borrow.Author.Tests.{eq-eqb, ne_eqb}
use lib.Count.{ones}
use Rattle.bits.specs.BitLists.{spell}
use Rattle.format.proofs.Picks.{pick_few}
use Rattle.format.specs.Masks.{pick}
use Rattle.body.specs.Chosen.{galileos}
use Rattle.body.proofs.Sizes.{few_galileos, past_galileo, slot_galileos, no_galileos}
use Rattle.body.proofs.Slots.{from_slot, Slot, slot_at}
use Rattle.body.proofs.satellites.galileo.Lts.{then-ids-i-eq-GALILEO, else-ids-i-eq-GALILEO}
use Rattle.body.proofs.satellites.galileo.Statement.{statement}
use Rattle.body.proofs.satellites.galileo.Tie as tie

-- those of the slots from the i-th on
abbrev from : List ℕ → List ℕ → ℕ → ℕ → ℕ
from ids masks marks i = galileos (pick (spell 64 marks) (from_slot ids masks i))

abbrev invariant-loop-i : tie.invariant-loop-i
invariant-loop-i ids masks chosen marks₀ sum₀ end i₀ marks sum i = (marks < 2 ^ 64) × (sum + from ids masks marks i ≡ from ids masks chosen 0) × (i ≤ end)

abbrev decreases-loop-i : tie.decreases-loop-i
decreases-loop-i ids masks chosen marks₀ sum₀ end i₀ marks sum i = end - i

abbrev start : tie.In-loop-i invariant-loop-i decreases-loop-i → tie.Start invariant-loop-i decreases-loop-i
start c = c.before.before.before.before.before

inside : (c : tie.In-loop-i invariant-loop-i decreases-loop-i) → c.loop-i.i < length (start c).args.ids.now
inside c = omega (arith, c.loop-i-test.true, (past_galileo (start c).args.ids.now c.up_to_galileo-end.ensures).0)

slot : (c : tie.In-loop-i invariant-loop-i decreases-loop-i) → Slot (start c).args.ids.now (start c).args.masks.now c.loop-i.i
slot c = slot_at _ _ c.loop-i.i (start c).requires.0.masked (start c).requires.0.thin (inside c)

module _ (c : tie.After-shared_slice_known-in-loop-i-2-1 invariant-loop-i decreases-loop-i) where
  abbrev p : tie.In-loop-i invariant-loop-i decreases-loop-i
  p = c.before.before.before

  abbrev s : tie.Start invariant-loop-i decreases-loop-i
  s = start p

  abbrev marks : ℕ
  marks = p.loop-i.marks

  abbrev n : ℕ
  n = c.count-n.result

  few : n ≤ 40
  few = omega (arith, (slot p).few, (slot p).count, c.count-n.ensures)

  next : (galileo : Bool) → eqb (get_or s.args.ids.now p.loop-i.i 0) 2 ≡ galileo
      → from s.args.ids.now s.args.masks.now marks p.loop-i.i
      ≡ cond galileo 1 0 * ones (marks / 2 ^ (64 - n)) + from s.args.ids.now s.args.masks.now (marks * 2 ^ n % 2 ^ 64) (suc p.loop-i.i)
  next galileo e = rw (← e) (slot_galileos s.args.ids.now s.args.masks.now p.loop-i.i marks n (slot p) p.loop-i.invariant.0 c.count-n.ensures)

overflow_add-sum : tie.Need-overflow_add-sum invariant-loop-i decreases-loop-i
overflow_add-sum c =
    let q = c.before.before in
    let x = (s q).args in
    let most = few_galileos (pick (spell 64 x.chosen) (from_slot x.ids.now x.masks.now 0)) in
    let fewer = pick_few (spell 64 x.chosen) (from_slot x.ids.now x.masks.now 0) in
    omega (arith, most, fewer, (s q).requires.1, (p q).loop-i.invariant.1, next q true (eq-eqb _ 2 c.if-ids-i-eq-GALILEO.true), c.picked-sum.ensures)

loop-again : tie.Need-loop-i-preserved invariant-loop-i decreases-loop-i
loop-again c =
    let q = c.before in
    let l = (p q).loop-i in
    rw (add-one l.i) (
      mod-lt _ (omega arith),
      elim c.if-ids-i-eq-GALILEO.branch [
        | then-ids-i-eq-GALILEO w ↦ omega (arith, l.invariant.1, next q true (eq-eqb _ 2 w.if-ids-i-eq-GALILEO.true), w.picked-sum.ensures, w.sum-is)
        | else-ids-i-eq-GALILEO w ↦ omega (arith, l.invariant.1, next q false (ne_eqb _ 2 w.if-ids-i-eq-GALILEO.false), w.sum-is)
      ],
      (p q).loop-i-test.true,
    )

returns : tie.Need-returns invariant-loop-i decreases-loop-i
returns c =
    let x = c.args in
    let l = c.loop-i in
    let up = c.up_to_galileo-end in
    let last : l.i ≡ up.result = omega (arith, l.invariant.2, c.loop-i-test.false) in
    let gone = no_galileos (drop l.i x.ids.now) (drop l.i x.masks.now) (spell 64 l.marks) (rw last (past_galileo x.ids.now up.ensures).1) in
    omega (arith, l.invariant.1, gone)

pub galileo_spec : {M : Type 1} → statement M
galileo_spec =
    tie.close
    (tie.spec invariant-loop-i decreases-loop-i (λ c κs. search rules) (λ c. (omega arith, omega arith, omega arith)) (λ c. omega (arith, (slot c).inside)) (λ c. (slot c.before).inside) (λ c κs. search rules)
    (λ c. inside c.before.before.before) (λ c κs. omega (arith, few c.before)) overflow_add-sum (λ c. omega (arith, few c.before)) (λ c. omega arith) (λ c. omega arith) loop-again returns)
