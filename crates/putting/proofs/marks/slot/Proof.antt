-- `putting::marks::slot` meets its contract. The loop's invariant: the satellites that are left come to the same from here. Assumes nothing.
use Rattle.bits.proofs.Words.{◌≡◌, refl, ap, ℕ, suc, ◌+◌, ◌-◌, ◌^◌, ◌≤◌, ◌<◌, arith, rules, length}
use lib.Count.{count_leading_zeros}
use Rattle.body.proofs.Slots.{Next, next, next_in, none_in}
use Rattle.holding.specs.Held.{satellites_in}
use Rattle.putting.specs.Marking.{told_after, owns_from}
use Rattle.putting.proofs.Marking.{Telling, telling_start, telling_next, telling_end}
use Rattle.putting.proofs.marks.slot.Statement.{statement}
use Rattle.putting.proofs.marks.slot.Tie as tie

abbrev invariant-loop-left : tie.invariant-loop-left
invariant-loop-left id mask strips cells rows left₀ on₀ left on =
    let sats = satellites_in 64 id mask in
    (left < 2 ^ 64) × Telling rows cells strips (told_after rows (owns_from cells strips on₀ sats) sats on₀) (satellites_in 64 id left) on

abbrev decreases-loop-left : tie.decreases-loop-left
decreases-loop-left id mask strips cells rows left₀ on₀ left on = left

module _ (c : tie.In-loop-left invariant-loop-left decreases-loop-left) (rest : ℕ) (e : rest ≡ c.loop-left.left - 2 ^ (63 - count_leading_zeros 64 c.loop-left.left)) where
  fewer : Next c.loop-left.left rest
  fewer = next c.loop-left.left rest c.loop-left-test.true c.loop-left.invariant.0 e

loop-holds : tie.Need-loop-left-init invariant-loop-left decreases-loop-left
loop-holds c =
    let s = c in
    (s.ranges.mask.fits, telling_start s.args.cells (satellites_in 64 s.args.id s.args.mask) s.requires.0 s.requires.1)

-- the next satellite has a strip
striped : (c : tie.In-loop-left invariant-loop-left decreases-loop-left) → count_leading_zeros 64 c.loop-left.on.next < length c.args.strips.now
striped c =
    let l = c.loop-left in
    omega (arith, l.invariant.1.covers.striped, ap length (next_in l.left _ c.loop-left-test.true l.invariant.0 refl c.args.id))

-- its number is small
near : (c : tie.After-first invariant-loop-left decreases-loop-left) → c.first.result + 1 ≤ 255
near c = omega (arith, (fewer c.before.before _ refl).inside, c.first.ensures)

loop-again : tie.Need-loop-left-preserved invariant-loop-left decreases-loop-left
loop-again c =
    let f = c.before.before in
    let p = f.before.before in
    let s = p.args in
    let l = p.loop-left in
    let e = c.rest-left.ensures in
    let number : f.first.result + 1 ≡ suc (count_leading_zeros 64 l.left) = omega (arith, f.first.ensures) in (
      omega (arith, (fewer p _ e).fewer, l.invariant.0),
      rw (c.satellite-on.ensures, number, f.own_rows-own.ensures.0) (telling_next l.invariant.1 _ _ (next_in l.left _ p.loop-left-test.true l.invariant.0 e s.id)),
    )

pub slot_spec : {M : Type 1} → statement M
slot_spec =
    tie.close
    (tie.spec invariant-loop-left decreases-loop-left loop-holds (λ c κs. striped c) (λ c κs. search rules) (λ c. omega (arith, near c))
    (λ c κs. (c.loop-left.invariant.1.tells, near c, c.own_rows-own.ensures.1)) (λ c κs. search rules)
    (λ c. (fewer c.before.before.before.before _ c.rest-left.ensures).fewer) loop-again
    (λ c. telling_end c.loop-left.invariant.1 (none_in c.args.id (omega arith))))
