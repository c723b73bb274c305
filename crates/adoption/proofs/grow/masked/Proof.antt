-- `adoption::grow::masked` meets its contract. The loop's invariant: the strips stored and their ones, those that are left, and that their bits are there.
-- Assumes nothing.
use Rattle.bits.proofs.Words.{◌≡◌, refl, sym, ap, ◌∙◌, ◌∷◌, ℕ, suc, ◌+◌, ◌-◌, ◌*◌, ◌%◌, ◌^◌, ◌≤◌, ◌<◌, arith, rules, length, get_or}
use native.Mathlib.Nat.{add-zero, sub-zero, suc-mul}
use lib.Count.{ones, ones-le}
use Rattle.adoption.specs.Growing.{Sees}
use Rattle.adoption.specs.Spreading.{strip_of}
use Rattle.adoption.proofs.Bitwise.{spread_of, spread_lt}
use Rattle.adoption.proofs.Strips.{strips_at, window_sees, seen_field, Filling, one_filled, next_strip}
use Rattle.bits.specs.Places.{field}
use Rattle.format.specs.Lengths.{total}
use Rattle.holding.specs.Building.{ones_in}
use Rattle.holding.specs.Pictures.{strips_from}
use Rattle.adoption.proofs.grow.masked.Statement.{statement}
use Rattle.adoption.proofs.grow.masked.Tie as tie

abbrev invariant-loop-i : tie.invariant-loop-i
invariant-loop-i strips₀ from n signals bytes place w four table at₀ window₀ sum₀ i₀ strips at window sum i =
    (i ≤ n) × Sees bytes window at × (at ≤ place + 16 * i) × (at + (n - i) * ones signals ≤ 8 * length bytes)
    × (sum ≤ 16 * i) × (sum + ones_in (strips_at bytes at (n - i) signals) ≡ ones_in (strips_at bytes place n signals))
    × Filling strips₀ from (strips_at bytes place n signals) strips (from + i) (strips_at bytes at (n - i) signals)

abbrev decreases-loop-i : tie.decreases-loop-i
decreases-loop-i strips₀ from n signals bytes place w four table at₀ window₀ sum₀ i₀ strips at window sum i = n - i

loop-holds : tie.Need-loop-i-init invariant-loop-i decreases-loop-i
loop-holds c =
    (omega arith, record { before = omega arith; bits = c.window_at.ensures }, omega arith, rw sub-zero c.requires.2, omega arith, rw sub-zero (omega arith), rw (add-zero, sub-zero) (record { same = refl; room = refl }))

-- a strip has few bits
few : (c : tie.After-count-w invariant-loop-i decreases-loop-i) → c.count-w.result ≤ 16
few c = rw c.count-w.ensures (ones-le 16 c.args.signals c.ranges.signals.fits)

-- the bits of the next strip
module _ (c : tie.In-loop-i invariant-loop-i decreases-loop-i) where
  abbrev counted : tie.After-count-w invariant-loop-i decreases-loop-i
  counted = c.before.before.before.before.before

  abbrev s : tie.Start invariant-loop-i decreases-loop-i
  s = counted.before.before.before

  abbrev more : ℕ
  more = s.args.n - (c.loop-i.i + 1)

  one_more : s.args.n - c.loop-i.i ≡ suc more
  one_more = omega arith

  there : c.loop-i.at + counted.count-w.result + more * ones s.args.signals ≤ 8 * length s.args.bytes.now
  there = omega (arith, counted.count-w.ensures, rw (one_more, suc-mul) at c.loop-i.invariant.3)

-- the window has them
seen : (c : tie.After-window_for-window invariant-loop-i decreases-loop-i) → let r = c.window_for-window.result in
    let at = c.loop-i.at in Sees (s c.before).args.bytes.now r at × (at - r.from + (counted c.before).count-w.result < 64)
seen c =
    let l = c.loop-i in
    window_sees (s c.before).args.bytes.now l.window l.at _ (few (counted c.before)) l.invariant.1 c.window_for-window.ensures

-- the next strip, of the last four bits and the others
module _ (c : tie.After-spread_strip invariant-loop-i decreases-loop-i) where
  abbrev l : tie.In-loop-i invariant-loop-i decreases-loop-i
  l = c.before.before.before.before

  abbrev signals : ℕ
  signals = (s l).args.signals

  abbrev bits : ℕ
  bits = c.cut-bits.result

  whole : get_or l.last_four-four.result.strips (bits % 16) 0 + c.spread_strip.result ≡ strip_of signals bits
  whole = omega (arith, c.spread_strip.ensures, l.last_four-four.ensures.apart bits)

  small : strip_of signals bits < 2 ^ 16
  unfolding spread_of
  small = spread_lt 16 signals bits

  is_field : bits ≡ field (s l).args.bytes.now l.loop-i.at (counted l).count-w.result
  is_field =
      let w = seen c.before.before.before in
      seen_field (s l).args.bytes.now _ l.loop-i.at _ _ w.0 w.1 c.cut-bits.ensures

  -- it has few ones
  some : ones (get_or l.last_four-four.result.strips (bits % 16) 0 + c.spread_strip.result) ≤ 16
  some = rw whole (ones-le 16 (strip_of signals bits) small)

loop-again : tie.Need-loop-i-preserved invariant-loop-i decreases-loop-i
unfolding total
loop-again c =
    let p = l c.before in
    let x = (s p).args in
    let at = p.loop-i in
    let w = (counted p).count-w.result in
    let seen = seen c.before.before.before.before in
    let first = next_strip x.bytes.now (more p) at.at x.signals w (counted p).count-w.ensures (s p).ranges.signals.fits (omega (arith, there p)) in
    let e : strips_at x.bytes.now at.at (x.n - at.i) x.signals ≡ _ ∷ strips_at x.bytes.now (at.at + w) (more p) x.signals =
    rw (one_more p) first ∙ ap (λ (b : ℕ). b ∷ strips_at x.bytes.now (at.at + w) (more p) x.signals) (sym (whole c.before ∙ ap (strip_of x.signals) (is_field c.before))) in
    let next : x.from + (at.i + 1) ≡ suc (x.from + at.i) = omega arith in
    let few = few (counted p) in
    (omega arith, record { before = omega (arith, seen.0.before); bits = seen.0.bits }, omega arith, omega (arith, (counted p).count-w.ensures, there p), omega (arith, c.count-sum.ensures, some c.before), omega (arith, c.count-sum.ensures, ap ones_in e, at.invariant.5), rw next (one_filled (rw e at at.invariant.6)))

returns : tie.Need-returns invariant-loop-i decreases-loop-i
unfolding strips_from total
returns c =
    let l = c.loop-i in
    let none : c.args.n - l.i ≡ 0 = omega arith in
    ((omega (arith, rw none at l.invariant.5), omega arith), sym (rw none at l.invariant.6).same)

pub masked_spec : {M : Type 1} → statement M
masked_spec =
    tie.close
    (tie.spec invariant-loop-i decreases-loop-i (λ c κs. search rules) (λ c κs. search rules) (λ c κs. omega arith) (λ c. omega arith) loop-holds
    (λ c κs. (few (counted c), omega (arith, c.loop-i.invariant), c.loop-i.invariant.1.before)) (λ c. (seen c.before).0.before) (λ c κs. (seen c.before).1)
    (λ c. omega arith) (λ c. omega arith) (λ c κs. search rules) (λ c. omega (arith, whole c, small c)) (λ c. omega arith) (λ c. omega arith) (λ c. omega (arith, (l c).loop-i.invariant.6.room)) (λ c. omega (arith, whole c, small c)) (λ c κs. search rules)
    (λ c. omega (arith, c.count-sum.ensures, some c.before)) (λ c. omega (arith, few (counted (l c.before)))) (λ c. omega arith)
    (λ c. omega arith) loop-again (λ c. c.loop-i.invariant.6.room) returns)
