-- `adoption::spread::spread_strip` meets its contract. The loop's invariant: the strip so far and what the rest of the mask makes of the rest of the bits
-- are the whole strip.
-- Assumes nothing.
use Rattle.bits.proofs.Words.{◌≡◌, ◌+◌, ◌^◌, ◌<◌, arith}
use Rattle.adoption.proofs.Bitwise.{spread_of, spread_lt, spread_none, Next, next}
use Rattle.adoption.proofs.spread.spread_strip.Statement.{statement}
use Rattle.adoption.proofs.spread.spread_strip.Tie as tie

abbrev invariant-loop-left : tie.invariant-loop-left
invariant-loop-left signals bits left₀ more₀ strip₀ left more strip = (left < 2 ^ 16) × (strip + spread_of 16 left more ≡ spread_of 16 signals bits)

abbrev decreases-loop-left : tie.decreases-loop-left
decreases-loop-left signals bits left₀ more₀ strip₀ left more strip = left

-- what the loop's body does to the strip, and that the whole strip fits
module _ (c : tie.In-loop-left invariant-loop-left decreases-loop-left) where
  step : Next 16 c.loop-left.left c.loop-left.more
  step = next 16 c.loop-left.left c.loop-left.more (omega arith) c.loop-left.invariant.0

  small : spread_of 16 c.args.signals c.args.bits < 2 ^ 16
  small = spread_lt 16 c.args.signals c.args.bits

pub spread_strip_spec : {M : Type 1} → statement M
unfolding spread_of
spread_strip_spec =
    tie.close
    (tie.spec invariant-loop-left decreases-loop-left (λ c. (omega arith, omega arith)) (λ c. omega arith) (λ c. omega (arith, (step c).less)) (λ c. omega (arith, (step c).strip, small c))
    (λ c. omega (arith, (step c).strip, small c)) (λ c. (step c).less) (λ c. (omega (arith, (step c).less), omega (arith, (step c).strip)))
    (λ c. omega (arith, spread_lt 16 c.args.signals c.args.bits))
    (λ c. let none : c.loop-left.left ≡ 0 = omega arith in let e = rw none at c.loop-left.invariant.1 in omega (arith, e, spread_none c.loop-left.more)))
