use Rattle.std.proofs.Common.{List, ◌≡◌, refl, sym, ap, ap₂, ◌∙◌, ℕ, ◌+◌, ◌*◌, ◌^◌, ◌<◌, ◌≤◌, take, get_or, arith, add-one, get_or-take, length-take-le}
use Rattle.std.proofs.Math.Nat.{pow-suc, one-le-pow, pow-le-pow_right}
use Rattle.format.specs.Text.{char_digit, decimal_value}
use Rattle.text.proofs.Characters.{said_small}
use Rattle.lines.proofs.Counts.{value_next}
use Rattle.lines.proofs.count.number_in.Goals as goal

-- what five characters say at most
least : (sum i : ℕ) → sum < 256 * 16 ^ i → i ≤ 5 → sum < 2 ^ 28
least sum i small few = omega (arith, pow-le-pow_right {n = 16} (omega arith) few)

-- a character more
module _ (c : goal.After-said) where
  abbrev line : List ℕ
  line = c.args.line.now

  abbrev i : ℕ
  i = c.loop-c.c-index

  before : i < c.args.k
  before = omega (arith, length-take-le c.args.k line c.requires.1)

  same : get_or (take c.args.k line) i 0 ≡ get_or line i 0
  same = get_or-take c.args.k line i 0 before

  small : c.said.result < 256
  small = omega (arith, c.said.ensures, said_small (get_or (take c.args.k line) i 0) (omega (arith, same, c.type_inv.line i)))

  next : 10 * c.loop-c.sum + c.said.result < 256 * 16 ^ (i + 1)
  next = rw (add-one i, pow-suc) (omega (arith, small, c.loop-c.invariant.1, one-le-pow i 16 (omega arith)))

pub loop-c-init : goal.loop-c-init
unfolding decimal_value
loop-c-init c = (refl, omega arith)

pub overflow_mul-sum : goal.overflow_mul-sum
overflow_mul-sum c = let l = c.loop-c in omega (arith, least l.sum l.c-index l.invariant.1 (omega (arith, length-take-le c.args.k c.args.line.now c.requires.1)))

pub overflow_add-sum : goal.overflow_add-sum
overflow_add-sum c = omega (arith, small c, least c.loop-c.sum (i c) c.loop-c.invariant.1 (omega (arith, before c)))

pub loop-c-preserved : goal.loop-c-preserved
loop-c-preserved c =
    let value = value_next (line c) (i c) (omega (arith, before c)) in
    (ap₂ (λ (s d : ℕ). 10 * s + d) c.loop-c.invariant.0 (c.said.ensures ∙ ap char_digit (same c)) ∙ sym value ∙ rw (add-one (i c)), next c)

pub returns-clause-upper_bound : goal.returns-clause-upper_bound
returns-clause-upper_bound c = let l = c.loop-c in omega (arith, least l.sum l.c-index l.invariant.1 (omega (arith, length-take-le c.args.k c.args.line.now c.requires.1)))
