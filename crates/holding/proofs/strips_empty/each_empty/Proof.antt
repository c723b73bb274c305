-- `holding::strips_empty::each_empty` meets its contract. The loop's invariant: the strips are empty from the first on just if nothing is gathered and they
-- are from the i-th on. Assumes nothing.
use Rattle.bits.proofs.Words.{◌≡◌, refl, sym, ap, ◌∙◌, Bool, ◌&&◌, ◌+◌, ◌-◌, ◌≤◌, add-one, arith, rules, eqb, length, get_or, drop}
use mathlib.Core.Bool.{and-true}
use lib.ListN.{drop_of_length-le}
use Rattle.holding.specs.Bounds.{every}
use Rattle.holding.specs.Testing.{empty_strips}
use Rattle.holding.proofs.Fitting.{empty_strip}
use Rattle.holding.proofs.Noughts.{gather}
use Rattle.holding.proofs.strips_empty.each_empty.Statement.{statement}
use Rattle.holding.proofs.strips_empty.each_empty.Tie as tie

abbrev invariant-loop-i : tie.invariant-loop-i
invariant-loop-i strips from any₀ i₀ any i = (i ≤ length strips) × (empty_strips (drop from strips) ≡ (eqb any 0 && empty_strips (drop i strips)))

abbrev decreases-loop-i : tie.decreases-loop-i
decreases-loop-i strips from any₀ i₀ any i = length strips - i

loop-again : tie.Need-loop-i-preserved invariant-loop-i decreases-loop-i
loop-again c =
    let x = c.args in
    let s = c.loop-i in
    let here = empty_strip x.strips.now s.i (omega arith) in
    let more = gather s.any (get_or x.strips.now s.i 0) (empty_strips (drop (s.i + 1) x.strips.now)) in
    (omega arith, s.invariant.1 ∙ ap (λ (t : Bool). eqb s.any 0 && t) (here ∙ rw (← (add-one s.i))) ∙ more)

returns : tie.Need-returns invariant-loop-i decreases-loop-i
unfolding every
returns c =
    let x = c.args in
    let all : length x.strips.now ≤ c.loop-i.i = omega arith in
    sym (c.loop-i.invariant.1 ∙ rw (drop_of_length-le x.strips.now all) (and-true _))

pub each_empty_spec : {M : Type 1} → statement M
each_empty_spec =
    tie.close
    (tie.spec invariant-loop-i decreases-loop-i (λ c. (omega arith, refl)) (λ c. search rules) (λ c. omega arith) (λ c. omega arith) (λ c. omega arith) loop-again
    returns)
