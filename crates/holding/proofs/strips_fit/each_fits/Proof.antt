-- `holding::strips_fit::each_fits` meets its contract. The loop's invariant: the strips fit from the first on just if they do from the i-th on.
-- Assumes nothing.
use Rattle.bits.proofs.Words.{◌≡◌, refl, sym, ◌∙◌, ℕ, ◌-◌, ◌≤◌, add-one, arith, rules, take, drop}
use native.Mathlib.Nat.{sub_self}
use Rattle.holding.specs.Bounds.{every}
use Rattle.holding.specs.Testing.{strips_fit}
use Rattle.holding.proofs.Fitting.{strip_fit}
use Rattle.holding.proofs.strips_fit.each_fits.Statement.{statement}
use Rattle.holding.proofs.strips_fit.each_fits.Tie as tie

abbrev invariant-loop-i : tie.invariant-loop-i
invariant-loop-i strips from to signals flag i₀ i =
    (i ≤ to) × (strips_fit flag signals (take (to - from) (drop from strips)) ≡ strips_fit flag signals (take (to - i) (drop i strips)))

abbrev decreases-loop-i : tie.decreases-loop-i
decreases-loop-i strips from to signals flag i₀ i = to - i

returns-then-not-strip_fits : tie.Need-returns-then-not-strip_fits invariant-loop-i decreases-loop-i
returns-then-not-strip_fits c =
    let x = c.args in
    let i : ℕ = c.loop-i.i in
    let here = strip_fit x.flag x.signals x.strips.now i x.to (omega arith) (omega arith) in
    let not-here = sym c.strip_fits.ensures ∙ c.if-not-strip_fits.true in
    sym (c.loop-i.invariant.1 ∙ here ∙ rw not-here)

loop-again : tie.Need-loop-i-preserved invariant-loop-i decreases-loop-i
loop-again c =
    let x = c.args in
    let i : ℕ = c.loop-i.i in
    let here = strip_fit x.flag x.signals x.strips.now i x.to (omega arith) (omega arith) in
    let fits-here = sym c.strip_fits.ensures ∙ c.if-not-strip_fits.false in
    (omega arith, c.loop-i.invariant.1 ∙ here ∙ rw (fits-here, add-one i))

pub each_fits_spec : {M : Type 1} → statement M
unfolding every
each_fits_spec =
    tie.close
    (tie.spec invariant-loop-i decreases-loop-i (λ c. (omega arith, refl)) (λ c. search rules) (λ c. search rules)
    (λ c. omega (arith, c.shared_slice_known-in-loop-i-1.given c.loop-i.i)) (λ c κs. search rules) returns-then-not-strip_fits (λ c. omega arith) (λ c. omega arith) loop-again
    (λ c. let x = c.args in let all : c.loop-i.i ≡ x.to = omega arith in sym (c.loop-i.invariant.1 ∙ rw (all, sub_self))))
