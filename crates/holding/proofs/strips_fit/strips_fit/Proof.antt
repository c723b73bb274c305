-- `holding::strips_fit::strips_fit` meets its contract. The loop's invariant: the strips passed fit. Assumes nothing.
use Rattle.bits.proofs.Words.{◌≡◌, sym, ◌∙◌, true, ℕ, ◌+◌, ◌-◌, ◌≤◌, arith, rules, take, drop}
use native.Mathlib.Nat.{sub_self}
use Rattle.holding.specs.Bounds.{every}
use Rattle.holding.specs.Testing.{strip_fits, strips_fit}
use Rattle.holding.proofs.Tests.{every_parts, every_fewer}
use Rattle.holding.proofs.strips_fit.strips_fit.Statement.{statement}
use Rattle.holding.proofs.strips_fit.strips_fit.Tie as tie

abbrev invariant-loop-i : tie.invariant-loop-i
invariant-loop-i strips from to signals flag last i₀ i = (from ≤ i) × (i ≤ to) × (strips_fit flag signals (take (i - from) (drop from strips)) ≡ true)

abbrev decreases-loop-i : tie.decreases-loop-i
decreases-loop-i strips from to signals flag last i₀ i = to - i

returns-then-not-four_fit : tie.Need-returns-then-not-four_fit invariant-loop-i decreases-loop-i
returns-then-not-four_fit c =
    let x = c.args in
    let s = c.loop-i in
    let four : s.i + 4 - s.i ≡ 4 = omega arith in
    let over = sym c.four_fit.ensures ∙ c.if-not-four_fit.true in
    let whole = every_parts (strip_fits x.flag x.signals) x.strips.now x.from s.i x.to (omega arith) (omega arith) in
    let next = every_parts (strip_fits x.flag x.signals) x.strips.now s.i (s.i + 4) x.to (omega arith) (omega arith) in
    sym (whole ∙ rw (s.invariant.2, next, four, over))

loop-again : tie.Need-loop-i-preserved invariant-loop-i decreases-loop-i
loop-again c =
    let x = c.args in
    let s = c.loop-i in
    let four : s.i + 4 - s.i ≡ 4 = omega arith in
    let fit = sym c.four_fit.ensures ∙ c.if-not-four_fit.false in
    let next = every_parts (strip_fits x.flag x.signals) x.strips.now x.from s.i (s.i + 4) (omega arith) (omega arith) in
    (omega arith, omega arith, next ∙ rw (s.invariant.2, four, fit))

returns : tie.Need-returns invariant-loop-i decreases-loop-i
returns c =
    let x = c.args in
    let s = c.loop-i in
    let last : ℕ = x.to - 4 in
    let four : x.to - last ≡ 4 = omega arith in
    let passed = every_fewer (strip_fits x.flag x.signals) x.strips.now x.from last s.i (omega arith) (omega arith) s.invariant.2 in
    let whole = every_parts (strip_fits x.flag x.signals) x.strips.now x.from last x.to (omega arith) (omega arith) in
    c.four_fit-2.ensures ∙ sym (whole ∙ rw (passed, four))

pub strips_fit_spec : {M : Type 1} → statement M
unfolding every
strips_fit_spec =
    tie.close
    (tie.spec invariant-loop-i decreases-loop-i (λ c. omega arith) (λ c κs. search rules) (λ c. c.each_fits.ensures) (λ c. omega arith)
    (λ c. (omega arith, omega arith, rw sub_self)) (λ c κs. omega arith) returns-then-not-four_fit (λ c. omega arith) (λ c. omega arith) loop-again (λ c κs. omega arith) returns)
