-- `holding::same::cells_same` meets its contract. The loop's invariant: the strips are the same just if those passed are and those from the i-th on.
-- Assumes nothing.
use Rattle.bits.proofs.Words.{◌≡◌, refl, sym, ap, ◌∙◌, Bool, ◌&&◌, ◌-◌, ◌≤◌, arith, rules, eqb, drop}
use mathlib.Core.Bool.{and-true}
use Rattle.format.specs.Same.{same_list}
use Rattle.holding.proofs.Compared.{same_next, same_end}
use Rattle.holding.proofs.Tests.{and_assoc}
use Rattle.holding.proofs.same.cells_same.Statement.{statement}
use Rattle.holding.proofs.same.cells_same.Tie as tie

abbrev invariant-loop-i : tie.invariant-loop-i
invariant-loop-i strips cells same₀ i₀ same i = (i ≤ 64) × (same_list eqb strips cells ≡ (same && same_list eqb (drop i strips) (drop i cells)))

abbrev decreases-loop-i : tie.decreases-loop-i
decreases-loop-i strips cells same₀ i₀ same i = 64 - i

loop-again : tie.Need-loop-i-preserved invariant-loop-i decreases-loop-i
loop-again c =
    let x = c.args in
    let s = c.loop-i in
    let next = same_next eqb 0 x.strips.now x.cells.now s.i (omega arith) (omega arith) in
    (omega arith, s.invariant.1 ∙ ap (λ (t : Bool). s.same && t) next ∙ and_assoc s.same _ _)

returns : tie.Need-returns invariant-loop-i decreases-loop-i
returns c =
    let x = c.args in
    let s = c.loop-i in
    let none = same_end eqb 0 x.strips.now x.cells.now s.i (omega arith) (omega arith) in
    sym (s.invariant.1 ∙ rw none (and-true _))

pub cells_same_spec : {M : Type 1} → statement M
cells_same_spec =
    tie.close
    (tie.spec invariant-loop-i decreases-loop-i (λ c. (omega arith, refl)) (λ c. search rules) (λ c. search rules) (λ c. search rules) (λ c. search rules)
    (λ c. search rules) (λ c. search rules) loop-again returns)
