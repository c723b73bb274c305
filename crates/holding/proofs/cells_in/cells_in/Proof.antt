-- `holding::cells_in::cells_in` meets its contract. The loop's invariant: the cells of the strips passed, four each time. Assumes nothing.
use Rattle.bits.proofs.Words.{◌≡◌, refl, ap, ◌∙◌, ℕ, ◌+◌, ◌-◌, ◌*◌, ◌≤◌, arith, take}
use Rattle.format.specs.Lengths.{total}
use Rattle.holding.specs.Building.{ones_in}
use Rattle.holding.proofs.Counts.{ones_part, ones_past}
use Rattle.holding.proofs.cells_in.cells_in.Statement.{statement}
use Rattle.holding.proofs.cells_in.cells_in.Tie as tie

abbrev invariant-loop-k : tie.invariant-loop-k
invariant-loop-k strips n cells₀ k₀ cells k = (k ≤ 16) × (cells ≤ 64 * k) × (cells ≡ ones_in (take (4 * k) strips))

abbrev decreases-loop-k : tie.decreases-loop-k
decreases-loop-k strips n cells₀ k₀ cells k = 16 - k

loop-again : tie.Need-loop-k-preserved invariant-loop-k decreases-loop-k
loop-again c =
    let x = c.args in
    let s = c.loop-k in
    let next : 4 * (s.k + 1) ≡ 4 * s.k + 4 = omega arith in
    let more = ap (λ (j : ℕ). ones_in (take j x.strips.now)) next ∙ ones_part x.strips.now (4 * s.k) 4 in
    (omega arith, omega arith, omega (arith, more, c.cells_of_four-cells.ensures.0))

pub cells_in_spec : {M : Type 1} → statement M
unfolding total
cells_in_spec =
    tie.close
    (tie.spec invariant-loop-k decreases-loop-k (λ c. (omega arith, omega arith, refl)) (λ c. omega arith) (λ c. omega arith) (λ c κs. omega arith) (λ c. omega arith)
    (λ c. omega arith) (λ c. omega arith) loop-again
    (λ c. let x = c.args in let s = c.loop-k in s.invariant.2 ∙ ones_past x.strips.now x.n (4 * s.k) (omega arith) c.requires.2))
