-- `adoption::grow::equal` meets its contract. The loop's invariant: the strips stored and those that are left. Assumes nothing.
use Rattle.bits.proofs.Words.{◌≡◌, refl, sym, suc, ◌+◌, ◌-◌, ◌≤◌, arith, rules}
use native.Mathlib.Nat.{sub-zero, add-zero}
use lib.ListN.{replicate}
use Rattle.adoption.proofs.Strips.{Filling, one_filled}
use Rattle.adoption.proofs.grow.equal.Statement.{statement}
use Rattle.adoption.proofs.grow.equal.Tie as tie

abbrev invariant-loop-i : tie.invariant-loop-i
invariant-loop-i strips₀ from n strip i₀ strips i = (i ≤ n) × Filling strips₀ from (replicate n strip) strips (from + i) (replicate (n - i) strip)

abbrev decreases-loop-i : tie.decreases-loop-i
decreases-loop-i strips₀ from n strip i₀ strips i = n - i

loop-again : tie.Need-loop-i-preserved invariant-loop-i decreases-loop-i
loop-again c =
    let x = c.args in
    let l = c.loop-i in
    let left : x.n - l.i ≡ suc (x.n - (l.i + 1)) = omega arith in
    let next : x.from + (l.i + 1) ≡ suc (x.from + l.i) = omega arith in
    (omega arith, rw next (one_filled (rw left at l.invariant.1)))

pub equal_spec : {M : Type 1} → statement M
equal_spec =
    tie.close
    (tie.spec invariant-loop-i decreases-loop-i (λ c. (omega arith, rw (add-zero, sub-zero) (record { same = refl; room = refl }))) (λ c. search rules) (λ c. search rules)
    (λ c. search rules) (λ c. search rules) (λ c. search rules) loop-again (λ c. search rules)
    (λ c. let l = c.loop-i in let none : c.args.n - l.i ≡ 0 = omega arith in sym (rw none at l.invariant.1).same))
