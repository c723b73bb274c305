-- `holding::named::named_in` meets its contract. The loop's invariant: none of those passed is the ID. Assumes nothing.
use Rattle.bits.proofs.Words.{◌≡◌, refl, sym, ap, ◌∙◌, false, ℕ, ◌-◌, ◌≤◌, add-one, arith, take}
use Rattle.format.specs.Messages.{named}
use Rattle.holding.proofs.Names.{named_at, named_more}
use Rattle.holding.proofs.named.named_in.Statement.{statement}
use Rattle.holding.proofs.named.named_in.Tie as tie

abbrev invariant-loop-i : tie.invariant-loop-i
invariant-loop-i ids count id i₀ i = (i ≤ count) × (named id (take i ids) ≡ false)

abbrev decreases-loop-i : tie.decreases-loop-i
decreases-loop-i ids count id i₀ i = count - i

loop-again : tie.Need-loop-i-preserved invariant-loop-i decreases-loop-i
loop-again c =
    let x = c.args in
    let i : ℕ = c.loop-i.i in
    (omega arith, rw (add-one i) (named_more x.id x.ids.now i (omega arith) c.loop-i.invariant.1 c.if-id-ids.false))

pub named_in_spec : {M : Type 1} → statement M
unfolding named
named_in_spec =
    tie.close
    (tie.spec invariant-loop-i decreases-loop-i (λ c. (omega arith, refl)) (λ c. omega arith)
    (λ c. let x = c.args in sym (named_at x.id x.ids.now c.loop-i.i x.count (omega arith) (omega arith) c.if-id-ids.true))
    (λ c. omega arith) (λ c. omega arith) loop-again
    (λ c. let x = c.args in let all : c.loop-i.i ≡ x.count = omega arith in sym (ap (λ (k : ℕ). named x.id (take k x.ids.now)) (sym all) ∙ c.loop-i.invariant.1)))
