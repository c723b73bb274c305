-- `body::satellites::up_to_galileo` meets its contract. The loop's invariant: the last one is none of the slots passed. Assumes nothing.
use Rattle.bits.proofs.Words.{◌≡◌, refl, sym, ap, ◌∙◌, suc, ◌-◌, ◌≤◌, arith, length, get_or}
use borrow.Author.Tests.{eq-eqb, ne_eqb}
use Rattle.body.specs.Chosen.{up_to_galileo}
use Rattle.body.proofs.satellites.up_to_galileo.Statement.{statement}
use Rattle.body.proofs.satellites.up_to_galileo.Tie as tie

abbrev invariant-loop-n : tie.invariant-loop-n
invariant-loop-n ids n₀ n = (n ≤ length ids) × (up_to_galileo ids (length ids) ≡ up_to_galileo ids n)

abbrev decreases-loop-n : tie.decreases-loop-n
decreases-loop-n ids n₀ n = n

returns-then-ids-n-eq-GALILEO : tie.Need-returns-then-ids-n-eq-GALILEO invariant-loop-n decreases-loop-n
unfolding up_to_galileo
returns-then-ids-n-eq-GALILEO c =
    let ids = c.args.ids.now in
    let s = c.loop-n in
    let here : s.n ≡ suc (s.n - 1) = omega arith in
    sym (s.invariant.1 ∙ ap (up_to_galileo ids) here ∙ rw (eq-eqb (get_or ids (s.n - 1) 0) 2 c.if-ids-n-eq-GALILEO.true) (sym here))

loop-again : tie.Need-loop-n-preserved invariant-loop-n decreases-loop-n
unfolding up_to_galileo
loop-again c =
    let ids = c.args.ids.now in
    let s = c.loop-n in
    let here : s.n ≡ suc (s.n - 1) = omega arith in
    (omega (arith, s.invariant.0), s.invariant.1 ∙ ap (up_to_galileo ids) here ∙ rw (ne_eqb (get_or ids (s.n - 1) 0) 2 c.if-ids-n-eq-GALILEO.false))

pub up_to_galileo_spec : {M : Type 1} → statement M
unfolding up_to_galileo
up_to_galileo_spec =
    tie.close
    (tie.spec invariant-loop-n decreases-loop-n (λ c. (omega arith, refl)) (λ c. omega arith) (λ c. omega (arith, c.loop-n.invariant.0)) returns-then-ids-n-eq-GALILEO (λ c. omega arith)
    (λ c. omega arith) loop-again (λ c. let none : c.loop-n.n ≡ 0 = omega arith in sym (c.loop-n.invariant.1 ∙ rw none)))
