-- `bits::rest::zero_from` meets its contract. The loop's invariant: the bits passed are all zero.
-- Assumes nothing.
use Rattle.bits.proofs.Words.{◌≡◌, sym, ap, ◌∙◌, ℕ, ◌-◌, ◌≤◌, arith, rules}
use Prim.Native.Nat.{max}
use borrow.Author.Tests.{eq-eqb, ne_eqb}
use Rattle.bits.specs.Places.{field}
use Rattle.bits.proofs.Fields.{zero_more, zero_part}
use Rattle.bits.proofs.rest.zero_from.Statement.{statement}
use Rattle.bits.proofs.rest.zero_from.Tie as tie

abbrev invariant-loop-at : tie.invariant-loop-at
invariant-loop-at bytes end place at₀ at = (place ≤ at) × (at ≤ max place end) × (field bytes place (at - place) ≡ 0)

abbrev decreases-loop-at : tie.decreases-loop-at
decreases-loop-at bytes end place at₀ at = end - at

returns-then-read_field-ne0 : tie.Need-returns-then-read_field-ne0 invariant-loop-at decreases-loop-at
returns-then-read_field-ne0 c =
    let x = c.args in
    let at : ℕ = c.loop-at.at in
    sym (ne_eqb _ 0 (λ e. c.if-read_field-ne0.true (c.read_field.ensures ∙ zero_part x.bytes.now x.place x.end at c.stride-w.result (omega arith) (omega arith) e)))

loop-again : tie.Need-loop-at-preserved invariant-loop-at decreases-loop-at
loop-again c =
    let x = c.args in
    let at : ℕ = c.loop-at.at in
    let inv = c.loop-at.invariant in
    (omega arith, omega arith, zero_more x.bytes.now x.place at c.stride-w.result (omega arith) inv.2 (sym c.read_field.ensures ∙ c.if-read_field-ne0.false))

returns : tie.Need-returns invariant-loop-at decreases-loop-at
returns c =
    let x = c.args in
    let at : ℕ = c.loop-at.at in
    let whole : x.end - x.place ≡ at - x.place = omega arith in
    sym (eq-eqb _ 0 (ap (field x.bytes.now x.place) whole ∙ c.loop-at.invariant.2))

pub zero_from_spec : {M : Type 1} → statement M
unfolding field
zero_from_spec =
    tie.close
    (tie.spec invariant-loop-at decreases-loop-at
    (λ c. let x = c.args in let none : x.place - x.place ≡ 0 = omega arith in (omega arith, omega arith, ap (field x.bytes.now x.place) none))
    (λ c κs. search rules) (λ c κs. search rules) (λ c κs. omega arith) returns-then-read_field-ne0 (λ c. omega arith) (λ c. omega arith) loop-again returns)
