-- `putting::marks::has_row` meets its contract. Assumes nothing.
use Rattle.bits.proofs.Words.{◌≡◌, sym, ◌∙◌, true, ◌+◌, arith, rules, ltb, length, get_or, ℤ, pos}
use borrow.Author.Tests.{lt-ltb, le-ltb}
use Rattle.format.specs.Same.{sameℤ}
use Rattle.putting.specs.Marking.{has_row}
use Rattle.pens.proofs.Numbers.{of_struct}
use Rattle.putting.proofs.marks.has_row.Statement.{statement}
use Rattle.putting.proofs.marks.has_row.Tie as tie

returns-then-own-eq0 : tie.Need-returns-then-own-eq0
unfolding has_row
returns-then-own-eq0 c = rw c.if-own-eq0.true

-- it has rows
some : (c : tie.Else-own-eq0) → ltb 0 c.args.own ≡ true
some c = lt-ltb 0 c.args.own (omega (arith, c.if-own-eq0.false))

returns-then-at-rows : tie.Need-returns-then-at-rows
unfolding has_row
returns-then-at-rows c =
    let x = c.args in
    rw (some c.before, le-ltb x.at (length x.rows.now) c.if-at-rows.true)

module _ (c : tie.After-is) where
  abbrev start : tie.Start
  start = c.before.before.before.before

  inside : ltb start.args.at (length start.args.rows.now) ≡ true
  inside = lt-ltb _ _ c.if-at-rows.false

  first : c.is.result ≡ sameℤ (get_or start.args.rows.now start.args.at (pos 0)) (pos start.args.system)
  first = of_struct (λ (v : ℤ). sameℤ v (pos start.args.system)) _ c.is-arg-1.given c.is.ensures

returns-then-not-is : tie.Need-returns-then-not-is
unfolding has_row
returns-then-not-is c =
    let k = c.before in
    rw (some k.before.before.before, inside k, sym (first k) ∙ c.if-not-is.true)

returns : tie.Need-returns
unfolding has_row
returns c =
    let k = c.before.before.before in
    let x = (start k).args in
    rw (some k.before.before.before, inside k, sym (first k) ∙ c.if-not-is.false)
    (of_struct (λ (v : ℤ). sameℤ v (pos x.number)) (get_or x.rows.now (x.at + 1) (pos 0)) c.is-arg-2-1.given c.is-2.ensures)

pub has_row_spec : {M : Type 1} → statement M
has_row_spec =
    tie.close
    (tie.spec returns-then-own-eq0 returns-then-at-rows (λ c. search rules) (λ c. search rules) (λ c κs. search rules) returns-then-not-is (λ c. search rules) (λ c. search rules) (λ c. search rules)
    (λ c κs. search rules) returns)
