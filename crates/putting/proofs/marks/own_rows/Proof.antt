-- `putting::marks::own_rows` meets its contract. Assumes nothing.
use Rattle.bits.proofs.Words.{◌≡◌, ap, ◌∙◌, ℕ, ◌<◌, arith, rules, length, get_or}
use lib.Count.{ones, count_leading_zeros, ones-le}
use Rattle.putting.specs.Marking.{own_at}
use Rattle.putting.proofs.marks.own_rows.Statement.{statement}
use Rattle.putting.proofs.marks.own_rows.Tie as tie

returns-then-not-cells : tie.Need-returns-then-not-cells
unfolding own_at
returns-then-not-cells c =
    let x = c.args in
    (rw c.if-not-cells.true, omega arith)

-- where the code multiplies the strip's place by its size, and where it reads it
module _ (c : tie.After-first) where
  abbrev start : tie.Start
  start = c.before.before.before

  inside : c.first.result < length start.args.strips.now
  inside = omega (arith, c.first.ensures, start.requires)

returns : tie.Need-returns
unfolding own_at
returns c =
    let k = c.before in
    let x = (start k.before).args in
    let strip : ℕ = get_or x.strips.now k.first.result 0 in
    let read : c.count.result ≡ ones (get_or x.strips.now (count_leading_zeros 64 x.bit) 0) =
    c.count.ensures ∙ ap (λ (i : ℕ). ones (get_or x.strips.now i 0)) k.first.ensures in (
      rw k.if-not-cells.false read,
      omega (arith, c.count.ensures, ones-le 64 strip (omega (arith, k.shared_slice_known-2-1.given k.first.result))),
    )

pub own_rows_spec : {M : Type 1} → statement M
own_rows_spec = tie.close (tie.spec returns-then-not-cells (λ c κs. search rules) (λ c. record { fits = omega (arith, inside c) }) (λ c. inside c.before) (λ c. omega (arith, c.shared_slice_known-2-1.given c.first.result)) (λ c κs. search rules) returns)
