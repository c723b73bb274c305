-- `putting::size::row_bits` meets its contract. Assumes nothing.
use Rattle.bits.proofs.Words.{arith, rules}
use borrow.Author.Tests.{not-true, not-false}
use Rattle.putting.proofs.RowSizes.{few_bits, bare_sum, iode_sum}
use Rattle.putting.proofs.size.row_bits.Statement.{statement}
use Rattle.putting.proofs.size.row_bits.Tie as tie

returns-then-not-s : tie.Need-returns-then-not-s
returns-then-not-s c =
    let w = c in
    bare_sum w.requires w.width.ensures (not-true _ c.if-not-s.true)

returns : tie.Need-returns
returns c =
    let t = c.before in
    let w = t in
    iode_sum w.requires w.width.ensures (not-false _ t.if-not-s.false) c.longer_in.result c.longer_in.ensures.0

overflow_add-result : tie.Need-overflow_add-result
overflow_add-result c =
    let w = c in
    record { fits = omega (arith, few_bits w.requires w.width.ensures, c.longer_in.ensures.1) }

pub row_bits_spec : {M : Type 1} → statement M
row_bits_spec =
    tie.close
    (tie.spec (λ c κs. search rules) (λ c. record { fits = omega (arith, few_bits c.requires c.width.ensures) }) returns-then-not-s (λ c κs. search rules) overflow_add-result returns)
