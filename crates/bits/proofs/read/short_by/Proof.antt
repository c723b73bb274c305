-- `bits::read::short_by` meets its contract: each width's test decides one step of `short_by`. Assumes nothing.
use Rattle.bits.proofs.Words.{ℕ, ◌-◌, arith, rules}
use borrow.Author.Tests.{lt-ltb, le-ltb}
use Rattle.bits.specs.Short.{short_by, widths_of}
use Rattle.bits.proofs.Short.{widths_sum}
use Rattle.bits.proofs.read.short_by.Statement.{statement}
use Rattle.bits.proofs.read.short_by.Tie as tie

returns-then-third-w : tie.Need-returns-then-third-w
unfolding short_by widths_of
returns-then-third-w c =
    let x = c.args in
    let left : ℕ = x.left - x.w.first in
    rw (le-ltb x.left x.w.first (omega arith), le-ltb left x.w.second (omega arith), lt-ltb (left - x.w.second) x.w.third (omega arith))

returns : tie.Need-returns
unfolding short_by widths_of
returns c =
    let x = c.args in
    let left : ℕ = x.left - x.w.first in
    let last : ℕ = left - x.w.second in
    rw (
      le-ltb x.left x.w.first (omega arith),
      le-ltb left x.w.second (omega arith),
      le-ltb last x.w.third (omega arith),
      lt-ltb (last - x.w.third) x.w.fourth (omega (arith, widths_sum x.w)),
    )

pub short_by_spec : {M : Type 1} → statement M
unfolding short_by widths_of
short_by_spec =
    tie.close
    (tie.spec (λ c. search rules) (λ c. let x = c.args in rw (lt-ltb x.left x.w.first (omega arith))) (λ c. search rules)
    (λ c. let x = c.args in rw (le-ltb x.left x.w.first (omega arith), lt-ltb (x.left - x.w.first) x.w.second (omega arith)))
    (λ c. search rules) returns-then-third-w (λ c. omega (arith, widths_sum c.args.w))
    returns)
