-- `host_write::no_holding` meets its contract. Assumes nothing.
use Rattle.bits.proofs.Words.{arith, rules}
use borrow.Author.Tests.{le-leb, lt-leb}
use Rattle.format.specs.Writing.{limit, done_writing}
use Rattle.host_write.specs.Writes.{without_holding}
use Rattle.host_write.proofs.no_holding.Statement.{statement}
use Rattle.host_write.proofs.no_holding.Tie as tie

returns-then-start-limit : tie.Need-returns-then-start-limit
unfolding without_holding done_writing
returns-then-start-limit c =
    let x = c.args in
    rw (lt-leb x.start (limit x.bytes.now) (omega (arith, c.limit.ensures.0, c.if-start-limit.true))) c.refused.ensures

returns : tie.Need-returns
unfolding without_holding done_writing
returns c =
    let x = c.args in
    rw (le-leb x.start (limit x.bytes.now) (omega (arith, c.limit.ensures.0, c.if-start-limit.false))) c.refused-2.ensures

pub no_holding_spec : {M : Type 1} → statement M
no_holding_spec = tie.close (tie.spec (λ c κs. search rules) (λ c κs. search rules) returns-then-start-limit (λ c κs. search rules) returns)
