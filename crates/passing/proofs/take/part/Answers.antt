-- `passing::take::part` meets its contract. Assumes nothing.
use Rattle.std.proofs.Common.{arith, drop, take}
use Rattle.std.proofs.lemmas.Grind.{common_steps}
use Rattle.passing.proofs.Made.{made}
use Rattle.passing.proofs.take.part.Goals as goal

pub returns : goal.returns
returns g c =
    let there = take g.row.N (drop c.args.from c.args.bytes.now) in
    made _ _ 0 there (λ i y q inside k. grind (arith, common_steps)) (grind (arith, common_steps)) c.from_fn.ensures.items
