-- `passing::take::words` meets its contract. Assumes nothing.
use Rattle.std.proofs.Common.{rules, drop}
use Rattle.passing.specs.Bytes.{littles}
use Rattle.passing.proofs.Littles.{littles_length, number_there}
use Rattle.passing.proofs.Made.{made}
use Rattle.passing.proofs.take.words.Goals as goal

pub returns : goal.returns
returns g c =
    let bs = c.args.bytes.now in
    let from = c.args.from in
    let n = g.row.N in
    made _ _ 0 (littles 2 n (drop from bs)) (λ i y q inside k. rw (number_there 1 n i from bs inside) (search rules)) (littles_length 2 n (drop from bs)) c.from_fn.ensures.items
