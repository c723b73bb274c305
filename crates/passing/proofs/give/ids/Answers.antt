-- `passing::give::ids` meets its contract. Assumes nothing.
use Rattle.std.proofs.Common.{arith}
use Rattle.std.proofs.lemmas.Grind.{same_number_lists}
use Rattle.passing.proofs.give.ids.Goals as goal

pub returns : goal.returns
returns c = same_number_lists _ _ (omega arith) (λ k inside. c.loop-i.invariant k (omega arith))
