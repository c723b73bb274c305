-- `passing::give::U64Number8::bytes` meets its contract. Assumes nothing.
use Rattle.std.proofs.Common.{◌∙◌}
use Rattle.passing.proofs.Littles.{low_first}
use Rattle.passing.proofs.give.U64Number8.bytes.Goals as goal

pub returns : goal.returns
returns c = c.to_le_bytes.ensures ∙ low_first 8 c.args.self
