use Rattle.std.proofs.Common.{arith}
use Rattle.lister.specs.Gathering.{filled_to}
use Rattle.lister.proofs.Kept.{part_kept}
use Rattle.lister.proofs.gather.keep.Goals as goal

pub returns-clause-value : goal.returns-clause-value
unfolding filled_to
returns-clause-value c = omega (arith, c.min-n.ensures)

pub returns-clause-line_after : goal.returns-clause-line_after
returns-clause-line_after c =
    let x = c.args in
    part_kept x.line.now x.filled x.new.now c.copy_from_slice.new.self c.min-n.result _ c.requires c.min-n.ensures (omega arith) c.copy_from_slice.ensures.after
