use Rattle.bits.proofs.Words.{◌-◌, arith}
use Rattle.rows.specs.Shapes.{column_for}
use Rattle.rows.proofs.Columns.{one_up}
use Rattle.rows.proofs.shape.counts.Goals as goal

pub returns : goal.returns
unfolding column_for
returns c = rw (c.plain.ensures, one_up (c.args.w - 1) (omega arith))
