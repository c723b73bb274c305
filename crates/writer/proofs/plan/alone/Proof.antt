-- `writer::plan::alone` meets its contract. Assumes nothing.
use mathlib.Core.Bool.{false}
use Rattle.bits.proofs.Words.{rules}
use Rattle.writer.specs.Plans.{alone_plan, everyone}
use Rattle.writer.proofs.plan.alone.Statement.{statement}
use Rattle.writer.proofs.plan.alone.Tie as tie

returns : tie.Need-returns
unfolding alone_plan
returns c =
    let l = c.args.layout in
    λ i. record { pen = c.common.ensures.0 i; marked = 0; chosen = everyone; keyed = false; told = 0; body = record { keys = c.over.ensures i; shape = l.shape } }

pub alone_spec : {M : Type 1} → statement M
alone_spec = tie.close (tie.spec (λ c κs. search rules) (λ c κs. search rules) returns)
