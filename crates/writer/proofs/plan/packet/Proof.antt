-- `writer::plan::packet` meets its contract. Assumes nothing.
use mathlib.Core.Bool.{false}
use Rattle.bits.proofs.Words.{◌≡◌, ◌+◌, rules}
use Rattle.table.specs.declared.Keys.TheVariants.{Parts}
use Rattle.pens.specs.Numbers.{word_of}
use Rattle.writer.specs.Plans.{packet_plan, everyone}
use Rattle.pens.proofs.Numbers.{of_struct}
use Rattle.writer.proofs.plan.packet.Statement.{statement}
use Rattle.writer.proofs.plan.packet.Tie as tie

returns : tie.Need-returns
unfolding packet_plan
returns c =
    let size : c.word.result ≡ word_of c.args.head.b = of_struct word_of _ c.struct_told-1.given.1.1.1.1.1.1.0.1 c.word.ensures.0 in
    λ i. record { pen = c.packet.ensures i; marked = 0; chosen = everyone; keyed = false; told = 0; body = record { keys = Parts (size i + 1); shape = 7 } }

pub packet_spec : {M : Type 1} → statement M
packet_spec = tie.close (tie.spec (λ c κs. search rules) (λ c. search rules) (λ c κs. search rules) returns)
