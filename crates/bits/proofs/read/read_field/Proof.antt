-- `bits::read::read_field` meets its contract. Assumes nothing.
use Rattle.bits.proofs.Words.{ap, ◌∙◌, ℕ, ◌-◌, ◌/◌, ◌%◌, ◌^◌, arith, rules}
use Rattle.bits.proofs.Windows.{at_place}
use Rattle.bits.proofs.read.read_field.Statement.{statement}
use Rattle.bits.proofs.read.read_field.Tie as tie

returns : tie.Need-returns
returns c =
    let x = c.args in
    c.cut.ensures ∙ ap (λ (y : ℕ). y / 2 ^ (64 - x.place % 8 - x.w) % 2 ^ x.w) c.window_at.ensures
    ∙ at_place x.bytes.now x.place x.w (omega arith)

pub read_field_spec : {M : Type 1} → statement M
read_field_spec = tie.close (tie.spec (λ c κs. search rules) (λ c κs. search rules) returns)
