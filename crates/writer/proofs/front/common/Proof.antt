-- `writer::front::common` meets its contract. Assumes nothing.
use Rattle.bits.proofs.Words.{◌≡◌, ap, sym, ◌∙◌, ℕ, arith, rules}
use Rattle.format.specs.Lengths.{total}
use Rattle.writer.specs.Fronts.{pen_at, front_fields, opening_field, last_field}
use Rattle.pens.specs.Numbers.{word_of}
use Rattle.pens.proofs.Gathered.{joined_to, all_join}
use Rattle.pens.proofs.Numbers.{of_struct}
use Rattle.writer.proofs.front.common.Statement.{statement}
use Rattle.writer.proofs.front.common.Tie as tie

returns : tie.Need-returns
unfolding front_fields joined_to total opening_field last_field
returns c =
    let x = c.args in
    let epoch : c.word.result ≡ word_of x.head.epoch = of_struct word_of _ c.struct_told-1.given.1.0.1 c.word.ensures.0 in
    (ap (λ (g : ℕ). record { place = x.start; width = 37; gathered = g }) (omega arith) ∙ sym (all_join (front_fields 12 x.head) (pen_at x.start) (omega arith) (omega arith)), omega arith)

pub common_spec : {M : Type 1} → statement M
common_spec =
    tie.close
    (tie.spec (λ c κs. search rules) (λ c. search rules) (λ c κs. search rules) (λ c. search rules) (λ c. search rules) (λ c κs. search rules) (λ c. search rules) returns)
