-- `writer::front::packet` meets its contract. Assumes nothing.
use Rattle.bits.proofs.Words.{◌≡◌, ap, sym, ◌∙◌, ℕ, arith, rules}
use Rattle.format.specs.Lengths.{total}
use Rattle.writer.specs.Fronts.{pen_at, packet_fields, opening_field}
use Rattle.pens.specs.Numbers.{word_of}
use Rattle.pens.proofs.Gathered.{joined_to, all_join}
use Rattle.pens.proofs.Numbers.{of_struct}
use Rattle.writer.proofs.front.packet.Statement.{statement}
use Rattle.writer.proofs.front.packet.Tie as tie

returns : tie.Need-returns
unfolding packet_fields joined_to total opening_field
returns c =
    let x = c.args in
    let indicator : c.word.result ≡ word_of x.head.indicator = of_struct word_of _ c.struct_told-1.given.1.1.1.0.1 c.word.ensures.0 in
    let a : c.word-2.result ≡ word_of x.head.a = of_struct word_of _ c.struct_told-2-1.given.1.1.1.1.1.0.1 c.word-2.ensures.0 in
    let b : c.word-3.result ≡ word_of x.head.b = of_struct word_of _ c.struct_told-3-1.given.1.1.1.1.1.1.0.1 c.word-3.ensures.0 in
    ap (λ (g : ℕ). record { place = x.start; width = 22; gathered = g }) (omega arith) ∙ sym (all_join (packet_fields x.head) (pen_at x.start) (omega arith) (omega arith))

pub packet_spec : {M : Type 1} → statement M
packet_spec =
    tie.close
    (tie.spec (λ c κs. search rules) (λ c. search rules) (λ c κs. search rules) (λ c. search rules) (λ c. search rules) (λ c κs. search rules) (λ c. search rules)
    (λ c κs. search rules) (λ c. search rules) (λ c. search rules) returns)
