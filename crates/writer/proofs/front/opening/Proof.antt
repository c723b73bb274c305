-- `writer::front::opening` meets its contract. Assumes nothing.
use Rattle.bits.proofs.Words.{◌≡◌, arith, rules}
use Rattle.writer.specs.Fronts.{opening_field}
use Rattle.pens.specs.Numbers.{word_of}
use Rattle.pens.proofs.Numbers.{of_struct}
use Rattle.writer.proofs.front.opening.Statement.{statement}
use Rattle.writer.proofs.front.opening.Tie as tie

returns : tie.Need-returns
unfolding opening_field
returns c =
    let subtype : c.word.result ≡ word_of c.args.head.subtype = of_struct word_of _ c.struct_told-1.given.0.1 c.word.ensures.0 in
    (omega arith, omega arith)

pub opening_spec : {M : Type 1} → statement M
opening_spec = tie.close (tie.spec (λ c κs. search rules) (λ c. omega arith) returns)
