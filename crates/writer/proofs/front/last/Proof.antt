-- `writer::front::last` meets its contract. Assumes nothing.
use Rattle.bits.proofs.Words.{◌≡◌, arith, rules}
use Rattle.writer.specs.Fronts.{last_field}
use Rattle.pens.specs.Numbers.{word_of}
use Rattle.pens.proofs.Numbers.{of_struct}
use Rattle.writer.proofs.front.last.Statement.{statement}
use Rattle.writer.proofs.front.last.Tie as tie

returns : tie.Need-returns
unfolding last_field
returns c =
    let h = c.args.head in
    let interval : c.word.result ≡ word_of h.interval =
    of_struct word_of _ c.struct_told-1.given.1.1.0.1 c.word.ensures.0 in
    let indicator : c.word-2.result ≡ word_of h.indicator = of_struct word_of _ c.struct_told-2-1.given.1.1.1.0.1 c.word-2.ensures.0 in
    let iod : c.word-3.result ≡ word_of h.iod = of_struct word_of _ c.struct_told-3-1.given.1.1.1.1.0.1 c.word-3.ensures.0 in
    (omega arith, omega arith)

pub last_spec : {M : Type 1} → statement M
last_spec =
    tie.close
    (tie.spec (λ c κs. search rules) (λ c. search rules) (λ c κs. search rules) (λ c. search rules) (λ c. search rules) (λ c κs. search rules) (λ c. search rules) returns)
