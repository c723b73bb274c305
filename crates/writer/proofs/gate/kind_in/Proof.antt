-- `writer::gate::kind_in` meets its contract. Assumes nothing.
use Rattle.bits.proofs.Words.{◌≡◌, ap, ◌∙◌, rules}
use mir.Facts.{to_z-of_z}
use Rattle.table.specs.Kinds.{kind_for}
use Rattle.pens.specs.Numbers.{word_of}
use Rattle.writer.proofs.SubTypes.{kind_word}
use Rattle.writer.proofs.gate.kind_in.Statement.{statement}
use Rattle.writer.proofs.gate.kind_in.Tie as tie

returns : tie.Need-returns
returns c =
    let s = c in
    let found : c.word.result ≡ word_of s.args.subtype = rw (to_z-of_z s.ranges.subtype) at c.word.ensures.0 in
    c.kind_of.ensures ∙ ap kind_for found ∙ kind_word s.args.subtype s.ranges.subtype

pub kind_in_spec : {M : Type 1} → statement M
kind_in_spec = tie.close (tie.spec (λ c κs. search rules) (λ c κs. search rules) returns)
