-- `reader::message::mask_answer` meets its contract. Assumes nothing.
use Rattle.bits.proofs.Words.{sym, ap, ◌∙◌, rules}
use Rattle.adoption.specs.Adoptions.{head_at}
use Rattle.format.specs.declared.Answer.TheVariants.{Message}
use Rattle.format.specs.declared.Head.{Head}
use Rattle.reader.specs.Readings.{ending_answer}
use Rattle.reader.proofs.message.mask_answer.Statement.{statement}
use Rattle.reader.proofs.message.mask_answer.Tie as tie

returns-in-Behind : tie.Need-returns-in-Behind
unfolding ending_answer
returns-in-Behind c =
    let x = c.args in
    ap (λ (h : Head). Message h c.in-Behind.next 0) c.head_at.ensures ∙ ap (ending_answer (head_at x.bytes.now x.place)) (sym c.in-Behind.is)

returns-in-Refused : tie.Need-returns-in-Refused
unfolding ending_answer
returns-in-Refused c =
    let x = c.args in
    ap (ending_answer (head_at x.bytes.now x.place)) (sym c.in-Refused.is)

pub mask_answer_spec : {M : Type 1} → statement M
mask_answer_spec = tie.close (tie.spec (λ c. search rules) (λ c κs. search rules) (λ c. search rules) returns-in-Behind returns-in-Refused)
