-- `reader::raw::raw` meets its contract. Assumes nothing.
use Rattle.bits.proofs.Words.{sym, ◌∙◌, rules}
use Rattle.format.proofs.Placed.{inside}
use Rattle.reader.specs.Readings.{raw_to}
use Rattle.reader.proofs.Rawed.{empty_part, not_message}
use Rattle.reader.proofs.raw.raw.Statement.{statement}
use Rattle.reader.proofs.raw.raw.Tie as tie

returns-then-not-is_placed : tie.Need-returns-then-not-is_placed
unfolding raw_to
returns-then-not-is_placed c =
    let x = c.args in
    let outside = sym c.is_placed.ensures ∙ c.if-not-is_placed.true in
    rw (c.in-Message.is, outside) (empty_part x.bytes c.part-then-not-is_placed.result x.start c.part-then-not-is_placed.ensures)

part-requires-in-Message : tie.Need-part-requires-in-Message
part-requires-in-Message c κs =
    let x = c.args in
    (inside x.bytes.now c.in-Message.next x.start (sym c.is_placed.ensures ∙ c.if-not-is_placed.false)).lent

returns-in-Idle : tie.Need-returns-in-Idle
unfolding raw_to
returns-in-Idle c =
    let x = c.args in
    rw (not_message x.bytes.now x.start x.answer 0 (rw c.in-Idle.is)) (empty_part x.bytes c.part.result x.start c.part.ensures)

returns-in-Refused : tie.Need-returns-in-Refused
unfolding raw_to
returns-in-Refused c =
    let x = c.args in
    rw (not_message x.bytes.now x.start x.answer 1 (rw c.in-Refused.is)) (empty_part x.bytes c.part-in-Refused.result x.start c.part-in-Refused.ensures)

returns-else-not-is_placed : tie.Need-returns-else-not-is_placed
unfolding raw_to
returns-else-not-is_placed c =
    let x = c.args in
    let placed = sym c.is_placed.ensures ∙ c.if-not-is_placed.false in
    rw (c.in-Message.is, placed) c.part-in-Message.ensures

pub raw_spec : {M : Type 1} → statement M
raw_spec =
    tie.close
    (tie.spec (λ c. search rules) (λ c κs. search rules) (λ c. search rules) (λ c κs. search rules) (λ c. search rules) (λ c κs. search rules)
    (λ c κs. search rules) returns-then-not-is_placed part-requires-in-Message returns-in-Idle returns-in-Refused returns-else-not-is_placed)
