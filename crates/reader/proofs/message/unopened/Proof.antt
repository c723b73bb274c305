-- `reader::message::unopened` meets its contract. Assumes nothing.
use Rattle.bits.proofs.Words.{refl, sym, ◌∙◌, arith, rules}
use native.Mathlib.Nat.{le_refl}
use borrow.Author.Tests.{ne_eqb}
use Rattle.bits.proofs.Fields.{zero_part}
use Rattle.reader.specs.Readings.{unopened_at}
use Rattle.reader.proofs.message.unopened.Statement.{statement}
use Rattle.reader.proofs.message.unopened.Tie as tie

-- a bit of the front is set, and the stretch has it
returns-then-front-ge-FRONT : tie.Need-returns-then-front-ge-FRONT
unfolding unopened_at
returns-then-front-ge-FRONT c =
    let f = c.args.front in
    let bs = c.args.bytes.now in
    rw (ne_eqb _ 0 (λ none. c.if-front-ne0.true (c.requires.bits ∙ zero_part bs f.start f.end f.start 56 (le_refl f.start) (omega (arith, c.if-front-ge-FRONT.true, c.requires.within)) none)))

pub unopened_spec : {M : Type 1} → statement M
unfolding unopened_at
unopened_spec =
    tie.close
    (tie.spec (λ c. search rules) returns-then-front-ge-FRONT (λ c κs. search rules) (λ c. let none = sym c.zero_from.ensures ∙ c.if-zero_from.true in rw none refl)
    (λ c. let some = sym c.zero_from.ensures ∙ c.if-zero_from.false in rw some refl))
