-- `reader::tested` meets its contract.
-- Assumes nothing.
use Rattle.bits.proofs.Words.{refl, sym, ◌∙◌, arith, rules}
use borrow.Author.Tests.{lt-leb, le-leb}
use Rattle.format.specs.Reading.{lent_tests}
use Rattle.format.specs.Tests.{verdict}
use Rattle.reader.specs.Readings.{tested_by}
use Rattle.reader.proofs.tested.Statement.{statement}
use Rattle.reader.proofs.tested.Tie as tie

returns-then-not-held : tie.Need-returns-then-not-held
unfolding tested_by lent_tests verdict
returns-then-not-held c =
    let x = c.args in
    let inside = sym c.is_placed.ensures ∙ c.if-not-is_placed.false in
    rw (le-leb 2048 x.room (omega arith), inside, c.if-not-held.true) refl

returns : tie.Need-returns
unfolding tested_by lent_tests verdict
returns c =
    let x = c.args in
    let inside = sym c.is_placed.ensures ∙ c.if-not-is_placed.false in
    rw (le-leb 2048 x.room (omega arith), inside, c.if-not-held.false) refl

pub tested_spec : {M : Type 1} → statement M
unfolding tested_by lent_tests verdict
tested_spec =
    tie.close
    (tie.spec (λ c. rw (lt-leb 2048 c.args.room c.if-room-lt-ROOM.true) refl) (λ c κs. search rules)
    (λ c. let x = c.args in let out = sym c.is_placed.ensures ∙ c.if-not-is_placed.true in rw (le-leb 2048 x.room (omega arith), out) refl)
    returns-then-not-held returns)
