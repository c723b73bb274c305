-- `reader::is_placed` meets its contract.
-- Assumes nothing.
use Rattle.bits.proofs.Words.{◌*◌, arith, rules, length}
use borrow.Author.Tests.{le-leb, lt-leb}
use Rattle.format.specs.Reading.{placed}
use Rattle.reader.proofs.is_placed.Statement.{statement}
use Rattle.reader.proofs.is_placed.Tie as tie

pub is_placed_spec : {M : Type 1} → statement M
unfolding placed
is_placed_spec =
    tie.close
    (tie.spec (λ c. rw (lt-leb c.args.end 50850 (omega arith))) (λ c. search rules)
    (λ c. let x = c.args in rw (le-leb x.end 50850 (omega arith), lt-leb x.end (8 * length x.bytes.now) (omega arith)))
    (λ c. let x = c.args in rw (le-leb x.end 50850 (omega arith), le-leb x.end (8 * length x.bytes.now) (omega arith))))
