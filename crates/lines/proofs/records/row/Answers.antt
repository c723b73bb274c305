use Rattle.std.proofs.Common.{ap, length, arith, List, ℤ}
use Rattle.format.proofs.Bodies.{All, none, more}
use Rattle.format.specs.Listing.{record_text, letter_r}
use Rattle.lines.proofs.RecordTexts.{Small, eight, row_read}
use Rattle.lines.proofs.records.row.Goals as goal

pub record-requires : goal.record-requires
record-requires c =
    let small : All Small (eight c.args.row.now) = more (omega arith) (more (omega arith) (more (omega arith) (more (omega arith) (more (omega arith) (more (omega arith) (more (omega arith) (more (omega arith) none))))))) in
    let read = row_read c.args.row.now c.requires.0 small in
    omega (arith, read.1, ap (λ (vs : List ℤ). length (record_text letter_r vs)) read.0)

pub returns : goal.returns
returns c =
    let small : All Small (eight c.args.row.now) = more (omega arith) (more (omega arith) (more (omega arith) (more (omega arith) (more (omega arith) (more (omega arith) (more (omega arith) (more (omega arith) none))))))) in
    let read = row_read c.args.row.now c.requires.0 small in
    let told = rw read.0 at c.«record».ensures in
    record { value = told.value; out_after = told.out_after; upper_bound = omega (arith, told.value, read.1) }
