use mathlib.Core.List.{flat_map}
use Rattle.std.proofs.Common.{arith}
use Rattle.format.specs.Listing.{record_text, letter_r}
use Rattle.format.specs.Writing.{rows_in}
use Rattle.text.proofs.Stores.{wrote, wrote_first, told_first, then_wrote}
use Rattle.lines.specs.Records.{opening_in}
use Rattle.lines.proofs.RowTexts.{message_parts}
use Rattle.lines.proofs.records.message.Goals as goal

pub returns : goal.returns
returns c =
    let x = c.args in
    let first = c.opening-first.ensures in
    let rest = c.rows.ensures in
    let w = told_first (then_wrote (wrote_first x.out.now (opening_in x.head x.place x.next x.n) (first.value, first.out_after))
    (wrote _ (flat_map (record_text letter_r) (rows_in x.n x.rows.now)) (rest.value, rest.out_after))) in
    rw (message_parts x.head x.place x.next x.n x.rows.now) record { value = w.0; out_after = w.1; upper_bound = omega (arith, first.upper_bound, rest.upper_bound) }
