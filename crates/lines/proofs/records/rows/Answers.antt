use Rattle.std.proofs.Common.{◌≡◌, ◌*◌, take, arith}
use Rattle.text.proofs.Stores.{all_left, wrote, told, part_wrote, none_left}
use Rattle.format.specs.Listing.{record_text, letter_r}
use Rattle.lines.proofs.RowTexts.{all_rows, front_rows, next_row, no_row}
use Rattle.lines.proofs.records.rows.Goals as goal

pub loop-values-init : goal.loop-values-init
loop-values-init c =
    let left : c.into_iter-values-iterator.result.rest.now ≡ take (8 * c.args.n) c.args.rows.now = cc in
    let front = front_rows c.args.n c.args.rows.now c.into_iter-values-iterator.result.rest.now left c.requires.0 in
    (cc, omega (arith, front.0), rw front.1 (all_left _ _ _))

pub row-place-requires : goal.row-place-requires
row-place-requires c =
    let steps = c.in-Some.ensures.steps in
    let next = next_row c.in-Some.values.now c.next.new.self.rest.now steps.1.0 (omega arith) in
    (omega arith, omega (arith, next.0))

pub loop-values-preserved : goal.loop-values-preserved
loop-values-preserved c =
    let steps = c.in-Some.ensures.steps in
    let told = c.row-place.ensures in
    let next = next_row c.in-Some.values.now c.next.new.self.rest.now steps.1.0 (omega arith) in
    (omega arith, omega (arith, next.0), part_wrote c.loop-values.invariant.2 next.1 (wrote c.loop-values.out (record_text letter_r c.in-Some.values.now) (told.value, told.out_after)))

pub returns : goal.returns
returns c =
    let left = c.loop-values.values-iterator.rest.now in
    let w = told (none_left c.loop-values.invariant.2 (no_row left (omega (arith, c.in-None.ensures.steps.1.0)))) in
    rw (all_rows c.args.n c.args.rows.now) record { value = w.0; out_after = w.1; upper_bound = omega arith }
