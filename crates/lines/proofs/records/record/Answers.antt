use Rattle.std.proofs.Common.{[], ◌∷◌, arith}
use Rattle.format.specs.Text.{line_feed}
use Rattle.text.proofs.Stores.{wrote, told, then_wrote}
use Rattle.lines.specs.Records.{values_text}
use Rattle.lines.proofs.RecordTexts.{record_parts, values_shorter}
use Rattle.lines.proofs.records.«record».Goals as goal

pub opened-place-requires : goal.opened-place-requires
opened-place-requires c = omega (arith, values_shorter c.args.letter c.args.values.now)

pub put-requires : goal.put-requires
put-requires c = omega (arith, c.opened-place.ensures.value, values_shorter c.args.letter c.args.values.now)

pub returns : goal.returns
returns c =
    let x = c.args in
    let front = c.opened-place.ensures in
    let last = c.put.ensures in
    let w = told (then_wrote (wrote x.out.now (values_text x.letter x.values.now) (front.value, front.out_after)) (wrote _ (line_feed ∷ []) (last.value, last.line_after))) in
    rw (record_parts x.letter x.values.now) record { value = w.0; out_after = w.1 }
