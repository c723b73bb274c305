use Rattle.std.proofs.Common.{◌≡◌, ◌+◌, [], ◌∷◌, pos, get_or, ap, length, length-append, arith, to_z, of_z, w32, to_z-of_z}
use Rattle.format.specs.Listing.{value_text}
use Rattle.format.specs.Text.{tab}
use Rattle.text.proofs.Stores.{wrote, told, room_left, then_wrote, part_wrote, left_room, none_left}
use Rattle.lines.proofs.RecordTexts.{values_from, all_values, next_value, no_value}
use Rattle.lines.proofs.records.opened.Goals as goal

pub put-place-requires : goal.put-place-requires
put-place-requires c = omega (arith, ap length (all_values c.args.letter c.args.values.now))

pub field-place-requires : goal.field-place-requires
field-place-requires c =
    let x = c.args in
    let i = c.loop-v.v-index in
    let v = get_or x.values.now i (pos 0) in
    let same : to_z w32 (of_z w32 v) ≡ v = to_z-of_z {w = w32} (record { sfits = omega arith }) in
    let lettered = wrote x.out.now (x.letter ∷ []) (c.put-place.ensures.value, c.put-place.ensures.line_after) in
    let room = left_room c.loop-v.invariant (room_left (values_from x.values.now 0) lettered (rw (all_values x.letter x.values.now) at c.requires)) in
    rw same (omega (arith, room, ap length (next_value x.values.now i (omega arith)), length-append (tab ∷ value_text v) (values_from x.values.now (i + 1))))

pub loop-v-preserved : goal.loop-v-preserved
loop-v-preserved c =
    let x = c.args in
    let i = c.loop-v.v-index in
    let v = get_or x.values.now i (pos 0) in
    let same : to_z w32 (of_z w32 v) ≡ v = to_z-of_z {w = w32} (record { sfits = omega arith }) in
    let told = rw same at c.field-place.ensures in
    part_wrote c.loop-v.invariant (next_value x.values.now i (omega arith)) (wrote c.loop-v.out (tab ∷ value_text v) (told.value, told.out_after))

pub returns : goal.returns
returns c =
    let x = c.args in
    let lettered = wrote x.out.now (x.letter ∷ []) (c.put-place.ensures.value, c.put-place.ensures.line_after) in
    let w = told (then_wrote lettered (none_left c.loop-v.invariant (no_value x.values.now c.loop-v.v-index (omega arith)))) in
    rw (all_values x.letter x.values.now) record { value = w.0; out_after = w.1 }
