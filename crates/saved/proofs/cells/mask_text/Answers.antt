use Rattle.std.proofs.Common.{[], ◌∷◌, ◌+◌, ◌*◌, ◌^◌, ◌%◌, ◌/◌, arith}
use Rattle.text.proofs.HexDigits.{hex_wrote}
use Rattle.text.proofs.Stores.{wrote, told}
use Rattle.saved.proofs.StripTexts.{all_strips, sum_few, strip_room, strip_wrote, strips_done, padded_few, padded_room, padded_wrote}
use Rattle.saved.proofs.cells.mask_text.Goals as goal

pub loop-strip-init : goal.loop-strip-init
loop-strip-init c = all_strips c.args.line.now c.args.at c.args.signals c.args.strips.now

pub overflow_add-all : goal.overflow_add-all
overflow_add-all c = omega (arith, sum_few c.loop-strip.invariant c.ranges.signals.fits (omega arith) c.count-w.ensures c.gather.ensures)

pub hex-place-requires : goal.hex-place-requires
hex-place-requires c = strip_room c.loop-strip.invariant c.ranges.signals.fits (omega arith) c.count-w.ensures c.gather.ensures c.requires

pub loop-strip-preserved : goal.loop-strip-preserved
loop-strip-preserved c =
    let l = c.loop-strip in
    let w = c.count-w.result in
    let all = l.pending * 2 ^ w % 2 ^ 64 + c.gather.result in
    strip_wrote l.invariant c.ranges.signals.fits (omega arith) c.count-w.ensures c.gather.ensures
    (hex_wrote l.line ((l.bits + w) / 4) (all / 2 ^ ((l.bits + w) % 4)) (c.hex-place.ensures.value, c.hex-place.ensures.line_after))

pub returns-then-bits-eq0-clause-value : goal.returns-then-bits-eq0-clause-value
returns-then-bits-eq0-clause-value c = (told (strips_done c.loop-strip.invariant (omega arith) c.if-bits-eq0.true)).0

pub returns-then-bits-eq0-clause-line_after : goal.returns-then-bits-eq0-clause-line_after
returns-then-bits-eq0-clause-line_after c = (told (strips_done c.loop-strip.invariant (omega arith) c.if-bits-eq0.true)).1

pub digit-requires : goal.digit-requires
digit-requires c = padded_few c.loop-strip.invariant (omega arith) (omega arith)

pub put-requires : goal.put-requires
put-requires c = padded_room c.loop-strip.invariant (omega arith) (omega arith) c.requires

pub returns : goal.returns
returns c =
    let w = wrote c.loop-strip.line (c.digit.result ∷ []) (c.put.ensures.value, c.put.ensures.line_after) in
    let t = told (padded_wrote c.loop-strip.invariant (omega arith) (omega arith) (rw c.digit.ensures at w)) in
    record { value = t.0; line_after = t.1 }
