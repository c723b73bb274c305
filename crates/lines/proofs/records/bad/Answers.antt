use Rattle.std.proofs.Common.{[], ◌∷◌, arith}
use Rattle.format.specs.Text.{tab, line_feed, decimal}
use Rattle.format.specs.Listing.{letter_b}
use Rattle.text.proofs.Stores.{wrote, told_first, then_wrote}
use Rattle.text.proofs.Values.{decimal_long}
use Rattle.lines.proofs.RecordTexts.{bad_parts}
use Rattle.lines.proofs.records.bad.Goals as goal

pub number-third-requires : goal.number-third-requires
number-third-requires c = omega (arith, c.put-first.ensures.value, c.put-second.ensures.value, decimal_long 19 c.args.number (omega arith))

pub put-requires : goal.put-requires
put-requires c = omega (arith, c.put-first.ensures.value, c.put-second.ensures.value, c.number-third.ensures.value, decimal_long 19 c.args.number (omega arith))

pub returns : goal.returns
returns c =
    let x = c.args in
    let first = c.put-first.ensures in
    let second = c.put-second.ensures in
    let third = c.number-third.ensures in
    let last = c.put.ensures in
    let w = told_first (then_wrote (wrote x.out.now {at = 0} (letter_b ∷ []) (first.value, first.line_after)) (then_wrote (wrote _ (tab ∷ []) (second.value, second.line_after))
    (then_wrote (wrote _ (decimal x.number) (third.value, third.line_after)) (wrote _ (line_feed ∷ []) (last.value, last.line_after))))) in
    rw (bad_parts x.number)
    record { value = w.0; out_after = w.1; upper_bound = omega (arith, first.value, second.value, third.value, last.value, decimal_long 19 x.number (omega arith)) }
