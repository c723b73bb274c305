use Rattle.std.proofs.Common.{[], ◌∷◌, arith}
use Rattle.format.specs.Text.{tab, dash, decimal}
use Rattle.text.proofs.Stores.{wrote, told, then_wrote}
use Rattle.text.proofs.Values.{decimal_long}
use Rattle.lines.proofs.RecordTexts.{missing_said_lem, missing_unsaid}
use Rattle.lines.proofs.records.missing_bits.Goals as goal

pub number-requires : goal.number-requires
number-requires c = omega (arith, c.put-from.ensures.value, decimal_long 19 c.args.missing (omega arith))

-- it is 3
pub returns-then-number-eq-SHORT : goal.returns-then-number-eq-SHORT
returns-then-number-eq-SHORT c =
    let x = c.args in
    let first = c.put-from.ensures in
    let last = c.number.ensures in
    let w = told (then_wrote (wrote x.out.now (tab ∷ []) (first.value, first.line_after)) (wrote _ (decimal x.missing) (last.value, last.line_after))) in
    rw (missing_said_lem x.number x.missing c.if-number-eq-SHORT.true)
    record { value = w.0; out_after = w.1; upper_bound = omega (arith, w.0, decimal_long 19 x.missing (omega arith)) }

-- it is not
pub returns : goal.returns
returns c =
    let x = c.args in
    let first = c.put-from.ensures in
    let last = c.put.ensures in
    let w = told (then_wrote (wrote x.out.now (tab ∷ []) (first.value, first.line_after)) (wrote _ (dash ∷ []) (last.value, last.line_after))) in
    rw (missing_unsaid x.number x.missing c.if-number-eq-SHORT.false) record { value = w.0; out_after = w.1; upper_bound = omega (arith, w.0) }
