use Rattle.std.proofs.Common.{arith, sym, ◌∙◌, take}
use Rattle.format.specs.Listing.{line_says}
use Rattle.lines.proofs.SaidStretches.{says_so, bad_so, says_asked}
use Rattle.lister.proofs.Said.{bad_opens, says_opens}
use Rattle.lister.proofs.open.open.Goals as goal

pub returns-in_default : goal.returns-in_default
returns-in_default c =
    let x = c.args in
    let told = c.bad-given.ensures in
    let o = bad_opens x.state x.line.now x.out.now _ (bad_so _ (sym c.said_by.ensures ∙ c.in_default.is)) c.next_line.result c.next_line.ensures c.bad-given.result _ (told.value, told.out_after) in
    record { value = o.0; line_after = o.1.0; out_after = o.1.1; given_le_message_room = told.upper_bound }

pub stretch_in-requires : goal.stretch_in-requires
stretch_in-requires c = says_asked c.args.line.now c.args.filled (says_so (line_says (take c.args.filled c.args.line.now)) (sym c.said_by.ensures ∙ c.in-Some.is))

pub returns : goal.returns
returns c =
    let x = c.args in
    let it = says_so (line_says (take x.filled x.line.now)) (sym c.said_by.ensures ∙ c.in-Some.is) in
    let o = says_opens x.state x.line.now x.out.now x.filled _ _ it c.stretch_in.new.line c.stretch_in.ensures in
    record { value = o.0; line_after = o.1.0; out_after = o.1.1; given_le_message_room = omega arith }
