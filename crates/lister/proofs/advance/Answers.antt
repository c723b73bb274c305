use Rattle.std.proofs.Common.{arith}
use Rattle.lister.proofs.Advances.{gathers_made, opens_made, lists_made, gathers_under, opens_under, lists_under}
use Rattle.lister.proofs.advance.Goals as goal

pub gather-work-requires : goal.gather-work-requires
gather-work-requires c = gathers_under c.args.state c.args.line.now c.args.rows.now c.requires.0 _ c.in-Gathering.is

pub open-requires : goal.open-requires
open-requires c = (opens_under c.args.state c.args.line.now c.args.rows.now c.requires.0 _ c.in-Whole.is, c.requires.1)

pub onward-requires : goal.onward-requires
onward-requires c = (lists_under c.args.state c.args.line.now c.args.rows.now c.requires.0 _ _ c.in-Walking.is, c.requires.1)

pub returns-in-Gathering : goal.returns-in-Gathering
returns-in-Gathering c =
    let x = c.args in
    let told = c.gather-work.ensures in
    let made = gathers_made x.state x.line.now x.rows.now x.piece.now x.out.now _ c.in-Gathering.is c.gather-work.result _ (told.value, told.line_after) in
    record { value = made.0; line_after = made.1.0; rows_after = made.1.1.0; out_after = made.1.1.1; given_le_message_room = omega arith }

pub returns-in-Whole : goal.returns-in-Whole
returns-in-Whole c =
    let x = c.args in
    let told = c.«open».ensures in
    let made = opens_made x.state x.line.now x.rows.now x.piece.now x.out.now _ c.in-Whole.is c.«open».result _ _ (told.value, (told.line_after, told.out_after)) in
    record { value = made.0; line_after = made.1.0; rows_after = made.1.1.0; out_after = made.1.1.1; given_le_message_room = told.given_le_message_room }

pub returns-in-Walking : goal.returns-in-Walking
returns-in-Walking c =
    let x = c.args in
    let told = c.onward.ensures in
    let made = lists_made x.state x.line.now x.rows.now x.piece.now x.out.now _ _ c.in-Walking.is c.onward.result _ _ (told.value, (told.rows_after, told.out_after)) in
    record { value = made.0; line_after = made.1.0; rows_after = made.1.1.0; out_after = made.1.1.1; given_le_message_room = told.given_le_message_room }
