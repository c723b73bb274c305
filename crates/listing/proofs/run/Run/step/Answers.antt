-- What a step is made under stays, and it takes no more than there is.
use Rattle.lister.specs.Steps.{Good}
use Rattle.listing.proofs.Turns.{made_good, made_takes}
use Rattle.listing.proofs.run.Run.step.Goals as goal

pub returns-clause-good : goal.returns-clause-good
returns-clause-good g c =
    let room = c.make_room.ensures in
    let run = c.make_room.new.self in
    let e = c.advance-step.ensures in
    let good : Good c.args.state run.line run.rows = rw (room.line, room.rows) c.requires in
    made_good c.args.state run.line run.rows c.args.piece.now c.advance-step.result e.value _ e.line_after _ e.rows_after good

pub returns-clause-taken_in_bounds : goal.returns-clause-taken_in_bounds
returns-clause-taken_in_bounds g c =
    let run = c.make_room.new.self in
    made_takes c.args.state run.line run.rows c.args.piece.now c.advance-step.result c.advance-step.ensures.value
