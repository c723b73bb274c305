-- A listing begins well: an empty line, room for a line, a message's rows and a step's text.
use Rattle.std.proofs.Common.{arith}
use Rattle.lister.specs.Steps.{GoodWork}
use Rattle.listing.proofs.run.Run.new.Goals as goal

pub returns : goal.returns
unfolding GoodWork
returns g c = record { good = record { held = c.requires; room = omega arith; numbers = omega arith; work = omega arith } }
