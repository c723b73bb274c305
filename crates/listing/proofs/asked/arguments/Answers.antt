-- The empty holding is sound.
use Rattle.listing.proofs.Sounds.{empty_sound}
use Rattle.listing.proofs.asked.arguments.Goals as goal

pub returns-in-Err-NotPresent : goal.returns-in-Err-NotPresent
returns-in-Err-NotPresent g c = empty_sound c.empty-holding.result c.empty-holding.ensures
