-- What is loaded is sound.
use Rattle.listing.proofs.Sounds.{loading_sound}
use Rattle.listing.proofs.asked.from_line.Goals as goal

pub returns-clause-sound : goal.returns-clause-sound
returns-clause-sound c = rw c.load-loading.ensures (loading_sound _)
