-- What the code answers to a walk, by crate format's walk.
use Rattle.std.specs.Prelude.{List, ℕ, ℤ}
use Rattle.format.specs.Reading.{answer_of}
use Rattle.format.specs.Walking.{Walk, walk, messages, row_count}
use Rattle.holding.specs.declared.Holding.{Holding}
use Rattle.holding.specs.Pictures.{lent_by}
use Rattle.reader.specs.Readings.{holding_after}
use Rattle.walk.specs.declared.Tally.{Tally}
use Rattle.walk.specs.declared.Halt.{Halt}

-- walking under a lent holding
unfoldable pub walk_at : Holding → List ℕ → ℕ → List ℤ → Walk
walk_at h bytes end rows = walk (lent_by h) bytes end rows

-- the stop's place, the messages and their rows
abbrev pub tally_of : Walk → Tally
tally_of w = record { place = w.place; messages = messages w; rows = row_count w.handed }

unfoldable pub walked_of : Holding → Walk → Halt
walked_of h w = record { stop = answer_of w.stop; tally = tally_of w; holding = holding_after h w.stop }
