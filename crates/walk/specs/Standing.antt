-- Where a walk stands between two readings, and what is left of it from there.
use Rattle.std.specs.Prelude.{◌≡◌, true, List, ℕ, ◌+◌, ◌*◌, ◌≤◌, ℤ, length}
use Rattle.format.specs.Masks.{lent, held_in}
use Rattle.format.specs.Reading.{stretch_limit, row_room, lent_after, answer_of}
use Rattle.format.specs.Table.{table}
use Rattle.format.specs.Walking.{Walk, walk_on, messages, row_count}
use Rattle.holding.specs.declared.Holding.{Holding}
use Rattle.holding.specs.Outlines.{whole_of}
use Rattle.holding.specs.Pictures.{picture_of, mask_of, sound}
use Rattle.walk.specs.declared.Tally.{Tally}
use Rattle.walk.specs.declared.Halt.{Halt}
use Rattle.walk.specs.declared.Stopped.{Stopped}

-- what is held, the place with what was handed out before it, the row buffer
pub record Stand : Type 0 where
  pub holding : Holding
  pub tally : Tally
  pub rows : List ℤ

abbrev pub stand_at : Holding → Tally → List ℤ → Stand
stand_at holding tally rows = record { holding = holding; tally = tally; rows = rows }

-- where counting begins, at a place; and where a walk does, at place 0
abbrev pub stand_from : Holding → ℕ → List ℤ → Stand
stand_from holding place rows = stand_at holding (record { place = place; messages = 0; rows = 0 }) rows

abbrev pub stand_first : Holding → List ℤ → Stand
stand_first holding rows = stand_from holding 0 rows

-- all of it is good, in a stretch
pub record Stands (bytes : List ℕ) (end : ℕ) (s : Stand) : Type 0 where
  pub held : sound s.holding ≡ true
  pub lent : end ≤ 8 * length bytes
  pub limit : end ≤ stretch_limit
  pub there : s.tally.place ≤ end
  pub room : row_room ≤ length s.rows
  pub few : s.tally.messages ≤ s.tally.place
  pub rows : s.tally.rows ≤ 256 * s.tally.messages

-- the walk from there on
unfoldable pub rest_of : List ℕ → ℕ → Stand → Walk
rest_of bytes end s = walk_on table (lent (mask_of s.holding)) bytes end s.tally.place s.rows

-- what a walk answers, with the masks and strips that it leaves
abbrev pub halt_of : Stopped → List ℕ → List ℕ → Halt
halt_of r satellites strips = record { stop = r.stop; tally = r.tally; holding = whole_of r.outline satellites strips }

-- what the whole walk then answers, and what it leaves in the row buffer
unfoldable pub walked_with : ℕ → ℕ → Walk → Halt
walked_with before count w =
    record {
      stop = answer_of w.stop;
      tally = record { place = w.place; messages = before + messages w; rows = count + row_count w.handed };
      holding = picture_of (held_in (lent_after w.stop));
    }

unfoldable pub walked_from : List ℕ → ℕ → Stand → Halt
walked_from bytes end s = walked_with s.tally.messages s.tally.rows (rest_of bytes end s)

unfoldable pub rows_from : List ℕ → ℕ → Stand → List ℤ
rows_from bytes end s = (rest_of bytes end s).rows
