-- How many bits rows have, told by the rows: what is asked of them.
use Rattle.std.specs.Prelude.{◌≡◌, true, List, ℕ, ◌*◌, ◌≤◌, ℤ, length}
use Rattle.format.specs.Lengths.{total}
use Rattle.format.specs.Messages.{iode_width}
use Rattle.rows.specs.declared.shape.Shape.{Shape}
use Rattle.rows.specs.Shapes.{orbit_of, FormedShape}
use Rattle.putting.specs.Putting.{row_system}

-- how many bits an IODE in each row has together
abbrev pub iode_bits : List (List ℤ) → ℕ
iode_bits rows = total (λ r. iode_width (row_system r)) rows

-- so many rows of a row buffer, and a shape that has an IODE of most systems, if any
pub record Sized (s : Shape) (rows : List ℤ) (count : ℕ) : Type 0 where
  pub formed : FormedShape s
  pub orbit : s.iode ≡ true → s ≡ orbit_of 8 s.v5
  pub whole : 8 * count ≤ length rows
  pub few : count ≤ 256
