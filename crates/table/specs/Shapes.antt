-- Four shapes in a row of the table of shapes, by two flags.
use Rattle.std.specs.Prelude.{Bool, List, ℕ, ◌+◌, ◌*◌}
use Rattle.bits.specs.BitLists.{digit}
use Rattle.format.specs.Rows.{Column}
use Rattle.rows.specs.Table.{shape_at}

-- the first being for neither
unfoldable pub shapes_from : ℕ → Bool → Bool → ℕ → List Column
shapes_from i a b = shape_at (i + (digit a * 2 + digit b))
