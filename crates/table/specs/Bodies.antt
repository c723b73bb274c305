-- Which lines a body has, by what a holding shows: over which keys, and in which shape.
use Rattle.std.specs.Prelude.{Bool, true, ◌&&◌, List, [], ◌∷◌, ◌≡◌, ℕ, ◌≤◌, ltb}
use Rattle.bits.specs.BitLists.{spell}
use Rattle.format.specs.Masks.{pick}
use Rattle.format.specs.Messages.{satellite_lines, cell_lines, packet_lines}
use Rattle.format.specs.Rows.{Line, shape_width}
use Rattle.holding.specs.Held.{View, strip_cells}
use Rattle.table.specs.declared.Body.{Body}
use Rattle.table.specs.declared.Keys.{Keys}
use Rattle.table.specs.declared.Keys.TheVariants.{Satellites, Cells, Parts}
use Rattle.rows.specs.Shapes.{Laid, Narrow}
use Rattle.rows.specs.Table.{shape_at, shape_for}

-- a selection's 64 bits choose among satellites, and with each its strip
unfoldable pub lines_over : View → Keys → ℕ → List Line
lines_over v (Satellites chosen) shape = satellite_lines (shape_at shape) (pick (spell 64 chosen) v.satellites)
lines_over v (Cells chosen) shape = cell_lines (shape_at shape) (strip_cells (pick (spell 64 chosen) v.satellites) (pick (spell 64 chosen) v.strips))
lines_over v (Parts n) shape = packet_lines 1 n

unfoldable pub lines_in : View → Body → List Line
lines_in v body = lines_over v body.keys body.shape

-- strips that each have a signal
unfoldable pub all_set : List ℕ → Bool
all_set [] = true
all_set (x ∷ xs) = ltb 0 x && all_set xs

-- A body's shape is one that its keys can have: the longest row of a cell has 28 bits. A packet has four parts at most.
unfoldable pub FitsKeys : Keys → ℕ → Type 0
FitsKeys (Satellites chosen) shape = Laid (shape_for shape)
FitsKeys (Cells chosen) shape = Narrow (shape_for shape) × (shape_width (shape_at shape 0) ≤ 28)
FitsKeys (Parts n) shape = (n ≤ 4) × (shape ≡ 7)

abbrev pub Fits : Body → Type 0
Fits body = FitsKeys body.keys body.shape
