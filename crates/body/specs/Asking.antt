-- What the functions that write rows ask of what they are lent, under one name each.
use Rattle.std.specs.Prelude.{◌≡◌, List, ℕ, ◌+◌, ◌*◌, ◌^◌, ◌≤◌, ◌<◌, ℤ, length}
use Rattle.format.specs.Masks.{Satellite}
use Rattle.format.specs.Rows.{Line, body_width}
use Rattle.rows.specs.declared.shape.Shape.{Shape}
use Rattle.holding.specs.Held.{slot_satellites}
use Rattle.rows.specs.Shapes.{columns_in, FormedShape, Laid, Narrow}
use Rattle.rows.specs.Table.{shape_for}
use Rattle.table.specs.Bodies.{lines_in, Fits}
use Rattle.table.specs.declared.Keys.{Keys}
use Rattle.table.specs.declared.Keys.TheVariants.{Satellites, Cells, Parts}
use Rattle.body.specs.declared.Placed.{Placed}
use Rattle.body.specs.declared.Wanted.{Wanted}
use Rattle.body.specs.Chosen.{alone, striped, chosen_lines}
use Rattle.body.specs.Lent.{view_by, Lent, Slots}
use Rattle.body.specs.Written.{Room}

-- the lines that are wanted: one for each satellite, or one for each cell
abbrev pub alone_in : Wanted → List Satellite → List Line
alone_in wanted sats = chosen_lines wanted.chosen (alone (columns_in wanted.shape) sats)

abbrev pub striped_in : Wanted → List Satellite → List ℕ → List Line
striped_in wanted sats strips = chosen_lines wanted.chosen (striped (columns_in wanted.shape) sats strips)

-- a shape that is well formed and of some kind, and room for the lines
pub record Asks (Kind : Shape → Type 0) (lines : List Line) (bytes : List ℕ) (wanted : Wanted) (rows : List ℤ) : Type 0 where
  pub formed : FormedShape wanted.shape
  pub kind : Kind wanted.shape
  pub room : Room lines bytes wanted.at rows

-- the cells of all slots, each satellite with its strip
abbrev pub AsksCells : List ℕ → List ℕ → List ℕ → List ℕ → Wanted → List ℤ → Type 0
AsksCells ids masks strips bytes wanted rows =
    let sats = slot_satellites ids masks in
    Slots ids masks × (length sats ≤ length strips) × Asks Narrow (striped_in wanted sats strips) bytes wanted rows

-- a body under what is lent, of so many bits and rows, and room for these
pub record Fills (ids masks strips : List ℕ) (placed : Placed) (rows : List ℤ) : Type 0 where
  pub lent : Lent ids masks strips
  pub fits : Fits placed.body
  pub bits : placed.bits ≡ body_width (lines_in (view_by ids masks strips) placed.body)
  pub count : placed.rows ≡ length (lines_in (view_by ids masks strips) placed.body)
  pub near : placed.at + placed.bits < 2 ^ 32
  pub room : 8 * length (lines_in (view_by ids masks strips) placed.body) ≤ length rows

-- a body's shape is of the kind that the rows of its keys have; a packet's part has one shape alone
unfoldable pub Kinded : Keys → ℕ → Type 0
Kinded (Satellites chosen) shape = Laid (shape_for shape)
Kinded (Cells chosen) shape = Narrow (shape_for shape)
Kinded (Parts n) shape = Unit {0}

-- and there is room for its rows, with windows up to the last one
pub record Writes (ids masks strips : List ℕ) (placed : Placed) (bytes : List ℕ) (rows : List ℤ) : Type 0 where
  pub lent : Lent ids masks strips
  pub kind : Kinded placed.body.keys placed.body.shape
  pub room : Room (lines_in (view_by ids masks strips) placed.body) bytes placed.at rows
