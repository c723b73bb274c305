-- How far rows fit lines: they are tested line by line from a number of those lent on, up to the first that does not fit.
use Rattle.std.specs.Prelude.{cond, ◌&&◌, List, [], ◌∷◌, ◌≡◌, ℕ, ◌+◌, ◌*◌, ◌%◌, ◌^◌, leb, ℤ, length, take, drop}
use Rattle.body.specs.Chosen.{chosen_lines}
use Rattle.format.specs.Messages.{iode_width}
use Rattle.format.specs.Rows.{Column, Line, gap}
use Rattle.rows.specs.declared.row.Key.{Key}
use Rattle.rows.specs.declared.shape.Column.{Column as CodeColumn}
use Rattle.rows.specs.declared.shape.Shape.{Shape}
use Rattle.rows.specs.Shapes.{column_of, columns_of, orbit_of}
use Rattle.rows.specs.Table.{shape_for}
use Rattle.table.specs.declared.Body.{Body}
use Rattle.table.specs.Bodies.{Fits}
use Rattle.matching.specs.declared.fits.Matched.{Matched}
use Rattle.matching.specs.declared.fits.Matched.TheVariants.{Not, To}
use Rattle.matching.specs.declared.fits.cells.Passed.{Passed as StripsPassed}
use Rattle.matching.specs.declared.fits.cells.Passed.TheVariants as Strips
use Rattle.matching.specs.declared.fits.satellites.Passed.{Passed}
use Rattle.matching.specs.declared.fits.satellites.Passed.TheVariants.{Stopped, On}
use Rattle.fitting.specs.Fits.{row_fits}

-- a line as the code has it: its keys and its shape
abbrev pub keys_of : Key → List ℤ
keys_of key = key.system ∷ key.satellite ∷ key.signal ∷ []

abbrev pub line_of : Key → Shape → Line
line_of key s = record { keys = keys_of key; shape = columns_of s }

-- the same of a cell: three columns, with gaps behind
abbrev pub cell_columns : CodeColumn → CodeColumn → CodeColumn → List Column
cell_columns v1 v2 v3 = column_of v1 ∷ column_of v2 ∷ column_of v3 ∷ gap ∷ gap ∷ []

abbrev pub cell_of : Key → CodeColumn → CodeColumn → CodeColumn → Line
cell_of key v1 v2 v3 = record { keys = keys_of key; shape = cell_columns v1 v2 v3 }

-- a body whose keys can have its shape, with that shape of the table
pub record MadeFor (body : Body) (s : Shape) : Type 0 where
  pub fits : Fits body
  pub made : s ≡ shape_for body.shape

-- the shape of a system's rows: an IODE is as wide as the system has it
unfoldable pub shape_on : Shape → ℕ → Shape
shape_on s system = cond s.iode (orbit_of (iode_width system) s.v5) s

-- a row for each line, each of eight numbers, from the k-th on: where the last one ends, or that one is missing or does not fit
unfoldable pub matched_at : List Line → List ℤ → ℕ → Matched
matched_at [] numbers k = To k
matched_at (n ∷ ns) numbers k = cond (leb (k + 8) (length numbers) && row_fits n (take 8 (drop k numbers))) (matched_at ns numbers (k + 8)) Not

-- of satellites that a selection chooses also which selection is left for those behind
unfoldable pub hand_on : ℕ → Matched → Passed
hand_on marks Not = Stopped
hand_on marks (To k) = On k marks

unfoldable pub passed_at : ℕ → List (List Line) → List ℤ → ℕ → Passed
passed_at chosen groups numbers k = hand_on (chosen * 2 ^ length groups % 2 ^ 64) (matched_at (chosen_lines chosen groups) numbers k)

-- and of cells how many satellites that were, each with its strip
unfoldable pub counted : ℕ → Passed → StripsPassed
counted n Stopped = Strips.Stopped
counted n (On k marks) = Strips.On k n marks

unfoldable pub strips_passed_at : ℕ → List (List Line) → List ℤ → ℕ → StripsPassed
strips_passed_at chosen groups numbers k = counted (length groups) (passed_at chosen groups numbers k)
