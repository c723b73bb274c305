-- The rows of a body by places of a byte string: what crate format's rowsOf makes of the bits there.
use Rattle.std.specs.Prelude.{List, [], ◌∷◌, ◌++◌, ℕ, ◌+◌, ℤ, pos, get_or, take}
use Rattle.std.specs.Int.Signed.{mag}
use Rattle.bits.specs.Places.{field}
use Rattle.format.specs.Rows.{Column, Line, width_of, value_of, shape_width}
use Rattle.rows.specs.declared.shape.Shape.{Shape}
use Rattle.rows.specs.Shapes.{columns_in}

unfoldable pub values_at : List Column → List ℕ → ℕ → List ℤ
values_at [] bs at = []
values_at (c ∷ cs) bs at = value_of c (field bs at (width_of c)) ∷ values_at cs bs (at + width_of c)

unfoldable pub rows_at : List Line → List ℕ → ℕ → List (List ℤ)
rows_at [] bs at = []
rows_at (n ∷ ns) bs at = (n.keys ++ values_at n.shape bs at) ∷ rows_at ns bs (at + shape_width n.shape)

-- the columns of a row whose keys stand there, by the system that is the first of them
abbrev pub columns_on : Shape → List ℤ → List Column
columns_on s row = columns_in s (mag (get_or row 0 (pos 0)))

-- such a row with its values
unfoldable pub valued_at : Shape → List ℕ → ℕ → List ℤ → List ℤ
valued_at s bs at row = take 3 row ++ values_at (columns_on s row) bs at
