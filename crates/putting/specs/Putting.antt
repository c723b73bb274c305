-- The rows of a body as fields for a pen: two for each row, the first four of its values together and the fifth; document 01, "Message layouts".
use Rattle.std.specs.Prelude.{◌≡◌, Bool, true, not, ◌&&◌, List, [], ◌∷◌, ◌++◌, ℕ, ◌+◌, ◌*◌, ◌≤◌, eqb, ltb, ℤ, pos, negsuc, length, take, drop}
use Rattle.bits.specs.BitLists.{number}
use Rattle.format.specs.Messages.{iode_width}
use Rattle.format.specs.Rows.{Column, Line, shape_width, spell_values}
use Rattle.format.specs.Writing.{rows_in}
use Rattle.rows.specs.declared.shape.Column.{Column as CodeColumn}
use Rattle.rows.specs.declared.shape.Shape.{Shape}
use Rattle.rows.specs.Shapes.{columns_of, columns_in, orbit_of, FormedShape}
use Rattle.rows.specs.Table.{shape_for}
use Rattle.pens.specs.declared.pen.Field.{Field}
use Rattle.pens.specs.declared.pen.Pen.{Pen}
use Rattle.fitting.specs.Fits.{values_fit}
use Rattle.pens.specs.Pens.{Ready}

-- ---- the fields

-- the system that a key names, 0 where it names none: only an IODE's width goes by it
unfoldable pub system_of : ℤ → ℕ
system_of (pos n) = n
system_of (negsuc n) = 0

-- that of a row, by its first key
unfoldable pub row_system : List ℤ → ℕ
row_system [] = 0
row_system (k ∷ ks) = system_of k

-- the columns of a row in a shape
abbrev pub row_columns : Shape → List ℤ → List Column
row_columns s row = columns_in s (row_system row)

-- values in their columns, as one field
unfoldable pub together : List Column → List ℤ → Field
together cs vs = record { width = shape_width cs; value = number (spell_values cs vs) }

-- four of them together fit one setting, five need not
unfoldable pub two_fields : List Column → List ℤ → List Field
two_fields cs vs = together (take 4 cs) (take 4 vs) ∷ together (drop 4 cs) (drop 4 vs) ∷ []

abbrev pub fields_of : Shape → List ℤ → List Field
fields_of s row = two_fields (row_columns s row) (drop 3 row)

unfoldable pub row_fields : Shape → List (List ℤ) → List Field
row_fields s [] = []
row_fields s (r ∷ rs) = fields_of s r ++ row_fields s rs

-- ---- what is asked of the rows: that the values of each fit its columns

pub data Fitting (s : Shape) : List (List ℤ) → Type 0 where
  none : Fitting s []
  more : {r : List ℤ} {rs : List (List ℤ)} → values_fit (row_columns s r) (drop 3 r) ≡ true → Fitting s rs → Fitting s (r ∷ rs)

-- ---- a row in a shape whose columns are its own, an IODE's too

-- its two fields
abbrev pub front_field : Shape → List ℤ → Field
front_field s row = together (take 4 (columns_of s)) (take 4 (drop 3 row))

abbrev pub last_field : Shape → List ℤ → Field
last_field s row = together (drop 4 (columns_of s)) (drop 4 (drop 3 row))

abbrev pub own_fields : Shape → List ℤ → List Field
own_fields s row = two_fields (columns_of s) (drop 3 row)

-- the shape of an orbit's row
abbrev pub orbit_on : CodeColumn → List ℤ → Shape
orbit_on v5 row = orbit_of (iode_width (row_system row)) v5

-- eight numbers, of which the values fit the columns
pub record Valued (s : Shape) (row : List ℤ) : Type 0 where
  pub formed : FormedShape s
  pub eight : length row ≡ 8
  pub fits : values_fit (columns_of s) (drop 3 row) ≡ true

-- and a pen for them
pub record PutsRow (s : Shape) (row : List ℤ) (pen : Pen) (bytes : List ℕ) : Type 0 where
  pub valued : Valued s row
  pub ready : Ready pen (own_fields s row) bytes

-- ---- so many rows of a row buffer

-- rows of three columns, of which the first is one
unfoldable pub triples : Shape → Bool
triples s = not (ltb 0 s.v4.width) && not (eqb s.v1.width 0) && ltb 0 s.v3.width

pub record PutsRows (s : Shape) (rows : List ℤ) (count : ℕ) (pen : Pen) (bytes : List ℕ) : Type 0 where
  pub formed : FormedShape s
  pub orbit : s.iode ≡ true → s ≡ orbit_of s.v1.width s.v5
  pub triple : triples s ≡ true → s ≡ shape_for 11
  pub whole : 8 * count ≤ length rows
  pub fitting : Fitting s (rows_in count rows)
  pub ready : Ready pen (row_fields s (rows_in count rows)) bytes

-- rows of two columns and three gaps
unfoldable pub pairs : Shape → Bool
pairs s = not s.iode && eqb (s.v3.width + s.v4.width + s.v5.width) 0

-- rows of the last column alone, if any, where none is an IODE
unfoldable pub ends : Shape → Bool
ends s = eqb (s.v1.width + s.v2.width + s.v3.width + s.v4.width) 0

-- ---- lines of one shape

-- each has the columns that its own keys say
pub data Shaped (s : Shape) : List Line → Type 0 where
  shaped_none : Shaped s []
  shaped_more : {n : Line} {ns : List Line} → n.shape ≡ row_columns s n.keys → Shaped s ns → Shaped s (n ∷ ns)
