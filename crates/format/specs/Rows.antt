-- Rows of eight numbers: system, satellite, signal place, v1 to v5; document 01, "What is handed out".
use Rattle.std.specs.Prelude.{List, [], ◌∷◌, ◌++◌, Bool, ℕ, ◌+◌, ℤ, pos, negsuc, take, drop}
use Rattle.bits.specs.BitLists.{number, spell}
use Rattle.bits.specs.Signed.{signed, unsigned}

-- what isn't there: -32768
abbrev pub absent : ℤ
absent = negsuc 32767

-- a column of v1 to v5: nothing, a number of w bits, or two's complement of w bits
pub data Column : Type 0 where
  gap : Column
  plain : ℕ → Column
  counts : ℕ → Column

-- a row to come: its three keys and the shape of its values
pub record Line : Type 0 where
  pub keys : List ℤ
  pub shape : List Column

unfoldable pub width_of : Column → ℕ
width_of gap = 0
width_of (plain w) = w
width_of (counts w) = w

-- what a column makes of the number in its bits
unfoldable pub value_of : Column → ℕ → ℤ
value_of gap n = absent
value_of (plain w) n = pos n
value_of (counts w) n = signed w n

unfoldable pub shape_width : List Column → ℕ
shape_width [] = 0
shape_width (c ∷ cs) = width_of c + shape_width cs

unfoldable pub values_of : List Column → List Bool → List ℤ
values_of [] l = []
values_of (c ∷ cs) l = value_of c (number (take (width_of c) l)) ∷ values_of cs (drop (width_of c) l)

-- the body's width is the sum over its lines of the widths of their shapes
unfoldable pub body_width : List Line → ℕ
body_width [] = 0
body_width (n ∷ ns) = shape_width n.shape + body_width ns

-- the rows that a body makes: the k-th fields go to the k-th line
unfoldable pub rows_of : List Line → List Bool → List (List ℤ)
rows_of [] l = []
rows_of (n ∷ ns) l = (n.keys ++ values_of n.shape l) ∷ rows_of ns (drop (shape_width n.shape) l)

-- ---- the other way round: the bits of values

unfoldable pub spell_values : List Column → List ℤ → List Bool
spell_values [] vs = []
spell_values (c ∷ cs) [] = []
spell_values (c ∷ cs) (v ∷ vs) = spell (width_of c) (unsigned (width_of c) v) ++ spell_values cs vs

unfoldable pub spell_rows : List Line → List (List ℤ) → List Bool
spell_rows [] rows = []
spell_rows (n ∷ ns) [] = []
spell_rows (n ∷ ns) (r ∷ rs) = spell_values n.shape (drop 3 r) ++ spell_rows ns rs
