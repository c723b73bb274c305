-- Columns and shapes as the code has them: a column as the numbers with which its bits are turned into its value without a branch.
use Rattle.std.specs.Prelude.{◌≡◌, Bool, true, false, cond, List, [], ◌∷◌, ℕ, ◌+◌, ◌-◌, ◌^◌, ◌≤◌, ◌⊎◌, eqb, get_or}
use Rattle.format.specs.Messages.{iode_width}
use Rattle.format.specs.Rows.{Column, gap, plain, counts}
use Rattle.rows.specs.declared.shape.Column.{Column as CodeColumn}
use Rattle.rows.specs.declared.shape.Shape.{Shape}

-- ---- columns

-- A value is ((bits + half) modulo 2 ^ width) - half: the mask is 2 ^ width - 1, half is 2 ^ (width - 1) for two's complement and 0 for a number;
-- a gap has no bits and is 32768 less than 0.
unfoldable pub column_for : Column → CodeColumn
column_for gap = record { width = 0; half = 32768; mask = 0 }
column_for (plain w) = record { width = w; half = 0; mask = 2 ^ w - 1 }
column_for (counts w) = record { width = w; half = 2 ^ (w - 1); mask = 2 ^ w - 1 }

-- the column that such numbers are
unfoldable pub column_of : CodeColumn → Column
column_of c = cond (eqb c.width 0) gap (cond (eqb c.half 0) (plain c.width) (counts c.width))

-- numbers that are a column's, of at most 15 bits
pub record Formed (c : CodeColumn) : Type 0 where
  pub numbers : column_for (column_of c) ≡ c
  pub narrow : c.width ≤ 15

-- ---- shapes

-- five columns as they stand
unfoldable pub columns_of : Shape → List Column
columns_of s = column_of s.v1 ∷ column_of s.v2 ∷ column_of s.v3 ∷ column_of s.v4 ∷ column_of s.v5 ∷ []

-- those of a system's rows: an IODE is as wide as the system has it
unfoldable pub columns_in : Shape → ℕ → List Column
columns_in s system =
    cond s.iode (plain (iode_width system)) (column_of s.v1) ∷ column_of s.v2 ∷ column_of s.v3 ∷ column_of s.v4 ∷ column_of s.v5 ∷ []

-- and the shape that has them
unfoldable pub shape_on : Shape → ℕ → Shape
shape_on s system =
    record {
      iode = s.iode;
      v1 = cond s.iode (column_for (plain (iode_width system))) s.v1;
      v2 = s.v2;
      v3 = s.v3;
      v4 = s.v4;
      v5 = s.v5;
    }

-- the shape of five columns
unfoldable pub shape_with : Bool → List Column → Shape
shape_with iode cs =
    record {
      iode = iode;
      v1 = column_for (get_or cs 0 gap);
      v2 = column_for (get_or cs 1 gap);
      v3 = column_for (get_or cs 2 gap);
      v4 = column_for (get_or cs 3 gap);
      v5 = column_for (get_or cs 4 gap);
    }

-- an orbit's, whose IODE has so many bits, and one column more
unfoldable pub orbit_of : ℕ → CodeColumn → Shape
orbit_of iode c =
    record {
      iode = true;
      v1 = column_for (plain iode);
      v2 = column_for (counts 15);
      v3 = column_for (counts 13);
      v4 = column_for (counts 13);
      v5 = c;
    }

-- gaps instead of an orbit, and one column
unfoldable pub last_of : CodeColumn → Shape
last_of c = record { iode = false; v1 = column_for gap; v2 = column_for gap; v3 = column_for gap; v4 = column_for gap; v5 = c }

-- five columns that are formed, the first four within one window, also where the first is an IODE of 10 bits
pub record FormedShape (s : Shape) : Type 0 where
  pub first : Formed s.v1
  pub second : Formed s.v2
  pub third : Formed s.v3
  pub fourth : Formed s.v4
  pub fifth : Formed s.v5
  pub window : s.v1.width + s.v2.width + s.v3.width + s.v4.width ≤ 56
  pub longest : 10 + s.v2.width + s.v3.width + s.v4.width ≤ 56

-- what a satellite's row may be: an orbit and one column more; else the fourth column is a gap, and the fifth or the first three are
pub record Laid (s : Shape) : Type 0 where
  pub orbit : s.iode ≡ true → s ≡ orbit_of s.v1.width s.v5
  pub fourth : s.iode ≡ false → s.v4.width ≡ 0
  pub others : s.iode ≡ false → (s.v5.width ≡ 0) ⊎ (s.v1.width + s.v2.width + s.v3.width ≡ 0)

-- what a cell's row may be: three columns and two gaps. With the first and the third it is a code bias, a phase bias and its discontinuity indicator
-- (document 02, Ask 1); without both it has none
pub record Narrow (s : Shape) : Type 0 where
  pub iode : s.iode ≡ false
  pub fourth : s.v4.width ≡ 0
  pub fifth : s.v5.width ≡ 0
  pub whole : 1 ≤ s.v1.width → 1 ≤ s.v3.width → s ≡ shape_with false (counts 11 ∷ counts 15 ∷ plain 2 ∷ gap ∷ gap ∷ [])
  pub none : s.v1.width ≡ 0 → s.v3.width ≡ 0 → s.v2.width ≡ 0
