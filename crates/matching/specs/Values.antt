-- Which rows have no signal, and values that their columns can mean: what is left to test of sub type 11's rows where their satellites are known to be right;
-- document 01, "What is handed out", and refusal 12.
use Rattle.std.specs.Prelude.{Bool, true, false, cond, ◌&&◌, List, [], ◌∷◌, ◌≡◌, ℕ, ℤ, pos, get_or, drop}
use Rattle.format.specs.Rows.{absent, Column}
use Rattle.format.specs.Same.{sameℤ}
use Rattle.rows.specs.declared.shape.Shape.{Shape}
use Rattle.rows.specs.Shapes.{orbit_of, last_of, Formed}
use Rattle.fitting.specs.Fits.{values_fit}

-- the system whose columns a row has, by its first key: only Galileo's differ from those of any other
unfoldable pub own_system : ℤ → ℕ
own_system key = cond (sameℤ key (pos 2)) 2 0

-- a row without a signal, whose values fit its own columns
unfoldable pub row_valued : (ℕ → List Column) → List ℤ → Bool
row_valued columns r = sameℤ (get_or r 2 (pos 0)) absent && values_fit (columns (own_system (get_or r 0 (pos 0)))) (drop 3 r)

-- and each row
unfoldable pub rows_valued : (ℕ → List Column) → List (List ℤ) → Bool
rows_valued columns [] = true
rows_valued columns (r ∷ rs) = row_valued columns r && rows_valued columns rs

-- the shapes by the two flags of sub type 11: an orbit and one column more, or that column alone
pub record Flagged (s : Shape) : Type 0 where
  pub orbit : s.iode ≡ true → s ≡ orbit_of s.v1.width s.v5
  pub last : s.iode ≡ false → s ≡ last_of s.v5
  pub fifth : Formed s.v5
