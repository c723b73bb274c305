-- A body whose keys are written first and whose values come last.
use Rattle.std.specs.Prelude.{List, ◌++◌, ℕ, zero, suc, ◌+◌, ℤ, take, drop}
use Rattle.format.specs.Rows.{shape_width}
use Rattle.rows.specs.At.{columns_on, valued_at}
use Rattle.rows.specs.declared.shape.Shape.{Shape}
use Rattle.body.specs.declared.Placed.{Placed}

-- for its keys alone a body has rows of gaps
unfoldable pub named : Placed → Placed
named p = record { body = record { keys = p.body.keys; shape = 0 }; bits = p.bits; rows = p.rows; at = 0 }

-- n rows whose keys stand there, with their values from a place on
unfoldable pub valued : Shape → List ℕ → ℕ → ℕ → List ℤ → List ℤ
valued s bs zero at rows = rows
valued s bs (suc n) at rows = valued_at s bs at (take 8 rows) ++ valued s bs n (at + shape_width (columns_on s (take 8 rows))) (drop 8 rows)
