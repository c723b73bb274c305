-- How long a body is; what writing some rows asks of the part of the row buffer lent to it, and what it leaves there.
use Rattle.std.specs.Prelude.{◌≡◌, ℕ, ◌+◌, ◌*◌, ◌%◌, ◌^◌, ◌≤◌, ◌<◌, ℤ, length}
use mathlib.Core.List.{List, flatten}
use Rattle.body.specs.declared.End.{End}
use Rattle.body.specs.declared.Extent.{Extent}
use Rattle.body.specs.declared.Passed.{Passed}
use Rattle.body.specs.Chosen.{chosen_lines}
use Rattle.rows.specs.At.{rows_at}
use Rattle.format.specs.Reading.{over}
use Rattle.format.specs.Rows.{Line, body_width}

-- the numbers of all rows, one row after the other
abbrev pub numbers_at : List Line → List ℕ → ℕ → List ℤ
numbers_at lines bytes at = flatten (rows_at lines bytes at)

-- the part has room for the rows, no number and no place is as far as 2 ^ 32, and windows are there up to the last row
pub record Room (lines : List Line) (bytes : List ℕ) (at : ℕ) (rows : List ℤ) : Type 0 where
  pub room : length (numbers_at lines bytes at) ≤ length rows
  pub few : length (numbers_at lines bytes at) < 2 ^ 32
  pub near : at + body_width lines < 2 ^ 32
  pub whole : at + body_width lines + 120 ≤ 8 * length bytes

-- the rows stand first in it, and what was returned says how many numbers they are and where their bits end
pub record Wrote (lines : List Line) (bytes : List ℕ) (at : ℕ) (rows after : List ℤ) (end : End) : Type 0 where
  pub numbers : after ≡ over (numbers_at lines bytes at) rows
  pub filled : end.filled ≡ length (numbers_at lines bytes at)
  pub place : end.at ≡ at + body_width lines

-- and of satellites that a selection chooses also which selection is left for those behind
pub record Handed (chosen : ℕ) (groups : List (List Line)) (bytes : List ℕ) (at : ℕ) (rows after : List ℤ) (passed : Passed) : Type 0 where
  pub wrote : Wrote (chosen_lines chosen groups) bytes at rows after passed.end
  pub marks : passed.marks ≡ chosen * 2 ^ length groups % 2 ^ 64

-- the bits and the rows of a body
pub record Counts (lines : List Line) (size : Extent) : Type 0 where
  pub bits : size.bits ≡ body_width lines
  pub rows : size.rows ≡ length lines
