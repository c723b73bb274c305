-- The eight numbers of a row, and the tests that code makes of them.
-- Assumes nothing.
use Rattle.bits.proofs.Words.{◌≡◌, sym, ap, ◌∙◌, Bool, ◌&&◌, List, [], ◌∷◌, ℕ, ◌-◌, ◌^◌, arith, eqb, length, get_or, take, drop, ℤ, pos}
use mathlib.Core.Bool.{and-true}
use borrow.Author.Tests.{eqb-true, eq-eqb}
use lib.ListN.{length-drop}
use lib.Seq.{take_all}
use mir.Facts.{to_z-of_z}
use mir.Syntax.{w32}
use mir.Val.{SFits, to_z, of_z}
use Rattle.bits.proofs.Lists.{elements, taken}
use Rattle.format.proofs.Sames.{sameℤ_sound, sameℤ_refl, same_test}
use Rattle.format.specs.Rows.{absent, Column, gap}
use Rattle.format.specs.Same.{same_list, sameℤ}
use Rattle.holding.proofs.Tests.{and_assoc}
use Rattle.rows.specs.declared.row.Key.{Key}
use Rattle.rows.proofs.Columns.{gap_of}
use Rattle.rows.specs.declared.shape.Column.{Column as CodeColumn}
use Rattle.rows.specs.declared.shape.Shape.{Shape}
use Rattle.rows.specs.Shapes.{column_of, columns_of}
use Rattle.fitting.specs.Fits.{column_fits, values_fit}
use Rattle.matching.specs.Matching.{keys_of}

-- ---- a number is another just where their bits are the same

bits_same : (a b : ℤ) → SFits w32 a → SFits w32 b → of_z w32 a ≡ of_z w32 b → a ≡ b
bits_same a b fa fb e = sym (to_z-of_z fa) ∙ ap (to_z w32) e ∙ to_z-of_z fb

pub same_bits : (a b : ℤ) → SFits w32 a → SFits w32 b → eqb (of_z w32 a) (of_z w32 b) ≡ sameℤ a b
same_bits a b fa fb =
    same_test (eqb (of_z w32 a) (of_z w32 b)) (sameℤ a b) (λ e. ap (sameℤ a) (sym (bits_same a b fa fb (eqb-true _ _ e))) ∙ sameℤ_refl a)
    (λ e. eq-eqb _ _ (ap (of_z w32) (sameℤ_sound a b e)))

-- so it is with an absent one
pub absent_bits_lem : (v : ℤ) → SFits w32 v → eqb (of_z w32 v) (2 ^ 32 - 32768) ≡ sameℤ v absent
absent_bits_lem v fits = same_bits v absent fits (record { sfits = omega arith })

-- which alone fits a gap
pub gap_fits : (c : CodeColumn) (v : ℤ) → c.width ≡ 0 → sameℤ v absent ≡ column_fits (column_of c) v
unfolding column_fits
gap_fits c v none = rw (gap_of c none)

-- a value that was read from a row is that value
pub read_fits : (c : CodeColumn) (v : ℤ) {r : Bool} → SFits w32 v → r ≡ column_fits (column_of c) (to_z w32 (of_z w32 v)) → r ≡ column_fits (column_of c) v
read_fits c v fits told = told ∙ ap (column_fits (column_of c)) (to_z-of_z fits)

-- ---- a row's tests, number by number

module _ (r : List ℤ) (eight : length r ≡ 8) where
  abbrev number : ℕ → ℤ
  number i = get_or r i (pos 0)

  three : take 3 r ≡ number 0 ∷ number 1 ∷ number 2 ∷ []
  unfolding elements
  three = taken (pos 0) r 0 0 3 (omega arith)

  five : drop 3 r ≡ number 3 ∷ number 4 ∷ number 5 ∷ number 6 ∷ number 7 ∷ []
  unfolding elements
  five = sym (take_all 5 (drop 3 r) (rw length-drop (omega arith))) ∙ taken (pos 0) r 3 0 5 (omega arith)

  pub keys_by_lem : (key : Key) → same_list sameℤ (take 3 r) (keys_of key) ≡ (sameℤ (number 0) key.system && (sameℤ (number 1) key.satellite && sameℤ (number 2) key.signal))
  unfolding same_list
  keys_by_lem key = rw (three, and-true (sameℤ (number 2) key.signal))

  pub values_by : (a b c d e : Column) → values_fit (a ∷ b ∷ c ∷ d ∷ e ∷ []) (drop 3 r)
      ≡ (column_fits a (number 3) && (column_fits b (number 4) && (column_fits c (number 5) && (column_fits d (number 6) && column_fits e (number 7)))))
  unfolding values_fit
  values_by a b c d e = rw (five, and-true (column_fits e (number 7)))

  -- the third and the fourth are tested together
  pub shape_by : (s : Shape) → values_fit (columns_of s) (drop 3 r)
      ≡ (column_fits (column_of s.v1) (number 3) && (column_fits (column_of s.v2) (number 4)
      && ((column_fits (column_of s.v3) (number 5) && column_fits (column_of s.v4) (number 6)) && column_fits (column_of s.v5) (number 7))))
  unfolding columns_of
  shape_by s =
      rw (
        values_by (column_of s.v1) (column_of s.v2) (column_of s.v3) (column_of s.v4) (column_of s.v5),
        and_assoc (column_fits (column_of s.v3) (number 5)) (column_fits (column_of s.v4) (number 6)) (column_fits (column_of s.v5) (number 7)),
      )

  -- and where behind three columns there are gaps
  pub cell_by : (a b c : Column) → values_fit (a ∷ b ∷ c ∷ gap ∷ gap ∷ []) (drop 3 r)
      ≡ (column_fits a (number 3) && (column_fits b (number 4) && (column_fits c (number 5) && (sameℤ (number 6) absent && sameℤ (number 7) absent))))
  unfolding column_fits
  cell_by a b c = values_by a b c gap gap
