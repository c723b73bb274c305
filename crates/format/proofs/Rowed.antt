-- The rows that a body's bits make, by the places where these stand. Assumes nothing.
use mathlib.Core.Path.{◌≡◌, sym, ap, ◌∙◌}
use mathlib.Core.Bool.{Bool, true}
use mathlib.Core.List.{List, ◌++◌, map}
use Prim.Native.Nat.{ℕ, zero, suc, ◌+◌, ◌≤◌, ◌<◌}
use native.Mathlib.Nat.{add_assoc}
use native.Mathlib.Omega.{arith}
use lib.IntN.{ℤ}
use lib.ListN.{length, take, drop}
use lib.Seq.{drop-drop}
use Rattle.bits.specs.BitLists.{number}
use Rattle.bits.specs.Places.{field}
use Rattle.bits.proofs.Fields.{field_lt}
use Rattle.format.specs.Layouts.{numbers, line_at, column_at, value_at, Rowed}
use Rattle.format.specs.Rows.{Column, Line, width_of, value_of, shape_width, body_width, rows_of}
use Rattle.format.proofs.Bodies.{All, none, more, rows_count, row_at, row_inside, value_in, values_at_lem, value_inside, sure, absent_gap}
use Rattle.format.proofs.Stands.{Stand, stand_field}

-- five columns, of which none but a gap can be absent; a row to come of such
abbrev pub Fit : List Column → Type 0
Fit columns = (length columns ≡ 5) × (sure columns ≡ true)

abbrev pub Fits : Line → Type 0
Fits n = Fit n.shape

lines_at : {lines : List Line} → All Fits lines → (k : ℕ) → k < length lines → Fits (line_at lines k)
lines_at none k h = absurd (omega arith)
lines_at (more fit fits) zero h = fit
lines_at (more fit fits) (suc k) h = lines_at fits k (omega arith)

-- the rows that a body's bits make are those of the places where they stand
pub rowed : {bytes : List ℕ} {start from : ℕ} (lines : List Line) (l : List Bool) → All Fits lines → length l ≡ body_width lines → Stand bytes start from l
    → Rowed bytes (start + from) (start + from + length l) lines (rows_of lines l)
unfolding value_at value_of
rowed {bytes} {start} {from} lines l fits whole s = record {
  count = rows_count lines l;
  row = λ k h.
      let before : ℕ = body_width (take k lines) in
      let shape : List Column = (line_at lines k).shape in
      let here : (j : ℕ) → value_in shape (drop before l) j ≡ value_at bytes (start + from + before) shape j =
      λ j.
      let p : ℕ = shape_width (take j shape) in
      let inside : before + p + width_of (column_at shape j) ≤ length l = omega (arith, row_inside lines k, value_inside shape j) in
      ap (λ (m : List Bool). value_of (column_at shape j) (number (take (width_of (column_at shape j)) m))) (drop-drop p before l)
      ∙ ap (value_of (column_at shape j)) (sym (stand_field (before + p) (width_of (column_at shape j)) inside s) ∙ ap (λ (q : ℕ). field bytes q (width_of (column_at shape j))) (sym (add_assoc (start + from) before p))) in
      row_at lines l k h
      ∙ ap (λ (vs : List ℤ). (line_at lines k).keys ++ vs)
      (values_at_lem shape (drop before l) ∙ ap (λ (n : ℕ). map (value_in shape (drop before l)) (numbers 0 n)) (lines_at fits k h).0 ∙ (λ i. map (λ j. here j i) (numbers 0 5)));
  missing = λ k j h.
      let shape : List Column = (line_at lines k).shape in
      let c : Column = column_at shape j in (
        absent_gap shape j _ (lines_at fits k h).1 (field_lt bytes _ (width_of c)),
        λ e. ap (λ (d : Column). value_of d (field bytes (start + from + body_width (take k lines) + shape_width (take j shape)) (width_of c))) e,
      );
  ends = ap (λ (n : ℕ). start + from + n) (sym whole);
}
