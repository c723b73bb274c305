-- A loop that puts rows: what stands after some of them. Assumes nothing.
use Rattle.bits.proofs.Words.{◌≡◌, sym, ap, ◌∙◌, true, List, [], ◌∷◌, ◌++◌, ℕ, suc, ◌+◌, ◌-◌, ◌*◌, ◌≤◌, ◌<◌, arith, length, take, drop, ℤ}
use native.Mathlib.Nat.{sub-zero}
use lib.ListN.{length-drop}
use lib.Seq.{drop-drop, length-take-le}
use Rattle.format.specs.Writing.{rows_in}
use Rattle.rows.specs.declared.shape.Shape.{Shape}
use Rattle.pens.proofs.Pens.{Inks, inks_start, inks_call, inks_pen, inks_ink, ready_first}
use Rattle.pens.specs.declared.pen.Pen.{Pen}
use Rattle.fitting.specs.Fits.{values_fit}
use Rattle.pens.specs.Pens.{pen_after, ink_after}
use Rattle.putting.proofs.OwnColumns.{Own}
use Rattle.putting.specs.Putting.{row_columns, row_fields, own_fields, Fitting, more, PutsRow, PutsRows}

-- ---- the rows from the i-th on

unfoldable pub rows_from : ℕ → List ℤ → ℕ → List (List ℤ)
rows_from count rows i = rows_in (count - i) (drop (8 * i) rows)

pub all_rows : (count : ℕ) (rows : List ℤ) → rows_from count rows 0 ≡ rows_in count rows
unfolding rows_from
all_rows count rows = rw sub-zero

pub next_row : (count : ℕ) (rows : List ℤ) (i : ℕ) → i < count → rows_from count rows i ≡ take 8 (drop (8 * i) rows) ∷ rows_from count rows (i + 1)
unfolding rows_from rows_in
next_row count rows i there =
    let left : count - i ≡ suc (count - (i + 1)) = omega arith in
    let next : 8 * (i + 1) ≡ 8 * i + 8 = omega arith in
    rw (left, drop-drop 8 (8 * i) rows, next)

pub no_row : (count : ℕ) (rows : List ℤ) (i : ℕ) → count ≤ i → rows_from count rows i ≡ []
unfolding rows_from rows_in
no_row count rows i past =
    let gone : count - i ≡ 0 = omega arith in
    rw gone

-- the i-th, as a part of the row buffer
pub row_part : (rows : List ℤ) (i : ℕ) → take (8 * i + 8 - 8 * i) (drop (8 * i) rows) ≡ take 8 (drop (8 * i) rows)
row_part rows i =
    let eight : 8 * i + 8 - 8 * i ≡ 8 = omega arith in
    rw eight

-- ---- what stands after i rows

first_fits : {s : Shape} {r : List ℤ} {rs : List (List ℤ)} → Fitting s (r ∷ rs) → values_fit (row_columns s r) (drop 3 r) ≡ true
first_fits (more fits fitting) = fits

others_fit : {s : Shape} {r : List ℤ} {rs : List (List ℤ)} → Fitting s (r ∷ rs) → Fitting s rs
others_fit (more fits fitting) = fitting

pub record Going (s : Shape) (rows : List ℤ) (count : ℕ) (p₀ : Pen) (bytes₀ : List ℕ) (i : ℕ) (p : Pen) (bytes : List ℕ) : Type 0 where
  pub whole : 8 * count ≤ length rows
  pub some : i ≤ count
  pub fitting : Fitting s (rows_from count rows i)
  pub inks : Inks p₀ (row_fields s (rows_in count rows)) bytes₀ p (row_fields s (rows_from count rows i)) bytes

pub going_start : {s : Shape} {rows : List ℤ} {count : ℕ} {p : Pen} {bytes : List ℕ} → PutsRows s rows count p bytes → Going s rows count p bytes 0 p bytes
going_start {rows = rows} {count = count} puts =
    record {
      whole = puts.whole;
      some = omega arith;
      fitting = rw (all_rows count rows) puts.fitting;
      inks = rw (all_rows count rows) (inks_start puts.ready);
    }

module _ {s : Shape} {rows : List ℤ} {count : ℕ} {p₀ : Pen} {bytes₀ : List ℕ} {i : ℕ} {p : Pen} {bytes : List ℕ} (g : Going s rows count p₀ bytes₀ i p bytes) where
  -- one row more
  module _ (there : i < count) {row : List ℤ} (same : row ≡ take 8 (drop (8 * i) rows)) {own : Shape} (o : Own s row own) where
    left : rows_from count rows i ≡ row ∷ rows_from count rows (i + 1)
    left = next_row count rows i there ∙ ap (λ (r : List ℤ). r ∷ rows_from count rows (i + 1)) (sym same)

    fields : Inks p₀ (row_fields s (rows_in count rows)) bytes₀ p (own_fields own row ++ row_fields s (rows_from count rows (i + 1))) bytes
    unfolding row_fields
    fields = rw o.columns (rw left at g.inks)

    fit : Fitting s (row ∷ rows_from count rows (i + 1))
    fit = rw left at g.fitting

    pub going_row : PutsRow own row p bytes
    going_row =
        record {
          valued =
              record {
                formed = o.formed;
                eight = ap length same ∙ length-take-le 8 (drop (8 * i) rows) (omega (arith, length-drop (8 * i) rows, g.whole));
                fits = rw o.columns (first_fits fit);
              };
          ready = ready_first (own_fields own row) (row_fields s (rows_from count rows (i + 1))) p bytes fields.ready;
        }

    pub going_next : {q : Pen} → q ≡ pen_after p (own_fields own row) → {ink : List ℕ} → ink ≡ ink_after p (own_fields own row) bytes → Going s rows count p₀ bytes₀ (i + 1) q ink
    going_next pen ink =
        record {
          whole = g.whole;
          some = omega arith;
          fitting = others_fit fit;
          inks = rw (pen, ink) (inks_call (own_fields own row) (row_fields s (rows_from count rows (i + 1))) fields);
        }

  -- none is left
  pub going_end : count ≤ i → (p ≡ pen_after p₀ (row_fields s (rows_in count rows))) × (bytes ≡ ink_after p₀ (row_fields s (rows_in count rows)) bytes₀)
  unfolding row_fields
  going_end past =
      let gone : row_fields s (rows_from count rows i) ≡ [] = ap (row_fields s) (no_row count rows i past) in
      (inks_pen gone g.inks, inks_ink gone g.inks)
