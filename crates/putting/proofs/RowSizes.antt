-- How many bits the fields of rows have: those of the shape for each row, and with an IODE what each row's own has more. Assumes nothing.
use Rattle.bits.proofs.Words.{◌≡◌, refl, sym, ap, ◌∙◌, Bool, true, false, List, [], ◌∷◌, ℕ, zero, suc, ◌+◌, ◌*◌, ◌≤◌, ◌<◌, arith, length, get_or, take, drop, ℤ, pos}
use native.Mathlib.Nat.{mul-le-mul, suc-mul, zero-mul}
use lib.Seq.{get_or-take, get_or-drop}
use Rattle.format.specs.Lengths.{total}
use Rattle.format.specs.Messages.{iode_width}
use Rattle.format.specs.Rows.{width_of, shape_width}
use Rattle.format.specs.Writing.{rows_in}
use Rattle.rows.proofs.Laid.{columns_width}
use Rattle.rows.specs.declared.shape.Shape.{Shape}
use Rattle.rows.specs.Shapes.{columns_of, columns_in}
use Rattle.pens.proofs.Gathered.{length_fields}
use Rattle.pens.specs.Pens.{spell_fields}
use Rattle.putting.proofs.OwnColumns.{row_key, own_bare, own_orbit, orbit_own}
use Rattle.putting.proofs.RowLoops.{rows_from, all_rows, next_row, no_row}
use Rattle.putting.specs.Putting.{system_of, row_system, row_columns, together, two_fields, row_fields}
use Rattle.putting.specs.Sizes.{iode_bits, Sized}

-- ---- the fields of rows

abbrev bits_of : Shape → List (List ℤ) → ℕ
bits_of s rows = length (spell_fields (row_fields s rows))

module _ (s : Shape) where
  first_bits : (r : List ℤ) (rs : List (List ℤ)) → bits_of s (r ∷ rs) ≡ shape_width (row_columns s r) + bits_of s rs
  unfolding row_fields two_fields together columns_in shape_width total
  first_bits r rs = length_fields (row_fields s (r ∷ rs)) ∙ omega (arith, length_fields (row_fields s rs))

  -- as wide in every system, but for an IODE
  bare_width : s.iode ≡ false → (system : ℕ) → shape_width (columns_in s system) ≡ shape_width (columns_in s 0)
  unfolding columns_in
  bare_width bare system = rw bare

  iode_width_lem : s.iode ≡ true → (system : ℕ) → 8 + shape_width (columns_in s system) ≡ iode_width system + shape_width (columns_in s 0)
  unfolding columns_in shape_width width_of iode_width
  iode_width_lem with-iode system = rw with-iode (omega arith)

  bare_bits : s.iode ≡ false → (count : ℕ) (rows : List ℤ) → bits_of s (rows_in count rows) ≡ count * shape_width (columns_in s 0)
  unfolding rows_in row_fields spell_fields
  bare_bits bare zero rows = sym (zero-mul (shape_width (columns_in s 0)))
  bare_bits bare (suc n) rows =
      omega (arith, first_bits (take 8 rows) (rows_in n (drop 8 rows)), bare_width bare (row_system (take 8 rows)), bare_bits bare n (drop 8 rows), suc-mul n (shape_width (columns_in s 0)))

  iode_bits_lem : s.iode ≡ true → (count : ℕ) (rows : List ℤ) → 8 * count + bits_of s (rows_in count rows) ≡ count * shape_width (columns_in s 0) + iode_bits (rows_in count rows)
  unfolding rows_in row_fields spell_fields total
  iode_bits_lem with-iode zero rows = omega (arith, zero-mul (shape_width (columns_in s 0)))
  iode_bits_lem with-iode (suc n) rows =
      omega (arith, first_bits (take 8 rows) (rows_in n (drop 8 rows)), iode_width_lem with-iode (row_system (take 8 rows)), iode_bits_lem with-iode n (drop 8 rows), suc-mul n (shape_width (columns_in s 0)))

-- ---- what the code counts

module _ {s : Shape} {rows : List ℤ} {count : ℕ} (z : Sized s rows count) {w : ℕ} (width : w ≡ shape_width (columns_of s)) where
  usual : w ≡ shape_width (columns_in s 0)
  unfolding iode_width row_system
  usual = width ∙ ap shape_width (go s.iode refl)
    where
      go : (b : Bool) → s.iode ≡ b → columns_of s ≡ columns_in s 0
      go true e = ap columns_of (z.orbit e) ∙ (own_orbit s z.formed (λ on. orbit_own (z.orbit on)) e {row = []}).columns
      go false e = (own_bare s z.formed e {row = []}).columns

  pub few_bits : count * w ≤ 256 * 71
  few_bits =
      let narrow : w ≤ 71 = rw usual (columns_width s 0 z.formed) in
      mul-le-mul z.few narrow

  pub bare_sum : s.iode ≡ false → count * w ≡ bits_of s (rows_in count rows)
  bare_sum bare = rw usual (sym (bare_bits s bare count rows))

  pub iode_sum : s.iode ≡ true → (more : ℕ) → iode_bits (rows_in count rows) ≡ 8 * count + more → count * w + more ≡ bits_of s (rows_in count rows)
  iode_sum with-iode more longer = rw usual (omega (arith, iode_bits_lem s with-iode count rows, longer))

-- ---- what stands after i rows

pub record Longer (rows : List ℤ) (count more i : ℕ) : Type 0 where
  pub some : i ≤ count
  pub few : more ≤ 2 * i
  pub sum : iode_bits (rows_in count rows) ≡ 8 * i + more + iode_bits (rows_from count rows i)

pub longer_start : (rows : List ℤ) (count : ℕ) → Longer rows count 0 0
longer_start rows count = record { some = omega arith; few = omega arith; sum = rw (all_rows count rows) (omega arith) }

module _ {rows : List ℤ} {count more i : ℕ} (l : Longer rows count more i) where
  pub longer_next : i < count → {r : ℕ} → iode_width (system_of (get_or rows (8 * i) (pos 0))) ≡ 8 + r → r ≤ 2 → Longer rows count (more + r) (i + 1)
  unfolding total
  longer_next there {r} longer small =
      let row : List ℤ = take 8 (drop (8 * i) rows) in
      let at : 8 * i + 0 ≡ 8 * i = omega arith in
      let key : get_or row 0 (pos 0) ≡ get_or rows (8 * i) (pos 0) = get_or-take 8 (drop (8 * i) rows) 0 (pos 0) (omega arith) ∙ get_or-drop (8 * i) rows 0 (pos 0) ∙ ap (λ (k : ℕ). get_or rows k (pos 0)) at in
      let wide : iode_width (row_system row) ≡ 8 + r = ap iode_width (sym (row_key row) ∙ ap system_of key) ∙ longer in
      record {
        some = omega arith;
        few = omega (arith, l.few);
        sum = omega (arith, l.sum, ap iode_bits (next_row count rows i there), wide);
      }

  pub longer_end : count ≤ i → iode_bits (rows_in count rows) ≡ 8 * count + more
  unfolding total
  longer_end past = omega (arith, l.some, l.sum, ap iode_bits (no_row count rows i past))
