-- The fields of rows that fit: their bits are what the rows spell, and each is fine for a pen. Assumes nothing.
use Rattle.bits.proofs.Words.{◌≡◌, refl, sym, ap, ap₂, subst, ◌∙◌, Bool, true, false, cond, List, [], ◌∷◌, ◌++◌, ℕ, zero, suc, ◌^◌, ◌≤◌, ◌<◌, arith, take, drop, ℤ}
use mathlib.Core.Bool.{false≢true}
use mathlib.Core.List.{append_assoc, append-nil}
use Rattle.bits.proofs.BitLists.{number_lt, spell_number}
use Rattle.bits.specs.BitLists.{number, spell}
use Rattle.bits.specs.Signed.{unsigned}
use Rattle.format.proofs.Sames.{and_true, true_and, same_list_sound, sameℤ_sound}
use Rattle.format.specs.Masks.{Satellite, Cell}
use Rattle.format.specs.Messages.{iode_width, satellite_lines, cell_lines, packet_shape, packet_lines}
use Rattle.format.specs.Rows.{Column, plain, Line, width_of, shape_width, spell_values, spell_rows}
use Rattle.format.specs.Same.{same_list, sameℤ}
use Rattle.rows.proofs.Columns.{width_of_lem}
use Rattle.rows.proofs.Laid.{iode_some}
use Rattle.rows.specs.declared.shape.Shape.{Shape}
use Rattle.rows.specs.Shapes.{column_of, columns_in, FormedShape}
use Rattle.fitting.proofs.FitRows.{fit_width}
use Rattle.pens.proofs.Pens.{spell_fields_append, fines_append}
use Rattle.fitting.specs.Fits.{column_fits, values_fit, row_fits, rows_fit}
use Rattle.pens.specs.Pens as Pens
use Rattle.pens.specs.Pens.{spell_fields, Fines}
use Rattle.putting.specs.Putting.{system_of, row_system, row_columns, together, two_fields, fields_of, row_fields, Fitting, none, more, Shaped, shaped_none, shaped_more}

-- ---- values in their columns, as one field

pub spell_together : (cs : List Column) (vs : List ℤ) → values_fit cs vs ≡ true → spell (together cs vs).width (together cs vs).value ≡ spell_values cs vs
unfolding together
spell_together cs vs fits = ap (λ (w : ℕ). spell w (number (spell_values cs vs))) (sym (fit_width cs vs fits)) ∙ spell_number (spell_values cs vs)

pub together_small : (cs : List Column) (vs : List ℤ) → values_fit cs vs ≡ true → (together cs vs).value < 2 ^ (together cs vs).width
unfolding together
together_small cs vs fits = rw (fit_width cs vs fits) at (number_lt (spell_values cs vs))

-- ---- the first of them, and the others

pub first_fit : (n : ℕ) (cs : List Column) (vs : List ℤ) → values_fit cs vs ≡ true → values_fit (take n cs) (take n vs) ≡ true
unfolding values_fit
first_fit zero cs vs fits = refl
first_fit (suc n) [] [] fits = refl
first_fit (suc n) [] (v ∷ vs) fits = absurd (false≢true fits)
first_fit (suc n) (c ∷ cs) [] fits = absurd (false≢true fits)
first_fit (suc n) (c ∷ cs) (v ∷ vs) fits = let both = and_true (column_fits c v) (values_fit cs vs) fits in true_and both.0 (first_fit n cs vs both.1)

pub others_fit : (n : ℕ) (cs : List Column) (vs : List ℤ) → values_fit cs vs ≡ true → values_fit (drop n cs) (drop n vs) ≡ true
unfolding values_fit
others_fit zero cs vs fits = fits
others_fit (suc n) [] [] fits = refl
others_fit (suc n) [] (v ∷ vs) fits = absurd (false≢true fits)
others_fit (suc n) (c ∷ cs) [] fits = absurd (false≢true fits)
others_fit (suc n) (c ∷ cs) (v ∷ vs) fits = others_fit n cs vs (and_true (column_fits c v) (values_fit cs vs) fits).1

spell_parts : (n : ℕ) (cs : List Column) (vs : List ℤ) → values_fit cs vs ≡ true → spell_values (take n cs) (take n vs) ++ spell_values (drop n cs) (drop n vs) ≡ spell_values cs vs
unfolding values_fit spell_values
spell_parts zero cs vs fits = refl
spell_parts (suc n) [] [] fits = refl
spell_parts (suc n) [] (v ∷ vs) fits = absurd (false≢true fits)
spell_parts (suc n) (c ∷ cs) [] fits = absurd (false≢true fits)
spell_parts (suc n) (c ∷ cs) (v ∷ vs) fits =
    let b : List Bool = spell (width_of c) (unsigned (width_of c) v) in
    append_assoc b (spell_values (take n cs) (take n vs)) (spell_values (drop n cs) (drop n vs))
    ∙ ap (λ (l : List Bool). b ++ l) (spell_parts n cs vs (and_true (column_fits c v) (values_fit cs vs) fits).1)

-- ---- a row

pub spell_two : (cs : List Column) (vs : List ℤ) → values_fit cs vs ≡ true → spell_fields (two_fields cs vs) ≡ spell_values cs vs
unfolding spell_fields two_fields
spell_two cs vs fits =
    ap₂ (λ (a b : List Bool). a ++ (b ++ [])) (spell_together (take 4 cs) (take 4 vs) (first_fit 4 cs vs fits)) (spell_together (drop 4 cs) (drop 4 vs) (others_fit 4 cs vs fits))
    ∙ ap (λ (b : List Bool). spell_values (take 4 cs) (take 4 vs) ++ b) (append-nil (spell_values (drop 4 cs) (drop 4 vs)))
    ∙ spell_parts 4 cs vs fits

-- the widths of the first four columns and of the fifth
narrow_two : (s : Shape) (system : ℕ) → FormedShape s → (shape_width (take 4 (columns_in s system)) ≤ 56) × (shape_width (drop 4 (columns_in s system)) ≤ 56)
unfolding columns_in shape_width width_of
narrow_two s system formed = go s.iode
  where
    go : (b : Bool)
        → (shape_width (cond b (plain (iode_width system)) (column_of s.v1) ∷ column_of s.v2 ∷ column_of s.v3 ∷ column_of s.v4 ∷ []) ≤ 56)
        × (shape_width (column_of s.v5 ∷ []) ≤ 56)
    go true = (omega (arith, iode_some system refl, width_of_lem s.v2, width_of_lem s.v3, width_of_lem s.v4, formed.longest), omega (arith, width_of_lem s.v5, formed.fifth.narrow))
    go false = (omega (arith, width_of_lem s.v1, width_of_lem s.v2, width_of_lem s.v3, width_of_lem s.v4, formed.window), omega (arith, width_of_lem s.v5, formed.fifth.narrow))

pub fines_two : (s : Shape) (system : ℕ) (vs : List ℤ) → FormedShape s → values_fit (columns_in s system) vs ≡ true → Fines (two_fields (columns_in s system) vs)
unfolding two_fields together
fines_two s system vs formed fits =
    let cs : List Column = columns_in s system in
    let narrow = narrow_two s system formed in
    Pens.more (record { narrow = narrow.0; small = together_small (take 4 cs) (take 4 vs) (first_fit 4 cs vs fits) })
    (Pens.more (record { narrow = narrow.1; small = together_small (drop 4 cs) (drop 4 vs) (others_fit 4 cs vs fits) }) Pens.none)

-- ---- all rows

pub fines_rows : (s : Shape) → FormedShape s → {rows : List (List ℤ)} → Fitting s rows → Fines (row_fields s rows)
unfolding row_fields
fines_rows s formed none = Pens.none
fines_rows s formed (more {r} fits fitting) = fines_append (fines_two s (row_system r) (drop 3 r) formed fits) (fines_rows s formed fitting)

-- a row that fits its line, in the columns that its own keys say
row_system_lem : (r : List ℤ) → row_system (take 3 r) ≡ row_system r
unfolding row_system
row_system_lem [] = refl
row_system_lem (k ∷ ks) = refl

line_columns : (s : Shape) (n : Line) (r : List ℤ) → n.shape ≡ row_columns s n.keys → row_fits n r ≡ true → (n.shape ≡ row_columns s r) × (values_fit (row_columns s r) (drop 3 r) ≡ true)
unfolding row_fits
line_columns s n r shape fits =
    let both = and_true (same_list sameℤ (take 3 r) n.keys) (values_fit n.shape (drop 3 r)) fits in
    let keys : take 3 r ≡ n.keys = same_list_sound sameℤ sameℤ_sound (take 3 r) n.keys both.0 in
    let same : n.shape ≡ row_columns s r = shape ∙ ap (row_columns s) (sym keys) ∙ ap (columns_in s) (row_system_lem r) in
    (same, subst (λ (cs : List Column). values_fit cs (drop 3 r) ≡ true) same both.1)

-- rows that fit lines of a shape
pub record Putting (s : Shape) (lines : List Line) (rows : List (List ℤ)) : Type 0 where
  pub spelled : spell_fields (row_fields s rows) ≡ spell_rows lines rows
  pub fitting : Fitting s rows
  pub fines : Fines (row_fields s rows)

fit_spelled : (s : Shape) {lines : List Line} → Shaped s lines → (rows : List (List ℤ)) → rows_fit lines rows ≡ true
    → (spell_fields (row_fields s rows) ≡ spell_rows lines rows) × Fitting s rows
unfolding rows_fit spell_rows row_fields spell_fields
fit_spelled s shaped_none [] fits = (refl, none)
fit_spelled s shaped_none (r ∷ rs) fits = absurd (false≢true fits)
fit_spelled s (shaped_more shape shaped) [] fits = absurd (false≢true fits)
fit_spelled s (shaped_more {n} {ns} shape shaped) (r ∷ rs) fits =
    let both = and_true (row_fits n r) (rows_fit ns rs) fits in
    let row = line_columns s n r shape both.0 in
    let others = fit_spelled s shaped rs both.1 in (
      spell_fields_append (fields_of s r) (row_fields s rs)
          ∙ ap₂ ◌++◌ (spell_two (row_columns s r) (drop 3 r) row.1 ∙ ap (λ (cs : List Column). spell_values cs (drop 3 r)) (sym row.0)) others.0,
      more row.1 others.1,
    )

pub putting : (s : Shape) → FormedShape s → {lines : List Line} → Shaped s lines → (rows : List (List ℤ)) → rows_fit lines rows ≡ true → Putting s lines rows
putting s formed shaped rows fits =
    let both = fit_spelled s shaped rows fits in
    record { spelled = both.0; fitting = both.1; fines = fines_rows s formed both.1 }

-- ---- lines of satellites, of cells, and of a packet's part

module _ (s : Shape) (shape : ℕ → List Column) (columns : (system : ℕ) → columns_in s system ≡ shape system) where
  pub satellites_shaped : (sats : List Satellite) → Shaped s (satellite_lines shape sats)
  unfolding satellite_lines row_system system_of
  satellites_shaped [] = shaped_none
  satellites_shaped (t ∷ ts) = shaped_more (sym (columns t.system)) (satellites_shaped ts)

  pub cells_shaped : (cs : List Cell) → Shaped s (cell_lines shape cs)
  unfolding cell_lines row_system system_of
  cells_shaped [] = shaped_none
  cells_shaped (c ∷ cs) = shaped_more (sym (columns c.satellite.system)) (cells_shaped cs)

pub packet_shaped : (s : Shape) → ((system : ℕ) → columns_in s system ≡ packet_shape) → (k n : ℕ) → Shaped s (packet_lines k n)
unfolding packet_lines
packet_shaped s columns k zero = shaped_none
packet_shaped s columns k (suc n) = shaped_more (sym (columns _)) (packet_shaped s columns (suc k) n)
