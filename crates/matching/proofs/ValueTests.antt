-- Rows of sub type 11 whose satellites are right: their values tell whether they fit their lines. And a loop over them.
-- Assumes nothing.
use Rattle.bits.proofs.Words.{◌≡◌, refl, sym, ap, ◌∙◌, Bool, true, false, cond, ◌&&◌, List, [], ◌∷◌, ℕ, zero, suc, ◌+◌, ◌-◌, ◌*◌, ◌≤◌, ◌<◌, arith, eqb, length, get_or, take, drop, ℤ, pos}
use mathlib.Core.Bool.{and-true, false≢true}
use native.Mathlib.Nat.{sub-zero}
use borrow.Author.Tests.{eqb-true, eq-eqb, ne_eqb}
use lib.Dec.{eqb-zero-suc, eqb-suc-suc}
use lib.ListN.{length-drop}
use lib.Seq.{drop-drop, length-take-le}
use mir.Syntax.{w32}
use mir.Val.{SFits, of_z}
use Rattle.bits.specs.BitLists.{spell}
use Rattle.body.proofs.Bodies.{by_satellites}
use Rattle.body.proofs.Groups.{alone_chosen}
use Rattle.format.proofs.Sames.{same_list_sound, sameℤ_sound, sameℤ_refl}
use Rattle.format.specs.Masks.{Satellite, pick}
use Rattle.format.specs.Messages.{iode_width, satellite_lines, combined_shape}
use Rattle.format.specs.Rows.{Column, Line, gap, absent}
use Rattle.format.specs.Same.{same_list, sameℤ}
use Rattle.format.specs.Spelling.{marks}
use Rattle.format.specs.Writing.{rows_in}
use Rattle.holding.specs.Held.{View}
use Rattle.rows.proofs.Laid.{laid_orbit, orbit_columns}
use Rattle.rows.proofs.Table.{formed}
use Rattle.rows.specs.declared.shape.Column.{Column as CodeColumn}
use Rattle.rows.specs.declared.shape.Shape.{Shape}
use Rattle.rows.specs.Shapes.{column_for, column_of, columns_of, columns_in, shape_with, orbit_of, last_of}
use Rattle.rows.specs.Table.{shapes, listed, shape_at, shape_in, shape_for}
use Rattle.table.specs.declared.Keys.TheVariants.{Satellites}
use Rattle.table.specs.Bodies.{lines_over}
use Rattle.fitting.specs.Fits.{column_fits, values_fit, row_fits, rows_fit}
use Rattle.matching.specs.Values.{own_system, row_valued, rows_valued, Flagged}
use Rattle.matching.proofs.RowTests.{same_bits, values_by}

-- ---- the shapes of sub type 11

pub flagged : (i : ℕ) → i < 4 → Flagged (shape_for i)
unfolding shapes listed shape_at shape_in shape_with column_for orbit_of last_of iode_width combined_shape
flagged zero few = record { orbit = λ e. absurd (false≢true e); last = λ _. refl; fifth = (formed 0).fifth }
flagged (suc zero) few = record { orbit = λ e. absurd (false≢true e); last = λ _. refl; fifth = (formed 1).fifth }
flagged (suc (suc zero)) few = record { orbit = λ _. refl; last = λ e. absurd (false≢true (sym e)); fifth = (formed 2).fifth }
flagged (suc (suc (suc zero))) few = record { orbit = λ _. refl; last = λ e. absurd (false≢true (sym e)); fifth = (formed 3).fifth }
flagged (suc (suc (suc (suc i)))) few = absurd (omega arith)

-- an orbit's IODE goes by the system alone
pub orbit_alike : (w : ℕ) (c : CodeColumn) → columns_in (orbit_of w c) ≡ columns_in (orbit_of 8 c)
unfolding columns_in orbit_of
orbit_alike w c = refl

-- ---- a loop over rows

-- from the i-th row on, the rows that are left tell what all tell
pub record Valued (columns : ℕ → List Column) (numbers : List ℤ) (count i : ℕ) : Type 0 where
  pub same : rows_valued columns (rows_in (count - i) (drop (8 * i) numbers)) ≡ rows_valued columns (rows_in count numbers)

-- the i-th row, as it is lent
pub row_lent : (i : ℕ) (numbers : List ℤ) → 8 * i + 8 ≤ length numbers → length (take (8 * i + 8 - 8 * i) (drop (8 * i) numbers)) ≡ 8
row_lent i numbers there =
    let eight : 8 * i + 8 - 8 * i ≡ 8 = omega arith in
    ap (λ (n : ℕ). length (take n (drop (8 * i) numbers))) eight ∙ length-take-le 8 (drop (8 * i) numbers) (rw length-drop (omega arith))

pub valued_start : {columns : ℕ → List Column} {numbers : List ℤ} {count : ℕ} → Valued columns numbers count 0
valued_start {columns} {numbers} {count} = record { same = ap (λ (n : ℕ). rows_valued columns (rows_in n numbers)) (sub-zero count) }

module _ {columns : ℕ → List Column} {numbers : List ℤ} {count i : ℕ} (v : Valued columns numbers count i) where
  -- one row, as it is lent
  module _ (more : i < count) (b : Bool) (told : b ≡ row_valued columns (take (8 * i + 8 - 8 * i) (drop (8 * i) numbers))) where
    abbrev behind : Bool
    behind = rows_valued columns (rows_in (count - suc i) (drop (8 * suc i) numbers))

    both : rows_valued columns (rows_in (count - i) (drop (8 * i) numbers)) ≡ (b && behind)
    unfolding rows_in rows_valued
    both =
        let one : count - i ≡ suc (count - suc i) = omega arith in
        let eight : 8 * i + 8 - 8 * i ≡ 8 = omega arith in
        let next : 8 * i + 8 ≡ 8 * suc i = omega arith in
        let row : b ≡ row_valued columns (take 8 (drop (8 * i) numbers)) = told ∙ ap (λ (n : ℕ). row_valued columns (take n (drop (8 * i) numbers))) eight in
        let rest : drop 8 (drop (8 * i) numbers) ≡ drop (8 * suc i) numbers = drop-drop 8 (8 * i) numbers ∙ ap (λ (n : ℕ). drop n numbers) next in
        rw (one, rest, row)

    pub valued_next : b ≡ true → Valued columns numbers count (suc i)
    valued_next well = record { same = sym (both ∙ ap (λ (x : Bool). x && behind) well) ∙ v.same }

    pub valued_fails : b ≡ false → false ≡ rows_valued columns (rows_in count numbers)
    valued_fails badly = sym (both ∙ ap (λ (x : Bool). x && behind) badly) ∙ v.same

  pub valued_end : count ≤ i → true ≡ rows_valued columns (rows_in count numbers)
  unfolding rows_in rows_valued
  valued_end past =
      let none : count - i ≡ 0 = omega arith in
      sym (ap (λ (n : ℕ). rows_valued columns (rows_in n (drop (8 * i) numbers))) none) ∙ v.same

-- ---- the system that a row names

module _ (key : ℤ) (fits : SFits w32 key) where
  is_galileo : eqb (of_z w32 key) 2 ≡ sameℤ key (pos 2)
  is_galileo = same_bits key (pos 2) fits (record { sfits = omega arith })

  pub own_galileo : of_z w32 key ≡ 2 → own_system key ≡ 2
  unfolding own_system
  own_galileo e = rw (sym is_galileo ∙ eq-eqb (of_z w32 key) 2 e)

  pub own_other : (of_z w32 key ≡ 2 → ⊥) → own_system key ≡ 0
  unfolding own_system
  own_other e = rw (sym is_galileo ∙ ne_eqb (of_z w32 key) 2 e)

-- its columns are those of the system by which the row names its satellite
own_columns : (s : Shape) (system : ℕ) → columns_in s (own_system (pos system)) ≡ columns_in s system
unfolding columns_in own_system sameℤ iode_width
own_columns s system = go (eqb system 2) refl
  where
    go : (b : Bool) → eqb system 2 ≡ b → columns_in s (cond b 2 0) ≡ columns_in s system
    go true e = ap (columns_in s) (sym (eqb-true system 2 e))
    go false e = let same : columns_in s system ≡ columns_in s 0 = rw e in sym same

-- an orbit's as code makes them
pub orbit_own : (c : CodeColumn) (system : ℕ) → columns_of (orbit_of (iode_width system) c) ≡ columns_in (orbit_of 8 c) system
unfolding orbit_of
orbit_own c system = orbit_columns (orbit_of 8 c) (laid_orbit 8 c) system refl

-- and a row of the last column alone, test by test
last_columns : (c : CodeColumn) (system : ℕ) → columns_in (last_of c) system ≡ gap ∷ gap ∷ gap ∷ gap ∷ column_of c ∷ []
unfolding columns_in last_of column_of column_for
last_columns c system = refl

module _ (r : List ℤ) (eight : length r ≡ 8) where
  abbrev absent_at : ℕ → Bool
  absent_at i = sameℤ (get_or r i (pos 0)) absent

  pub last_by : (c : CodeColumn) → row_valued (columns_in (last_of c)) r
      ≡ (absent_at 2 && (absent_at 3 && (absent_at 4 && (absent_at 5 && (absent_at 6 && column_fits (column_of c) (get_or r 7 (pos 0)))))))
  unfolding row_valued column_fits
  last_by c =
      ap (λ (cs : List Column). absent_at 2 && values_fit cs (drop 3 r)) (last_columns c (own_system (get_or r 0 (pos 0)))) ∙ ap (λ (b : Bool). absent_at 2 && b) (values_by r eight gap gap gap gap (column_of c))

-- ---- the lines of satellites that the rows name

-- the two keys by which a satellite is named
abbrev pub named : Satellite → List ℤ
named sat = pos sat.system ∷ pos sat.number ∷ []

no_signal : sameℤ (pos 0) absent ≡ false
unfolding sameℤ
no_signal = refl

row_valued_lem : (s : Shape) (sat : Satellite) (r : List ℤ) → take 2 r ≡ named sat
    → row_fits (record { keys = pos sat.system ∷ pos sat.number ∷ absent ∷ []; shape = columns_in s sat.system }) r ≡ row_valued (columns_in s) r
unfolding row_fits row_valued same_list
row_valued_lem s sat [] e = cc
row_valued_lem s sat (x ∷ []) e = cc
row_valued_lem s sat (x ∷ y ∷ []) e =
    let first : x ≡ pos sat.system = cc in
    let second : y ≡ pos sat.number = cc in
    rw (first, second, sameℤ_refl (pos sat.system), sameℤ_refl (pos sat.number), no_signal)
row_valued_lem s sat (x ∷ y ∷ z ∷ vs) e =
    let first : x ≡ pos sat.system = cc in
    let second : y ≡ pos sat.number = cc in
    rw (first, second, sameℤ_refl (pos sat.system), sameℤ_refl (pos sat.number), and-true (sameℤ z absent), own_columns s sat.system)

-- ---- and rows by which a selection was told, one for each satellite

-- what is tested apart may be tested in another order
swap : (a b c : Bool) → (a && (b && c)) ≡ (b && (a && c))
swap true true c = refl
swap true false c = refl
swap false true c = refl
swap false false c = refl

module _ (s : Shape) (own : Satellite → ℕ) (one : (sat : Satellite) → own sat ≡ 1) where
  abbrev told : List Satellite → List (List ℤ) → List Satellite
  told sats rows = pick (marks own sats rows) sats

  abbrev fit : List Satellite → List (List ℤ) → Bool
  fit sats rows = rows_fit (satellite_lines (columns_in s) (told sats rows)) rows

  abbrev right : List Satellite → List (List ℤ) → Bool
  right sats rows = eqb (length (told sats rows)) (length rows) && rows_valued (columns_in s) rows

  -- they fit their lines just where all of them told it and the values of each fit
  pub told_valued : (sats : List Satellite) (rows : List (List ℤ)) → fit sats rows ≡ right sats rows
  unfolding rows_fit satellite_lines marks pick rows_valued
  told_valued [] [] = refl
  told_valued [] (r ∷ rs) = rw (eqb-zero-suc (length rs))
  told_valued (sat ∷ sats) [] = told_valued sats []
  told_valued (sat ∷ sats) (r ∷ rs) = rw (one sat) (go (same_list sameℤ (take 2 r) (named sat)) refl (told_valued sats rs) (told_valued sats (r ∷ rs)))
    where
      go : (b : Bool) → same_list sameℤ (take 2 r) (named sat) ≡ b → fit sats rs ≡ right sats rs → fit sats (r ∷ rs) ≡ right sats (r ∷ rs)
          → let picked = pick (b ∷ cond b (marks own sats rs) (marks own sats (r ∷ rs))) (sat ∷ sats) in
          rows_fit (satellite_lines (columns_in s) picked) (r ∷ rs) ≡ (eqb (length picked) (suc (length rs)) && rows_valued (columns_in s) (r ∷ rs))
      go true e here past =
          ap (λ (b : Bool). b && fit sats rs) (row_valued_lem s sat r (same_list_sound sameℤ sameℤ_sound (take 2 r) (named sat) e))
          ∙ ap (λ (b : Bool). row_valued (columns_in s) r && b) here
          ∙ swap (row_valued (columns_in s) r) (eqb (length (told sats rs)) (length rs)) (rows_valued (columns_in s) rs)
          ∙ ap (λ (b : Bool). b && rows_valued (columns_in s) (r ∷ rs)) (sym (eqb-suc-suc (length (told sats rs)) (length rs)))
      go false e here past = past

-- of a selection of sub type 11
pub chosen_valued : (v : View) (own : Satellite → ℕ) → ((sat : Satellite) → own sat ≡ 1) → (chosen shape : ℕ) (rows : List (List ℤ))
    → pick (spell 64 chosen) v.satellites ≡ pick (marks own v.satellites rows) v.satellites
    → rows_fit (lines_over v (Satellites chosen) shape) rows ≡ (eqb (length (pick (marks own v.satellites rows) v.satellites)) (length rows) && rows_valued (columns_in (shape_for shape)) rows)
chosen_valued v own one chosen shape rows e =
    ap (λ (lines : List Line). rows_fit lines rows) (sym (by_satellites v chosen shape) ∙ alone_chosen (columns_in (shape_for shape)) chosen v.satellites)
    ∙ ap (λ (sats : List Satellite). rows_fit (satellite_lines (columns_in (shape_for shape)) sats) rows) e
    ∙ told_valued (shape_for shape) own one v.satellites rows
