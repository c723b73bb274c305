-- What a plan comes to is what head and rows come to: whether they fit, and their bits. Under the mask, with rows alone after the common head. Assumes nothing.
use Rattle.bits.proofs.Words.{◌≡◌, refl, sym, ap, ap₂, ◌∙◌, Bool, true, false, cond, ◌&&◌, List, ◌++◌, ℕ, ◌≤◌, arith, length, ℤ, pos}
use mathlib.Core.Bool.{false≢true}
use borrow.Author.Tests.{lt-ltb}
use Rattle.bits.specs.BitLists.{spell}
use Rattle.format.proofs.Sames.{and_true}
use Rattle.format.specs.declared.Head.{Head}
use Rattle.format.specs.Lengths.{total}
use Rattle.format.specs.Masks.{Mask, mask, Sky, sky_of}
use Rattle.format.specs.Rows.{absent, Line, spell_rows}
use Rattle.format.specs.Same.{sameℤ}
use Rattle.format.specs.Spelling.{put, put_common, put_rows, put_flagged}
use Rattle.format.specs.Table as Table
use Rattle.format.specs.Table.{table, kind_of, spell_kind, spelled_by, spelled}
use Rattle.format.proofs.Selections.{Distinct}
use Rattle.holding.specs.Bounds.{narrow}
use Rattle.holding.specs.Held.{View, sky_in}
use Rattle.table.proofs.Overs.{alone_lines}
use Rattle.table.proofs.Tabled.{table_means}
use Rattle.table.specs.declared.Kind.{Kind}
use Rattle.table.specs.declared.Kind.TheVariants.{Masked}
use Rattle.table.specs.declared.Layout.{Layout}
use Rattle.table.specs.Bodies.{lines_in}
use Rattle.table.specs.Kinds.{kind_for, over_by, keys_by, masked_by, kind_by}
use Rattle.table.specs.Shapes.{shapes_from}
use Rattle.fitting.specs.Fits.{rows_fit}
use Rattle.fitting.specs.FitHeads.{Asks, number_fits, common_fits, alone_fits, flagged_fits, asked_by, fits_as, fits}
use Rattle.writer.specs.Fronts.{opening_field, last_field, front_fields}
use Rattle.writer.specs.Kinds.{asks_of, plan_bits}
use Rattle.pens.specs.Pens.{spell_fields}
use Rattle.writer.specs.Plans.{alone_head, alone_plan}
use Rattle.writer.proofs.FrontBits.{front_bits, front_fines, pen_bits}
use Rattle.writer.proofs.SubTypes.{is_other, numbered, asks_mean}

-- ---- a sub type under the mask

-- what holds where a message of it is to be written: the view of the mask, the row of the table, the gate open
pub record Under (m : Mask) (v : View) (n : ℕ) (l : Layout) (h : Head) : Type 0 where
  pub sky : sky_in v ≡ sky_of m
  pub few : length v.satellites ≤ 64
  pub strips : length v.strips ≤ 64
  pub covered : length v.satellites ≤ length v.strips
  pub thin : narrow 16 v.strips ≡ true
  pub apart : Distinct v.satellites
  pub row : kind_for n ≡ Masked l
  pub typed : h.subtype ≡ pos n
  pub issue : sameℤ h.iod (pos m.iod) ≡ true

pub small_type : (n : ℕ) (k : Kind) (h : Head) → kind_for n ≡ k → is_other k ≡ false → h.subtype ≡ pos n → number_fits 4 h.subtype ≡ true
unfolding number_fits is_other
small_type n k h row ours typed =
    let small = (numbered n).small (λ e. false≢true (sym ours ∙ ap is_other (sym row ∙ e))) in
    ap (number_fits 4) typed ∙ lt-ltb n 16 small

module _ {m : Mask} {v : View} {n : ℕ} {l : Layout} {h : Head} (u : Under m v n l h) (rows : List (List ℤ)) where
  -- its test, and its spelling
  abbrev test : Sky → Head → List (List ℤ) → Bool
  test = cond l.flagged (flagged_fits (keys_by l) (shapes_from l.shape)) (alone_fits (over_by l))

  abbrev spelling : Sky → Head → List (List ℤ) → List Bool
  spelling = cond l.flagged (put_flagged (keys_by l) (shapes_from l.shape)) (put_rows (over_by l))

  pub under_fits : fits (mask m) h rows ≡ (common_fits 12 h && test (sky_of m) h rows)
  unfolding fits fits_as asks_of
  under_fits =
      ap (λ (z : ℤ). fits_as (asked_by z) (mask m) h rows) u.typed ∙ ap (λ (a : Asks). fits_as a (mask m) h rows) (asks_mean n ∙ ap asks_of u.row)
      ∙ ap (λ (b : Bool). common_fits 12 h && (b && test (sky_of m) h rows)) u.issue

  pub under_type : number_fits 4 h.subtype ≡ true
  unfolding is_other
  under_type = small_type n (Masked l) h u.row refl u.typed

  under_spelled : spelled (mask m) h rows ≡ spell 12 4073 ++ (put 4 h.subtype ++ (put_common 12 h ++ spelling (sky_of m) h rows))
  unfolding spelled spelled_by kind_of spell_kind kind_by masked_by
  under_spelled =
      ap (λ (z : ℤ). spell 12 4073 ++ (put 4 h.subtype ++ spell_kind (kind_of table z) (mask m) h rows)) u.typed
      ∙ ap (λ (k : Table.Kind). spell 12 4073 ++ (put 4 h.subtype ++ spell_kind k (mask m) h rows)) (sym (table_means n) ∙ ap (kind_by n) u.row)

  -- behind the common head
  pub under_bits : common_fits 12 h ≡ true → spelled (mask m) h rows ≡ spell_fields (front_fields 12 h) ++ spelling (sky_of m) h rows
  under_bits common = under_spelled ∙ front_bits h under_type 12 (omega arith) common (spelling (sky_of m) h rows)

-- a head's four tests before the rows'
pub regroup : (p a b c r : Bool) → (p && (a && (b && (c && r)))) ≡ ((p && (a && (b && c))) && r)
regroup false a b c r = refl
regroup true false b c r = refl
regroup true true false c r = refl
regroup true true true c r = refl

-- ---- rows alone

module _ {m : Mask} {v : View} {n : ℕ} {l : Layout} {h : Head} (u : Under m v n l h) (bare : l.flagged ≡ false) (rows : List (List ℤ)) (start : ℕ) where
  abbrev lines : List Line
  lines = lines_in v (alone_plan h l start).body

  same_lines : lines ≡ over_by l (sky_of m)
  unfolding lines_in alone_plan
  same_lines = alone_lines l v u.few u.strips ∙ ap (over_by l) u.sky

  pub alone_fits_lem : fits (mask m) h rows ≡ (alone_head h && rows_fit lines rows)
  unfolding alone_head alone_fits
  alone_fits_lem =
      under_fits u rows ∙ ap (λ (b : Bool). common_fits 12 h && cond b (flagged_fits (keys_by l) (shapes_from l.shape)) (alone_fits (over_by l)) (sky_of m) h rows) bare
      ∙ regroup (common_fits 12 h) (sameℤ h.a absent) (sameℤ h.b absent) (sameℤ h.c absent) (rows_fit (over_by l (sky_of m)) rows)
      ∙ ap (λ (ls : List Line). alone_head h && rows_fit ls rows) (sym same_lines)

  pub alone_bits : alone_head h ≡ true → spelled (mask m) h rows ≡ plan_bits v (alone_plan h l start) rows
  unfolding alone_head plan_bits alone_plan put_rows front_fields total opening_field last_field spell
  alone_bits head =
      let common = (and_true (common_fits 12 h) _ head).0 in
      let fines = front_fines h (under_type u rows) 12 (omega arith) common in
      under_bits u rows common ∙ ap (λ (b : Bool). spell_fields (front_fields 12 h) ++ cond b (put_flagged (keys_by l) (shapes_from l.shape)) (put_rows (over_by l)) (sky_of m) h rows) bare
      ∙ ap₂ (λ (a : List Bool) (ls : List Line). a ++ spell_rows ls rows) (sym (pen_bits (front_fields 12 h) start fines (omega arith))) (sym same_lines)
