-- A row's two fields as code makes them, pushed one after the other. Assumes nothing.
use Rattle.bits.proofs.Words.{◌≡◌, refl, sym, ap, subst, ◌∙◌, Bool, true, false, not, List, [], ◌∷◌, ℕ, ◌+◌, ◌^◌, arith, take, drop, get_or, ℤ, pos}
use mathlib.Core.Bool.{false≢true}
use borrow.Author.Tests.{eqb-true}
use lib.ListN.{length-drop}
use lib.Seq.{drop-drop, take_all}
use Rattle.bits.proofs.Lists.{elements, taken}
use Rattle.bits.specs.BitLists.{number}
use Rattle.bits.specs.Signed.{unsigned}
use Rattle.format.proofs.Sames.{and_true}
use Rattle.format.specs.Rows.{Column, shape_width, spell_values}
use Rattle.rows.proofs.Columns.{width_of_lem}
use Rattle.rows.specs.declared.shape.Shape.{Shape}
use Rattle.rows.specs.Shapes.{column_of, columns_of}
use Rattle.pens.proofs.Pens.{Inks, inks_start, inks_field, inks_pen, inks_ink, ready_first, no_field, joined_ink}
use Rattle.putting.proofs.RowBits.{four_columns, Joined, joined_one, four_values}
use Rattle.putting.proofs.RowFields.{together_small, first_fit, others_fit}
use Rattle.pens.specs.declared.pen.Field.{Field}
use Rattle.pens.specs.declared.pen.Pen.{Pen}
use Rattle.fitting.specs.Fits.{column_fits, values_fit}
use Rattle.pens.specs.Pens.{pushed, inked_by, pen_after, ink_after, Ready}
use Rattle.putting.specs.Putting.{together, two_fields, front_field, last_field, own_fields, Valued, PutsRow, pairs, ends}

-- ---- a field that code has in hand, of those that are left

module _ {p₀ : Pen} {all : List Field} {bytes₀ : List ℕ} {p : Pen} {next : Field} {left : List Field} {bytes : List ℕ} (s : Inks p₀ all bytes₀ p (next ∷ left) bytes) where
  -- it is pushed
  module _ {f : Field} (same : f ≡ next) where
    pub push_ready : Ready p (f ∷ []) bytes
    push_ready = subst (λ (g : Field). Ready p (g ∷ []) bytes) (sym same) (ready_first (next ∷ []) left p bytes s.ready)

    pub push_inks : {q : Pen} → q ≡ pushed p f → {ink : List ℕ} → ink ≡ inked_by p f bytes → Inks p₀ all bytes₀ q left ink
    push_inks pen ink = rw (pen, ink, same) (inks_field next left s)

  -- or it has no bits
  pub pass_inks : next.width ≡ 0 → next.value ≡ 0 → Inks p₀ all bytes₀ p left bytes
  pass_inks none-wide none-there =
      let pen : pushed p next ≡ p = no_field p s.ready.pen next none-wide none-there in
      let ink : inked_by p next bytes ≡ bytes = joined_ink p next bytes (omega (arith, s.ready.pen.narrow)) in
      rw (pen, ink) at (inks_field next left s)

-- ---- the fields of a row, as code makes them

-- one without bits
bitless : (cs : List Column) (vs : List ℤ) → values_fit cs vs ≡ true → (together cs vs).width ≡ 0 → ((together cs vs).width ≡ 0) × ((together cs vs).value ≡ 0)
bitless cs vs fits gone = (gone, omega (arith, together_small cs vs fits, ap (λ (w : ℕ). 2 ^ w) gone))

module _ {s : Shape} {row : List ℤ} (v : Valued s row) where
  front_all : values_fit (take 4 (columns_of s)) (take 4 (drop 3 row)) ≡ true
  front_all = first_fit 4 (columns_of s) (drop 3 row) v.fits

  last_all : values_fit (drop 4 (columns_of s)) (drop 4 (drop 3 row)) ≡ true
  last_all = others_fit 4 (columns_of s) (drop 3 row) v.fits

  pub front_fits : values_fit (four_columns s) (take 4 (drop 3 row)) ≡ true
  unfolding columns_of
  front_fits = front_all

  last_value : drop 4 (drop 3 row) ≡ get_or row 7 (pos 0) ∷ []
  unfolding elements
  last_value =
      let all : take 1 (drop 7 row) ≡ drop 7 row = take_all 1 (drop 7 row) (omega (arith, v.eight, length-drop 7 row)) in
      drop-drop 4 3 row ∙ sym all ∙ taken (pos 0) row 7 0 1 (omega (arith, v.eight))

  pub last_fits : column_fits (column_of s.v5) (get_or row 7 (pos 0)) ≡ true
  unfolding values_fit columns_of
  last_fits = (and_true (column_fits (column_of s.v5) (get_or row 7 (pos 0))) _ (rw last_value at last_all)).0

  front_width : (front_field s row).width ≡ s.v1.width + (s.v2.width + s.v3.width + s.v4.width)
  unfolding together shape_width columns_of
  front_width = omega (arith, width_of_lem s.v1, width_of_lem s.v2, width_of_lem s.v3, width_of_lem s.v4)

  last_width : (last_field s row).width ≡ s.v5.width
  unfolding together shape_width columns_of
  last_width = omega (arith, width_of_lem s.v5)

  pub front_value : {n : ℕ} → Joined (four_columns s) (get_or row 3 (pos 0) ∷ get_or row 4 (pos 0) ∷ get_or row 5 (pos 0) ∷ get_or row 6 (pos 0) ∷ []) n → n ≡ (front_field s row).value
  unfolding together columns_of
  front_value all = all.spelled ∙ ap (λ (l : List ℤ). number (spell_values (four_columns s) l)) (sym (four_values row v.eight))

  pub front_same : {w n : ℕ} → w ≡ s.v1.width + (s.v2.width + s.v3.width + s.v4.width) → n ≡ (front_field s row).value → record { width = w; value = n } ≡ front_field s row
  front_same wide spelled = λ i. record { width = (wide ∙ sym front_width) i; value = spelled i }

  pub last_same : {n : ℕ} → n ≡ unsigned s.v5.width (get_or row 7 (pos 0)) → record { width = s.v5.width; value = n } ≡ last_field s row
  unfolding together columns_of
  last_same {n} e =
      let number_same : n ≡ (last_field s row).value =
      (joined_one s.v5 (get_or row 7 (pos 0)) last_fits e).spelled ∙ ap (λ (vs : List ℤ). number (spell_values (column_of s.v5 ∷ []) vs)) (sym last_value) in
      λ i. record { width = sym last_width i; value = number_same i }

  -- columns without bits
  pub front_none : s.v1.width + (s.v2.width + s.v3.width + s.v4.width) ≡ 0 → ((front_field s row).width ≡ 0) × ((front_field s row).value ≡ 0)
  front_none gone = bitless _ _ front_all (front_width ∙ gone)

  pub last_none : s.v5.width ≡ 0 → ((last_field s row).width ≡ 0) × ((last_field s row).value ≡ 0)
  last_none gone = bitless _ _ last_all (last_width ∙ gone)

pub row_inks : {s : Shape} {row : List ℤ} {pen : Pen} {bytes : List ℕ} → PutsRow s row pen bytes → Inks pen (own_fields s row) bytes pen (front_field s row ∷ last_field s row ∷ []) bytes
unfolding two_fields
row_inks puts = inks_start puts.ready

-- all are pushed
pub inks_done : {p₀ : Pen} {all : List Field} {bytes₀ : List ℕ} {p : Pen} {bytes : List ℕ} → Inks p₀ all bytes₀ p [] bytes → (p ≡ pen_after p₀ all) × (bytes ≡ ink_after p₀ all bytes₀)
inks_done inks = (inks_pen refl inks, inks_ink refl inks)

-- ---- two columns and three gaps

pub record Pair (s : Shape) : Type 0 where
  pub bare : s.iode ≡ false
  pub third : s.v3.width ≡ 0
  pub fourth : s.v4.width ≡ 0
  pub fifth : s.v5.width ≡ 0

pub pair_shape : (s : Shape) → pairs s ≡ true → Pair s
unfolding pairs
pair_shape s e =
    let both = and_true (not s.iode) _ e in
    let gone : s.v3.width + s.v4.width + s.v5.width ≡ 0 = eqb-true _ 0 both.1 in
    record { bare = not_true_bare s.iode both.0; third = omega arith; fourth = omega arith; fifth = omega arith }
  where
    not_true_bare : (b : Bool) → not b ≡ true → b ≡ false
    not_true_bare true h = absurd (false≢true h)
    not_true_bare false h = refl

-- ---- gaps before the last column

pub ends_shape : (s : Shape) → ends s ≡ true → s.v1.width + (s.v2.width + s.v3.width + s.v4.width) ≡ 0
unfolding ends
ends_shape s e = let gone : s.v1.width + s.v2.width + s.v3.width + s.v4.width ≡ 0 = eqb-true _ 0 e in omega arith
