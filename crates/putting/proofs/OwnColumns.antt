-- The shape whose columns are a row's own: that of all rows, or for an orbit that of the row's system. Assumes nothing.
use Rattle.bits.proofs.Words.{◌≡◌, refl, sym, ap, subst, ◌∙◌, Bool, true, false, cond, List, [], ◌∷◌, ℕ, arith, eqb, get_or, ℤ, pos}
use mathlib.Core.Bool.{false≢true}
use borrow.Author.Tests.{ne_eqb, eqb-true, eqb-false}
use lib.IntN.{negsuc}
use mir.Syntax.{w32}
use mir.Val.{SFits, of_z}
use Rattle.format.proofs.Tables.{Each, end, then, each_at}
use Rattle.format.specs.Messages.{iode_width, combined_shape, clock_shape, code_shape, phase_shape, packet_shape, bias_shape, accuracy_shape}
use Rattle.rows.proofs.Laid.{iode_some, laid_orbit, orbit_formed, orbit_columns}
use Rattle.rows.proofs.Table.{no_iode, orbit_made}
use Rattle.rows.specs.declared.shape.Shape.{Shape}
use Rattle.rows.specs.Shapes.{column_for, columns_of, columns_in, orbit_of, shape_with, FormedShape, Laid}
use Rattle.rows.specs.Table.{Listed, gaps, shapes, listed, shape_at, shape_in, shape_for}
use Rattle.putting.specs.Putting.{system_of, row_system, row_columns, orbit_on, triples}

-- ---- a row's system

-- a key, as code tests it, names Galileo or another system, or none
pub galileo_key : (v : ℤ) → SFits w32 v → of_z w32 v ≡ 2 → iode_width 2 ≡ iode_width (system_of v)
unfolding system_of
galileo_key (pos n) fits e = ap iode_width (omega arith)
galileo_key (negsuc n) fits e = absurd (omega (arith, fits.sfits))

pub other_key : (v : ℤ) → (of_z w32 v ≡ 2 → ⊥) → iode_width 0 ≡ iode_width (system_of v)
unfolding system_of iode_width
other_key (pos n) other = rw (ne_eqb n 2 other)
other_key (negsuc n) other = refl

-- a row's is its first number
pub row_key : (row : List ℤ) → system_of (get_or row 0 (pos 0)) ≡ row_system row
unfolding system_of row_system
row_key [] = refl
row_key (k ∷ ks) = refl

-- ---- its shape

pub record Own (s : Shape) (row : List ℤ) (own : Shape) : Type 0 where
  pub formed : FormedShape own
  pub columns : columns_of own ≡ row_columns s row

module _ (s : Shape) (formed : FormedShape s) where
  pub own_bare : s.iode ≡ false → {row : List ℤ} → Own s row s
  unfolding columns_of columns_in
  own_bare bare = record { formed = formed; columns = rw bare }

  pub own_orbit : (s.iode ≡ true → s ≡ orbit_of s.v1.width s.v5) → s.iode ≡ true → {row : List ℤ} → Own s row (orbit_on s.v5 row)
  own_orbit orbit with-iode {row} =
      let known : Laid s = subst (λ (t : Shape). Laid t) (sym (orbit with-iode)) (laid_orbit s.v1.width s.v5) in
      let system = row_system row in
      record { formed = orbit_formed (iode_width system) s.v5 (iode_some system refl) formed.fifth; columns = orbit_columns s known system with-iode }

-- ---- the table's shapes

-- the two that are made of an orbit
made_orbit : (clock : Bool) → shape_for (cond clock 3 2) ≡ orbit_of (iode_width 0) (shape_for (cond clock 3 2)).v5
unfolding orbit_of
made_orbit clock =
    let made = orbit_made clock 0 in
    sym made ∙ ap (λ (t : Shape). orbit_of (iode_width 0) t.v5) made

-- one with an IODE is an orbit's, whose IODE has 8 bits
pub orbit_usual : (i : ℕ) → (shape_for i).iode ≡ true → shape_for i ≡ orbit_of 8 (shape_for i).v5
unfolding iode_width
orbit_usual i with-iode = go (eqb i 2) (eqb i 3) refl refl
  where
    go : (b c : Bool) → eqb i 2 ≡ b → eqb i 3 ≡ c → shape_for i ≡ orbit_of (iode_width 0) (shape_for i).v5
    go true c two _ = rw (eqb-true i 2 two) (made_orbit false)
    go false true _ three = rw (eqb-true i 3 three) (made_orbit true)
    go false false two three = absurd (false≢true (sym (no_iode i (eqb-false i 2 two) (eqb-false i 3 three)) ∙ with-iode))

-- so many as its first column has
pub orbit_own : {s : Shape} → s ≡ orbit_of 8 s.v5 → s ≡ orbit_of s.v1.width s.v5
unfolding orbit_of column_for
orbit_own {s} same = same ∙ ap (λ (w : ℕ). orbit_of w s.v5) (sym (ap (λ (t : Shape). t.v1.width) same))

pub orbit_for : (i : ℕ) → (shape_for i).iode ≡ true → shape_for i ≡ orbit_of (shape_for i).v1.width (shape_for i).v5
orbit_for i with-iode = orbit_own (orbit_usual i with-iode)

-- one of three columns, of which the first is one, has a code bias, a phase bias and its indicator
pub triple_for : (i : ℕ) → triples (shape_for i) ≡ true → shape_for i ≡ shape_for 11
unfolding triples shapes listed shape_at shape_in shape_with column_for combined_shape clock_shape code_shape phase_shape packet_shape bias_shape accuracy_shape
triple_for i = each_at gaps rows (λ _. no) i
  where
    shape : Listed → Shape
    shape l = shape_with l.iode (l.columns 0)

    no : {A : Type 0} → false ≡ true → A
    no e = absurd (false≢true e)

    rows : Each (λ n l. triples (shape l) ≡ true → shape l ≡ shape_for 11) 0 shapes
    rows = then no (then no (then no (then no (then no (then no (then no (then no (then no (then no (then no (then (λ _. refl) (then no end))))))))))))
