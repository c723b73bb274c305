-- The shapes of satellites' rows: by their layout, the columns that a row of a system has. And how wide the rows of any shape are.
-- Assumes nothing.
use Rattle.bits.proofs.Words.{◌≡◌, refl, sym, ap, ◌∙◌, Bool, true, false, cond, [], ◌∷◌, ℕ, ◌+◌, ◌≤◌, arith, eqb}
use mathlib.Core.Bool.{false≢true}
use mathlib.Core.Logic.{◌⊎◌}
use Rattle.format.specs.Messages.{iode_width}
use Rattle.format.specs.Rows.{Column, plain, counts, width_of, shape_width}
use Rattle.rows.specs.declared.shape.Column.{Column as CodeColumn}
use Rattle.rows.specs.declared.shape.Shape.{Shape}
use Rattle.rows.specs.Shapes.{column_of, column_for, columns_of, columns_in, shape_on, orbit_of, Formed, FormedShape, Laid}
use Rattle.rows.proofs.Columns.{fine_plain, fine_counts, column_back, width_of_lem, formed_for}

-- an IODE has 1 to 10 bits
pub iode_some : (system : ℕ) {iode : ℕ} → iode ≡ iode_width system → (1 ≤ iode) × (iode ≤ 10)
unfolding iode_width
iode_some system e = rw e (go (eqb system 2))
  where
    go : (b : Bool) → (1 ≤ cond b 10 8) × (cond b 10 8 ≤ 10)
    go true = (omega arith, omega arith)
    go false = (omega arith, omega arith)

-- ---- which shapes are laid

never : {A : Type 0} {b : Bool} → b ≡ true → b ≡ false → A
never p q = absurd (false≢true (sym q ∙ p))

pub laid_orbit : (iode : ℕ) (c : CodeColumn) → Laid (orbit_of iode c)
unfolding column_for orbit_of
laid_orbit iode c = record { orbit = λ _. refl; fourth = never refl; others = never refl }

pub laid_bare : (s : Shape) → s.iode ≡ false → s.v4.width ≡ 0 → (s.v5.width ≡ 0) ⊎ (s.v1.width + s.v2.width + s.v3.width ≡ 0) → Laid s
laid_bare s bare fourth others = record { orbit = λ e. never e bare; fourth = λ _. fourth; others = λ _. others }

-- ---- the columns of a system's row, by what the code tests

pub orbit_formed : (iode : ℕ) (c : CodeColumn) → (1 ≤ iode) × (iode ≤ 10) → Formed c → FormedShape (orbit_of iode c)
unfolding column_for orbit_of
orbit_formed iode c some formed =
    record {
      first = formed_for (fine_plain iode some.0 (omega arith));
      second = formed_for (fine_counts 15 (omega arith) (omega arith));
      third = formed_for (fine_counts 13 (omega arith) (omega arith));
      fourth = formed_for (fine_counts 13 (omega arith) (omega arith));
      fifth = formed;
      window = omega arith;
      longest = omega arith;
    }

module _ (s : Shape) (laid : Laid s) (system : ℕ) where
  pub orbit_columns : s.iode ≡ true → columns_of (orbit_of (iode_width system) s.v5) ≡ columns_in s system
  unfolding column_of column_for columns_of columns_in orbit_of
  orbit_columns e =
      let iode = iode_some system refl in
      let same : s ≡ orbit_of s.v1.width s.v5 = laid.orbit e in
      let second : column_of s.v2 ≡ counts 15 = ap (λ (t : Shape). column_of t.v2) same in
      let third : column_of s.v3 ≡ counts 13 = ap (λ (t : Shape). column_of t.v3) same in
      let fourth : column_of s.v4 ≡ counts 13 = ap (λ (t : Shape). column_of t.v4) same in
      rw (e, second, third, fourth) (ap (λ (c : Column). c ∷ counts 15 ∷ counts 13 ∷ counts 13 ∷ column_of s.v5 ∷ []) (column_back (fine_plain (iode_width system) iode.0 (omega arith))))

  pub bare_columns : s.iode ≡ false → columns_of s ≡ columns_in s system
  unfolding columns_of columns_in
  bare_columns e = rw e

-- the shape that has the columns of a system's rows
module _ (s : Shape) (system : ℕ) where
  pub on_columns : columns_of (shape_on s system) ≡ columns_in s system
  unfolding columns_of columns_in shape_on
  on_columns = ap (λ (c : Column). c ∷ column_of s.v2 ∷ column_of s.v3 ∷ column_of s.v4 ∷ column_of s.v5 ∷ []) (go s.iode)
    where
      go : (b : Bool) → column_of (cond b (column_for (plain (iode_width system))) s.v1) ≡ cond b (plain (iode_width system)) (column_of s.v1)
      go true = let some = iode_some system refl in column_back (fine_plain (iode_width system) some.0 (omega arith))
      go false = refl

  pub on_formed : FormedShape s → FormedShape (shape_on s system)
  unfolding shape_on column_for
  on_formed formed = go s.iode
    where
      go : (b : Bool) → FormedShape (record { iode = s.iode; v1 = cond b (column_for (plain (iode_width system))) s.v1; v2 = s.v2; v3 = s.v3; v4 = s.v4; v5 = s.v5 })
      go true =
          let some = iode_some system refl in
          record {
            first = formed_for (fine_plain (iode_width system) some.0 (omega arith));
            second = formed.second;
            third = formed.third;
            fourth = formed.fourth;
            fifth = formed.fifth;
            window = omega (arith, formed.longest);
            longest = formed.longest;
          }
      go false = formed

-- ---- how wide

pub columns_width : (s : Shape) (system : ℕ) → FormedShape s → shape_width (columns_in s system) ≤ 71
unfolding columns_in shape_width width_of
columns_width s system formed = go s.iode
  where
    go : (b : Bool) → shape_width (cond b (plain (iode_width system)) (column_of s.v1) ∷ column_of s.v2 ∷ column_of s.v3 ∷ column_of s.v4 ∷ column_of s.v5 ∷ []) ≤ 71
    go true = omega (arith, iode_some system refl, width_of_lem s.v2, width_of_lem s.v3, width_of_lem s.v4, width_of_lem s.v5, formed.longest, formed.fifth.narrow)
    go false = omega (arith, width_of_lem s.v1, width_of_lem s.v2, width_of_lem s.v3, width_of_lem s.v4, width_of_lem s.v5, formed.window, formed.fifth.narrow)
