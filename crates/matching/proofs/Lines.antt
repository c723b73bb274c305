-- The lines that code makes: a row's keys of unsigned numbers, and the shape of a system's rows. Assumes nothing.
use Rattle.bits.proofs.Words.{◌≡◌, refl, ◌∙◌, Bool, true, false, cond, List, [], ◌∷◌, map, ℕ, suc, ℤ}
use Rattle.bits.specs.BitLists.{spell}
use Rattle.body.specs.Chosen.{alone}
use Rattle.format.specs.Masks.{places_from}
use Rattle.format.specs.Messages.{iode_width, satellite_lines}
use Rattle.format.specs.Rows.{Column}
use Rattle.holding.specs.Held.{satellites_in}
use Rattle.rows.proofs.Columns.{gap_of}
use Rattle.rows.proofs.Laid.{iode_some, orbit_formed, orbit_columns, bare_columns}
use Rattle.rows.specs.declared.shape.Shape.{Shape}
use Rattle.rows.specs.Shapes.{columns_of, columns_in, orbit_of, FormedShape, Laid, Narrow}
use Rattle.matching.specs.Matching.{shape_on, cell_columns}
use Rattle.matching.proofs.Matching.{fits_at}

-- a row was tested by a line that is this one
pub tested_by_lem : {a b c x y z : ℤ} (own columns : List Column) (numbers : List ℤ) (k : ℕ) {r : Bool} → a ≡ x → b ≡ y → c ≡ z → own ≡ columns
    → r ≡ fits_at (record { keys = a ∷ b ∷ c ∷ []; shape = own }) numbers k → r ≡ fits_at (record { keys = x ∷ y ∷ z ∷ []; shape = columns }) numbers k
tested_by_lem own columns numbers k p q r same told = told ∙ λ i. fits_at (record { keys = p i ∷ q i ∷ r i ∷ []; shape = same i }) numbers k

-- ---- the shape of a system's rows

-- the satellites of one system have its shape alone
pub own_lines : (f g : ℕ → List Column) (id w word : ℕ) → f id ≡ g id → alone f (satellites_in w id word) ≡ alone g (satellites_in w id word)
unfolding satellites_in alone satellite_lines
own_lines f g id w word same = go (places_from 0 (spell w word))
  where
    go : (places : List ℕ) → alone f (map (λ place. record { system = id; number = suc place }) places) ≡ alone g (map (λ place. record { system = id; number = suc place }) places)
    go [] = refl
    go (p ∷ ps) = rw (same, go ps)

module _ (s : Shape) (laid : Laid s) (system : ℕ) where
  pub own_columns : columns_of (shape_on s system) ≡ columns_in s system
  unfolding shape_on
  own_columns = go s.iode refl
    where
      go : (b : Bool) → s.iode ≡ b → columns_of (cond b (orbit_of (iode_width system) s.v5) s) ≡ columns_in s system
      go true e = orbit_columns s laid system e
      go false e = bare_columns s laid system e

  pub own_formed : FormedShape s → FormedShape (shape_on s system)
  unfolding shape_on
  own_formed formed = go s.iode
    where
      go : (b : Bool) → FormedShape (cond b (orbit_of (iode_width system) s.v5) s)
      go true = orbit_formed (iode_width system) s.v5 (iode_some system refl) formed.fifth
      go false = formed

-- ---- three columns and gaps behind

pub cell_columns_lem : (s : Shape) (system : ℕ) → Narrow s → cell_columns s.v1 s.v2 s.v3 ≡ columns_in s system
unfolding columns_in
cell_columns_lem s system narrow = rw (narrow.iode, gap_of s.v4 narrow.fourth, gap_of s.v5 narrow.fifth)
