-- The lines of a body satellite by satellite: of one satellite and the others, of one slot and the others, those that are chosen, and how long they are.
-- Assumes nothing.
use Rattle.bits.proofs.Words.{◌≡◌, refl, sym, ap, ◌∙◌, Bool, true, false, List, [], ◌∷◌, ◌++◌, ℕ, suc, ◌+◌, ◌*◌, ◌%◌, ◌^◌, ◌≤◌, ◌<◌, arith, length, get_or, drop}
use mathlib.Core.List.{map-append, flatten}
use native.Mathlib.Nat.{le_of_suc-le-suc}
use lib.ListN.{length-map}
use lib.Seq.{drop-cons, drop-nil, drop-drop}
use Rattle.bits.specs.BitLists.{spell}
use Rattle.format.specs.Masks.{Satellite, pick}
use Rattle.format.specs.Messages.{satellite_lines, cell_lines}
use Rattle.format.specs.Rows.{Column}
use Rattle.format.proofs.Picks.{pick_map}
use Rattle.holding.specs.Held.{strip_cells}
use Rattle.rows.specs.declared.shape.Shape.{Shape}
use Rattle.rows.specs.Shapes.{columns_of, columns_in, Narrow}
use Rattle.body.specs.Chosen.{alone, cells_in, striped, chosen_lines}
use Rattle.body.proofs.Slots.{up_of}

pub five_in : (s : Shape) (system : ℕ) → length (columns_in s system) ≡ 5
unfolding columns_in
five_in s system = refl

-- a narrow shape is the same in every system
pub narrow_in : (s : Shape) (system : ℕ) → Narrow s → columns_of s ≡ columns_in s system
unfolding columns_of columns_in
narrow_in s system thin = rw thin.iode

pub no_cells : (sats : List Satellite) → strip_cells sats [] ≡ []
unfolding strip_cells
no_cells [] = refl
no_cells (sat ∷ sats) = refl

module _ (shape : ℕ → List Column) where
  -- ---- one line for each

  pub alone_length : (sats : List Satellite) → length (alone shape sats) ≡ length sats
  unfolding alone
  alone_length sats = length-map sats _

  pub alone_nil : {sats : List Satellite} → sats ≡ [] → alone shape sats ≡ []
  unfolding alone
  alone_nil e = rw e

  pub alone_next : {sats : List Satellite} (sat : Satellite) (others : List Satellite) → sats ≡ sat ∷ others → alone shape sats ≡ satellite_lines shape (sat ∷ []) ∷ alone shape others
  unfolding alone
  alone_next sat others e = rw e

  pub alone_append : {sats : List Satellite} (xs ys : List Satellite) → sats ≡ xs ++ ys → alone shape sats ≡ alone shape xs ++ alone shape ys
  unfolding alone
  alone_append xs ys e = rw (e, map-append)

  -- those that are chosen
  flatten_alone : (sats : List Satellite) → flatten (alone shape sats) ≡ satellite_lines shape sats
  unfolding alone satellite_lines flatten
  flatten_alone [] = refl
  flatten_alone (sat ∷ sats) = rw (flatten_alone sats)

  pub alone_chosen : (c : ℕ) (sats : List Satellite) → chosen_lines c (alone shape sats) ≡ satellite_lines shape (pick (spell 64 c) sats)
  unfolding alone chosen_lines
  alone_chosen c sats = rw pick_map (flatten_alone (pick (spell 64 c) sats))

  -- ---- one for each cell

  pub striped_length : (sats : List Satellite) (strips : List ℕ) → length sats ≤ length strips → length (striped shape sats strips) ≡ length sats
  unfolding striped
  striped_length [] strips covered = refl
  striped_length (sat ∷ sats) [] covered = absurd (omega arith)
  striped_length (sat ∷ sats) (strip ∷ strips) covered = ap suc (striped_length sats strips (le_of_suc-le-suc covered))

  pub striped_nil : {sats : List Satellite} (strips : List ℕ) → sats ≡ [] → striped shape sats strips ≡ []
  unfolding striped
  striped_nil strips e = rw e

  -- the strip is moved up
  pub striped_next : {sats : List Satellite} (sat : Satellite) (others : List Satellite) (strips : List ℕ) (n : ℕ) → n < length strips → get_or strips n 0 < 2 ^ 16 → sats ≡ sat ∷ others
      → striped shape sats (drop n strips) ≡ cell_lines shape (cells_in 64 sat (get_or strips n 0 * 2 ^ 48 % 2 ^ 64)) ∷ striped shape others (drop (suc n) strips)
  unfolding striped
  striped_next sat others strips n inside small e = rw (e, drop-cons strips n 0 inside, up_of sat (get_or strips n 0) small)

  no_strips : (sats : List Satellite) → striped shape sats [] ≡ []
  unfolding striped
  no_strips [] = refl
  no_strips (sat ∷ sats) = refl

  -- the strips that the first satellites leave are those of the others
  striped_split : (xs ys : List Satellite) (strips : List ℕ) → striped shape (xs ++ ys) strips ≡ striped shape xs strips ++ striped shape ys (drop (length xs) strips)
  unfolding striped
  striped_split [] ys strips = refl
  striped_split (x ∷ xs) ys [] = sym (ap (striped shape ys) (drop-nil (suc (length xs))) ∙ no_strips ys)
  striped_split (x ∷ xs) ys (strip ∷ strips) = rw (striped_split xs ys strips)

  pub striped_append : {sats : List Satellite} (xs ys : List Satellite) (strips : List ℕ) (n m : ℕ) → length xs ≡ m → sats ≡ xs ++ ys
      → striped shape sats (drop n strips) ≡ striped shape xs (drop n strips) ++ striped shape ys (drop (n + m) strips)
  striped_append xs ys strips n m long e =
      rw e (striped_split xs ys (drop n strips) ∙ ap (λ (l : List ℕ). striped shape xs (drop n strips) ++ striped shape ys l) (drop-drop (length xs) n strips ∙ ap (λ (k : ℕ). drop (n + k) strips) long))

  -- those that are chosen
  flatten_striped : (bits : List Bool) (sats : List Satellite) (strips : List ℕ) → flatten (pick bits (striped shape sats strips)) ≡ cell_lines shape (strip_cells (pick bits sats) (pick bits strips))
  unfolding striped cells_in strip_cells cell_lines pick flatten
  flatten_striped [] sats strips = refl
  flatten_striped (b ∷ bits) [] strips = refl
  flatten_striped (true ∷ bits) (sat ∷ sats) [] = refl
  flatten_striped (false ∷ bits) (sat ∷ sats) [] = ap (cell_lines shape) (sym (no_cells (pick bits sats)))
  flatten_striped (true ∷ bits) (sat ∷ sats) (strip ∷ strips) = rw (flatten_striped bits sats strips, map-append)
  flatten_striped (false ∷ bits) (sat ∷ sats) (strip ∷ strips) = flatten_striped bits sats strips

  pub striped_chosen : (c : ℕ) (sats : List Satellite) (strips : List ℕ)
      → chosen_lines c (striped shape sats strips) ≡ cell_lines shape (strip_cells (pick (spell 64 c) sats) (pick (spell 64 c) strips))
  unfolding chosen_lines
  striped_chosen c sats strips = flatten_striped (spell 64 c) sats strips
