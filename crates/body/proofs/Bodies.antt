-- The lines of a body under a sound holding: how many they are, how wide, and that each makes eight numbers.
-- Assumes nothing.
use Rattle.bits.proofs.Words.{◌≡◌, refl, sym, ap, ap₂, ◌∙◌, Bool, true, false, List, [], ◌∷◌, map, ℕ, zero, suc, ◌+◌, ◌-◌, ◌*◌, ◌/◌, ◌^◌, ◌≤◌, ◌<◌, arith, ltb, length, take, ℤ, pos}
use mathlib.Core.List.{flatten}
use native.Mathlib.Nat.{mul_comm, le_of_suc-le-suc}
use borrow.Author.Tests.{ltb-true}
use lib.Count.{ones}
use lib.ListN.{length-map, length-append}
use lib.Seq.{length-take-le}
use Rattle.bits.specs.BitLists.{spell}
use Rattle.format.proofs.Bodies.{none, more}
use Rattle.format.proofs.Lengths.{cell_width, total_same, packet_width}
use Rattle.format.proofs.Sames.{and_true}
use Rattle.format.proofs.Picks.{pick_all}
use Rattle.format.proofs.Spells.{packet_count}
use Rattle.format.specs.Lengths.{total}
use Rattle.format.specs.Masks.{Satellite, Cell, pick}
use Rattle.format.specs.Messages.{satellite_lines, cell_lines, packet_lines, packet_shape}
use Rattle.format.specs.Rows.{Column, Line, absent, width_of, shape_width}
use Rattle.holding.proofs.Sounds.{Sounds, sounds}
use Rattle.holding.specs.Bounds.{narrow, every}
use Rattle.holding.specs.declared.Holding.{Holding}
use Rattle.holding.specs.Held.{View, slot_satellites, strip_cells, slots_of, view_of}
use Rattle.holding.specs.Pictures.{mask_of, sound}
use Rattle.rows.proofs.RowsAt.{Eights, rows_length}
use Rattle.rows.proofs.Table.{five_at, columns_in_lem, no_iode}
use Rattle.rows.specs.At.{rows_at}
use Rattle.rows.specs.Shapes.{columns_in, Laid, Narrow}
use Rattle.rows.specs.Table.{shapes, listed, shape_at, shape_for}
use Rattle.table.specs.declared.Body.{Body}
use Rattle.table.specs.declared.Keys.{Keys}
use Rattle.table.specs.declared.Keys.TheVariants.{Satellites, Cells, Parts}
use Rattle.table.specs.Bodies.{lines_over, lines_in, FitsKeys, Fits}
use Rattle.body.specs.Chosen.{alone, cells_in, striped, chosen_lines}
use Rattle.body.specs.Lent.{view_by, Lent, Sized, Lends}
use Rattle.body.specs.Written.{Counts}
use Rattle.body.proofs.Groups.{no_cells, alone_chosen, striped_chosen}
use Rattle.body.proofs.Sizes.{Few, few_satellites, total_most, satellites_alike}
use Rattle.body.proofs.Slots.{count_of}

-- ---- shapes

-- without an IODE one is the same in every system
pub one_shape : (system i : ℕ) → (shape_for i).iode ≡ false → shape_at i system ≡ shape_at i 0
unfolding columns_in
one_shape system i bare =
    let same : columns_in (shape_for i) system ≡ columns_in (shape_for i) 0 = rw bare in
    sym (columns_in_lem system i) ∙ same ∙ columns_in_lem 0 i

-- as the code has it
made_columns : (shape : ℕ) → columns_in (shape_for shape) ≡ shape_at shape
made_columns shape = λ i system. columns_in_lem system shape i

-- ---- the cells of satellites that are chosen

cells_few : (bits : List Bool) (sats : List Satellite) (strips : List ℕ) → length (strip_cells (pick bits sats) (pick bits strips)) ≤ length (strip_cells sats strips)
unfolding strip_cells pick
cells_few [] sats strips = omega arith
cells_few (b ∷ bits) [] strips = omega arith
cells_few (true ∷ bits) (sat ∷ sats) [] = omega arith
cells_few (false ∷ bits) (sat ∷ sats) [] = rw (no_cells (pick bits sats)) (omega arith)
cells_few (true ∷ bits) (sat ∷ sats) (strip ∷ strips) = simp length-append (omega (arith, cells_few bits sats strips))
cells_few (false ∷ bits) (sat ∷ sats) (strip ∷ strips) = simp length-append (omega (arith, cells_few bits sats strips))

-- as many as their strips have ones
cells_count : (bits : List Bool) (sats : List Satellite) (strips : List ℕ) → narrow 16 strips ≡ true → length sats ≤ length strips
    → length (strip_cells (pick bits sats) (pick bits strips)) ≡ total ones (pick bits (take (length sats) strips))
unfolding strip_cells cells_in pick total every
cells_count [] sats strips thin covered = refl
cells_count (b ∷ bits) [] strips thin covered = refl
cells_count (b ∷ bits) (sat ∷ sats) [] thin covered = absurd (omega arith)
cells_count (true ∷ bits) (sat ∷ sats) (strip ∷ strips) thin covered =
    let parts = and_true (ltb strip (2 ^ 16)) _ thin in
    length-append (cells_in 16 sat strip) _ ∙ ap₂ ◌+◌ (count_of sat strip (ltb-true strip (2 ^ 16) parts.0)) (cells_count bits sats strips parts.1 (le_of_suc-le-suc covered))
cells_count (false ∷ bits) (sat ∷ sats) (strip ∷ strips) thin covered =
    cells_count bits sats strips (and_true (ltb strip (2 ^ 16)) _ thin).1 (le_of_suc-le-suc covered)

-- ---- lines made one from each, as satellites' and cells' are

pub lines_eights : {A : Type 0} (keys : A → List ℤ) (shape : A → List Column) (xs : List A) → ((x : A) → length (keys x) ≡ 3) → ((x : A) → length (shape x) ≡ 5)
    → Eights (map (λ x. record { keys = keys x; shape = shape x }) xs)
lines_eights keys shape [] three five = none
lines_eights keys shape (x ∷ xs) three five = more (three x, five x) (lines_eights keys shape xs three five)

pub packet_eights : (k n : ℕ) → Eights (packet_lines k n)
unfolding packet_lines packet_shape
packet_eights k zero = none
packet_eights k (suc n) = more (refl, refl) (packet_eights (suc k) n)

eights : (v : View) (keys : Keys) (shape : ℕ) → Eights (lines_over v keys shape)
unfolding lines_over satellite_lines cell_lines
eights v (Satellites chosen) shape =
    lines_eights {A = Satellite} (λ s. pos s.system ∷ pos s.number ∷ absent ∷ []) (λ s. shape_at shape s.system) (pick (spell 64 chosen) v.satellites) (λ _. refl) (λ s. five_at s.system shape)
eights v (Cells chosen) shape =
    lines_eights {A = Cell} (λ c. pos c.satellite.system ∷ pos c.satellite.number ∷ pos c.signal ∷ []) (λ c. shape_at shape c.satellite.system)
    (strip_cells (pick (spell 64 chosen) v.satellites) (pick (spell 64 chosen) v.strips)) (λ _. refl) (λ c. five_at c.satellite.system shape)
eights v (Parts n) shape = packet_eights 1 n

-- how many they are and how wide, under so few satellites and cells
pub few_lines : (v : View) (keys : Keys) (shape : ℕ) → length v.satellites ≤ 64 → length (strip_cells v.satellites v.strips) ≤ 256 → FitsKeys keys shape → Few (lines_over v keys shape)
unfolding lines_over FitsKeys satellite_lines cell_lines
few_lines v (Satellites chosen) shape sats cells fits = few_satellites shape chosen v.satellites sats
few_lines v (Cells chosen) shape sats cells fits =
    let some : List Cell = strip_cells (pick (spell 64 chosen) v.satellites) (pick (spell 64 chosen) v.strips) in
    let less = cells_few (spell 64 chosen) v.satellites v.strips in
    record {
      rows = rw length-map (omega arith);
      bits = omega (arith, cell_width (shape_at shape) some, total_most (λ (c : Cell). shape_width (shape_at shape c.satellite.system)) 28 some (λ c. rw (one_shape c.satellite.system shape fits.0.iode) fits.1));
    }
few_lines v (Parts n) shape sats cells fits = record { rows = omega (arith, packet_count 1 n); bits = omega (arith, packet_width 1 n) }

-- ---- what a body's keys say

module _ (body : Body) (fits : Fits body) where
  pub satellites_fit : {chosen : ℕ} → body.keys ≡ Satellites chosen → Laid (shape_for body.shape)
  unfolding FitsKeys
  satellites_fit known = rw known at fits

  pub cells_fit : {chosen : ℕ} → body.keys ≡ Cells chosen → Narrow (shape_for body.shape) × (shape_width (shape_at body.shape 0) ≤ 28)
  unfolding FitsKeys
  cells_fit known = rw known at fits

  pub parts_fit_lem : {n : ℕ} → body.keys ≡ Parts n → (n ≤ 4) × (body.shape ≡ 7)
  unfolding FitsKeys
  parts_fit_lem known = rw known at fits

pub lines_known : (v : View) (body : Body) {keys : Keys} → body.keys ≡ keys → lines_over v keys body.shape ≡ lines_in v body
unfolding lines_in
lines_known v body known = rw known

-- ---- rows of one width

pub cells_alike : (v : View) (chosen shape n width : ℕ) → (shape_for shape).iode ≡ false → n ≡ length (strip_cells (pick (spell 64 chosen) v.satellites) (pick (spell 64 chosen) v.strips))
    → width ≡ shape_width (shape_at shape 0) → Counts (lines_over v (Cells chosen) shape) (record { bits = n * width; rows = n })
unfolding lines_over cell_lines
cells_alike v chosen shape n width bare many wide =
    let cells : List Cell = strip_cells (pick (spell 64 chosen) v.satellites) (pick (spell 64 chosen) v.strips) in
    let same : (c : Cell) → shape_width (shape_at shape c.satellite.system) ≡ width =
    λ c. ap shape_width (one_shape c.satellite.system shape bare) ∙ sym wide in
    record {
      bits = ap (λ (k : ℕ). k * width) many ∙ mul_comm (length cells) width ∙ sym (cell_width (shape_at shape) cells ∙ total_same _ width cells same);
      rows = many ∙ sym (length-map cells _);
    }

pub parts_alike : (v : View) (n shape width : ℕ) → shape ≡ 7 → width ≡ shape_width (shape_at shape 0) → Counts (lines_over v (Parts n) shape) (record { bits = n * width; rows = n })
unfolding lines_over shape_at listed shapes packet_shape shape_width width_of
parts_alike v n shape width last wide =
    let w : width ≡ 40 = wide ∙ rw last in
    record { bits = rw w (omega (arith, packet_width 1 n)); rows = sym (packet_count 1 n) }

-- ---- the lines of the satellites that are chosen, one after the other

module _ (v : View) (chosen shape : ℕ) where
  pub by_shape : chosen_lines chosen (alone (shape_at shape) v.satellites) ≡ lines_over v (Satellites chosen) shape
  unfolding lines_over
  by_shape = alone_chosen (shape_at shape) chosen v.satellites

  pub by_satellites : chosen_lines chosen (alone (columns_in (shape_for shape)) v.satellites) ≡ lines_over v (Satellites chosen) shape
  by_satellites = ap (λ (f : ℕ → List Column). chosen_lines chosen (alone f v.satellites)) (made_columns shape) ∙ by_shape

  pub by_cells : chosen_lines chosen (striped (columns_in (shape_for shape)) v.satellites v.strips) ≡ lines_over v (Cells chosen) shape
  unfolding lines_over
  by_cells =
      ap (λ (f : ℕ → List Column). chosen_lines chosen (striped f v.satellites v.strips)) (made_columns shape) ∙ striped_chosen (shape_at shape) chosen v.satellites v.strips

-- each has eight numbers
pub numbers_long : (v : View) (body : Body) (bytes : List ℕ) (at : ℕ) → length (flatten (rows_at (lines_in v body) bytes at)) ≡ 8 * length (lines_in v body)
unfolding lines_in
numbers_long v body bytes at = rows_length (lines_in v body) bytes at (eights v body.keys body.shape)

-- ---- under what is lent

module _ {ids masks strips : List ℕ} (lent : Lent ids masks strips) (body : Body) (fits : Fits body) where
  abbrev lines : List Line
  lines = lines_in (view_by ids masks strips) body

  pub few_in : Few lines
  unfolding lines_in
  few_in = few_lines (view_by ids masks strips) body.keys body.shape lent.satellites lent.cells fits

-- ---- under a sound holding

module _ (h : Holding) (e : sound h ≡ true) where
  s : Sounds (mask_of h) h
  s = sounds h e

  pub counted : h.count ≤ length h.ids
  counted = omega (arith, s.few_systems, s.shaped.ids)

  pub prefix : h.count ≡ length (take h.count h.ids)
  prefix = sym (length-take-le h.count h.ids counted)

  pub many : length (slots_of h) ≡ h.nsat
  many = ap length s.slots ∙ sym s.nsat

  pub few : h.nsat ≤ 64
  few = s.few_satellites

  pub stripped : h.nsat ≤ length h.strips
  stripped = omega (arith, few, s.shaped.strips)

  all_cells_lem : h.ncell ≡ length (strip_cells (slots_of h) h.strips)
  all_cells_lem = s.ncell ∙ ap length (sym (ap (λ (l : List Satellite). strip_cells l h.strips) s.slots ∙ s.strips))

  pub lends : Lent (take h.count h.ids) h.satellites h.strips
  lends =
      record {
        slots = record { masked = omega (arith, prefix, s.few_systems, s.shaped.satellites); thin = s.satellites_narrow };
        covered = omega (arith, many, stripped);
        satellites = omega (arith, many, few);
        cells = omega (arith, all_cells_lem, s.few_cells_lem);
      }

  pub sizes : Sized (take h.count h.ids) h.satellites h.strips h.nsat h.ncell
  sizes = record { lent = lends; satellites = many; cells = all_cells_lem; thin = s.shaped.strips_narrow; most = omega (arith, s.shaped.strips) }

-- ---- under slots and strips of so many satellites and cells

module _ {ids masks strips : List ℕ} {nsat ncell : ℕ} (z : Sized ids masks strips nsat ncell) where
  abbrev sats : List Satellite
  sats = slot_satellites ids masks

  pub sized_few : nsat ≤ 64
  sized_few = omega (arith, z.satellites, z.lent.satellites)

  pub sized_covered : nsat ≤ length strips
  sized_covered = omega (arith, z.satellites, z.lent.covered)

  -- ---- the cells that are chosen

  pub some_cells : (chosen : ℕ) → total ones (pick (spell 64 chosen) (take nsat strips)) ≡ length (strip_cells (pick (spell 64 chosen) sats) (pick (spell 64 chosen) strips))
  some_cells chosen = ap (λ (n : ℕ). total ones (pick (spell 64 chosen) (take n strips))) (sym z.satellites) ∙ sym (cells_count (spell 64 chosen) sats strips z.thin z.lent.covered)

  pub every_cell : (chosen : ℕ) → chosen ≡ 2 ^ 64 - 1 → ncell ≡ total ones (pick (spell 64 chosen) (take nsat strips))
  every_cell chosen all =
      let picked : ncell ≡ length (strip_cells (pick (spell 64 chosen) sats) (pick (spell 64 chosen) strips)) = rw (all, pick_all sats z.lent.satellites, pick_all strips z.most) z.cells in
      picked ∙ sym (some_cells chosen)

  pub few_chosen : (chosen : ℕ) → total ones (pick (spell 64 chosen) (take nsat strips)) ≤ 256
  few_chosen chosen = omega (arith, some_cells chosen, z.lent.cells, cells_few (spell 64 chosen) sats strips)

-- ---- satellites whose rows have no IODE

pub alike : (sats : List Satellite) (n : ℕ) → length sats ≡ n → n ≤ 64 → (chosen shape width : ℕ) → chosen < 2 ^ 64 → (shape ≡ 2 → ⊥) → (shape ≡ 3 → ⊥) → width ≡ shape_width (shape_at shape 0)
    → let some = ones (chosen / 2 ^ (64 - n)) in Counts (chosen_lines chosen (alone (shape_at shape) sats)) (record { bits = some * width; rows = some })
alike sats n many few chosen shape width small not-orbit not-both wide =
    rw (alone_chosen (shape_at shape) chosen sats)
    (satellites_alike (shape_at shape) width chosen n _ sats (λ system. ap shape_width (one_shape system shape (no_iode shape not-orbit not-both)) ∙ sym wide) small many few refl)

-- ---- what is lent is the holding's

module _ {h : Holding} {ids masks strips : List ℕ} (l : Lends h ids masks strips) where
  pub lent_view : view_by ids masks strips ≡ view_of h
  lent_view = λ i. view_by (l.named i) (l.masked i) (l.striped i)

  pub lent_well : sound h ≡ true → Lent ids masks strips
  lent_well e = rw (l.named, l.masked, l.striped) (lends h e)

  pub lent_sizes : sound h ≡ true → Sized ids masks strips h.nsat h.ncell
  lent_sizes e = rw (l.named, l.masked, l.striped) (sizes h e)
