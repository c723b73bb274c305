-- The lines of a message's rows, as its program makes them, are the rows to come of document 01's layout: of satellites, selected ones, cells and parts.
-- Assumes nothing.
use mathlib.Core.Path.{◌≡◌, refl, sym, ap, ap₂, ◌∙◌}
use mathlib.Core.Bool.{Bool, true, false, cond}
use mathlib.Core.List.{List, [], ◌∷◌, ◌++◌, map, flat_map}
use Prim.Native.Nat.{ℕ, zero, suc, ◌+◌, ◌*◌, ◌<◌}
use native.Mathlib.Nat.{add-zero, zero-add, zero-mul}
use native.Mathlib.Omega.{arith}
use lib.IntN.{pos}
use lib.ListN.{length, drop, get_or, length-map}
use lib.Seq.{drop-drop, get_or-drop}
use Rattle.format.specs.Layouts.{numbers, those, places, named_by, all_satellites, counting, cells_from, all_cells, is_set, selected, five, of_satellite, of_cell, of_part, orbit, clock, code_bias, phase_bias, biases, combined}
use Rattle.format.specs.Masks.{System, Mask, Satellite, Cell, places_from, pick, satellites_of, pairs_of, cells_of, satellites, cells}
use Rattle.format.specs.Messages.{satellite_lines, cell_lines, bias_shape, combined_shape, iode_width, packet_shape, packet_lines}
use Rattle.format.specs.Rows.{Column, Line, absent}
use Rattle.format.proofs.Picks.{pick_nil, pick_map, pick_append}
use Rattle.format.proofs.Stands.{Stand, stand_bit}

-- ---- those that bits select

module _ {A : Type 0} (passes : ℕ → Bool) where
  -- what is said of a list's numbers from k on is said of those behind its first
  behind : (k : ℕ) (bits : List Bool) (x : A) (xs : List A) → ((j : ℕ) → j < length (x ∷ xs) → passes (k + j) ≡ get_or bits j false)
      → (j : ℕ) → j < length xs → passes (suc k + j) ≡ get_or bits (suc j) false
  behind k bits x xs same j h =
      let e : suc k + j ≡ k + suc j = omega arith in
      ap passes e ∙ same (suc j) (omega arith)

  those_pick : (k : ℕ) (bits : List Bool) (xs : List A) → ((j : ℕ) → j < length xs → passes (k + j) ≡ get_or bits j false) → those passes k xs ≡ pick bits xs
  unfolding those pick
  those_pick k bits [] same = sym (pick_nil bits)
  those_pick k [] (x ∷ xs) same =
      let no : passes k ≡ false = rw add-zero at (same 0 (omega arith)) in
      rw no (those_pick (suc k) [] xs (behind k [] x xs same))
  those_pick k (true ∷ bits) (x ∷ xs) same =
      let yes : passes k ≡ true = rw add-zero at (same 0 (omega arith)) in
      rw yes (ap (λ (l : List A). x ∷ l) (those_pick (suc k) bits xs (behind k (true ∷ bits) x xs same)))
  those_pick k (false ∷ bits) (x ∷ xs) same =
      let no : passes k ≡ false = rw add-zero at (same 0 (omega arith)) in
      rw no (those_pick (suc k) bits xs (behind k (false ∷ bits) x xs same))

-- ---- satellites

pick_numbers : (k : ℕ) (bits : List Bool) → pick bits (numbers k (length bits)) ≡ places_from k bits
unfolding pick numbers places_from
pick_numbers k [] = refl
pick_numbers k (true ∷ bits) = ap (λ (l : List ℕ). k ∷ l) (pick_numbers (suc k) bits)
pick_numbers k (false ∷ bits) = pick_numbers (suc k) bits

places_set : (bits : List Bool) → places bits ≡ places_from 0 bits
unfolding places
places_set bits = those_pick (λ p. get_or bits p false) 0 bits (numbers 0 (length bits)) (λ j h. ap (λ (p : ℕ). get_or bits p false) (zero-add j)) ∙ pick_numbers 0 bits

named_by_lem : (s : System) → named_by s ≡ satellites_of s
unfolding named_by satellites_of
named_by_lem s = ap (map _) (places_set s.satellites)

pub all_satellites_lem : (m : Mask) → all_satellites m ≡ satellites m.systems
unfolding all_satellites satellites
all_satellites_lem m = λ i. flat_map (λ s. named_by_lem s i) m.systems

-- those of a selection whose bits stand at a place
pub selected_pick : {bytes : List ℕ} {start from : ℕ} (m : Mask) (b : List Bool) → length b ≡ length (satellites m.systems) → Stand bytes start from b
    → selected bytes (start + from) m ≡ pick b (satellites m.systems)
unfolding selected
selected_pick {bytes} {start} {from} m b whole s =
    ap (those (λ k. is_set bytes (start + from + k)) 0) (all_satellites_lem m)
    ∙ those_pick (λ k. is_set bytes (start + from + k)) 0 b (satellites m.systems) λ j h.
    let e : start + from + (0 + j) ≡ start + from + j = omega arith in
    ap (is_set bytes) e ∙ sym (stand_bit j (omega arith) s)

-- ---- cells, satellite by satellite

module _ (s : System) where
  abbrev signals : List ℕ
  signals = places_from 0 s.signals

  abbrev paired : Satellite → List Cell
  paired sat = map (λ place. record { satellite = sat; signal = place }) signals

  -- a satellite's cells: by what its flag is
  counted : (i : ℕ) (b : Bool) → s.flag ≡ b → counting s i ≡ cond b (pick (drop (i * length signals) s.cells) signals) signals
  unfolding counting
  counted i b flag =
      ap₂ (λ (c : Bool) (l : List ℕ). cond c (those (λ j. get_or s.cells (i * length l + j) false) 0 l) l) flag (places_set s.signals)
      ∙ ap (λ (l : List ℕ). cond b l signals) (those_pick _ 0 (drop (i * length signals) s.cells) signals λ j h.
      let e : i * length signals + (0 + j) ≡ i * length signals + j = omega arith in
      ap (λ (p : ℕ). get_or s.cells p false) e ∙ sym (get_or-drop (i * length signals) s.cells j false))

  -- with flag 0 every signal's
  cells_all : s.flag ≡ false → (i : ℕ) (sats : List Satellite) → cells_from s i sats ≡ flat_map paired sats
  unfolding cells_from flat_map
  cells_all flag i [] = refl
  cells_all flag i (sat ∷ sats) =
      ap₂ (λ (places : List ℕ) (l : List Cell). map (λ place. record { satellite = sat; signal = place }) places ++ l) (counted i false flag) (cells_all flag (suc i) sats)

  -- else those that the cell mask's bits select
  some_counted : (i : ℕ) (sat : Satellite) → s.flag ≡ true
      → map (λ place. record { satellite = sat; signal = place }) (counting s i) ≡ pick (drop (i * length signals) s.cells) (paired sat)
  some_counted i sat flag = ap (map _) (counted i true flag) ∙ sym (pick_map _ (drop (i * length signals) s.cells) signals)

  cells_some : s.flag ≡ true → (i : ℕ) (sats : List Satellite) → cells_from s i sats ≡ pick (drop (i * length signals) s.cells) (flat_map paired sats)
  unfolding cells_from flat_map
  cells_some flag i [] = sym (pick_nil (drop (i * length signals) s.cells))
  cells_some flag i (sat ∷ sats) =
      let bits : List Bool = drop (i * length signals) s.cells in
      let next : i * length signals + length (paired sat) ≡ suc i * length signals = rw length-map (omega arith) in
      let rest : drop (suc i * length signals) s.cells ≡ drop (length (paired sat)) bits =
      ap (λ (n : ℕ). drop n s.cells) (sym next) ∙ sym (drop-drop (length (paired sat)) (i * length signals) s.cells) in
      ap₂ ◌++◌ (some_counted i sat flag) (cells_some flag (suc i) sats ∙ ap (λ (l : List Bool). pick l (flat_map paired sats)) rest)
      ∙ sym (pick_append bits (paired sat) (flat_map paired sats))

  cells_here : cells_from s 0 (named_by s) ≡ cells_of s
  unfolding cells_of pairs_of
  cells_here = ap (cells_from s 0) (named_by_lem s) ∙ go s.flag refl
    where
      go : (b : Bool) → s.flag ≡ b → cells_from s 0 (satellites_of s) ≡ cond b (pick s.cells (pairs_of s)) (pairs_of s)
      go true flag = cells_some flag 0 (satellites_of s) ∙ ap (λ (n : ℕ). pick (drop n s.cells) (pairs_of s)) (zero-mul (length signals))
      go false flag = cells_all flag 0 (satellites_of s)

pub all_cells_lem : (m : Mask) → all_cells m ≡ cells m.systems
unfolding all_cells cells
all_cells_lem m = λ i. flat_map (λ s. cells_here s i) m.systems

-- ---- parts of a packet

pub packet_parts : (k n : ℕ) → packet_lines k n ≡ map of_part (numbers k n)
unfolding packet_lines packet_shape numbers of_part
packet_parts k zero = refl
packet_parts k (suc n) = ap (λ (l : List Line). of_part k ∷ l) (packet_parts (suc k) n)

-- ---- rows of satellites and of cells, by the shape of each system

module _ (shape : ℕ → List Column) where
  pub satellite_rows : (fields : ℕ → List Column) → ((system : ℕ) → five (fields system) ≡ shape system) → (sats : List Satellite)
      → map (of_satellite fields) sats ≡ satellite_lines shape sats
  unfolding of_satellite satellite_lines
  satellite_rows fields same sats = λ i. map (λ s. record { keys = pos s.system ∷ pos s.number ∷ absent ∷ []; shape = same s.system i }) sats

  pub cell_rows : (fields : List Column) → ((system : ℕ) → five fields ≡ shape system) → (cs : List Cell) → map (of_cell fields) cs ≡ cell_lines shape cs
  unfolding of_cell cell_lines
  cell_rows fields same cs = λ i. map (λ c. record {
    keys = pos c.satellite.system ∷ pos c.satellite.number ∷ pos c.signal ∷ [];
    shape = same c.satellite.system i;
  }) cs

pub bias_columns : (codes phases : Bool) (system : ℕ) → five (biases codes phases) ≡ bias_shape codes phases system
unfolding five biases code_bias phase_bias bias_shape
bias_columns true true system = refl
bias_columns true false system = refl
bias_columns false true system = refl
bias_columns false false system = refl

pub combined_columns : (orbits clocks : Bool) (system : ℕ) → five (combined orbits clocks system) ≡ combined_shape orbits clocks system
unfolding five combined orbit clock combined_shape iode_width
combined_columns true true system = refl
combined_columns true false system = refl
combined_columns false true system = refl
combined_columns false false system = refl
