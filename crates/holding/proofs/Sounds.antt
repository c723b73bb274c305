-- What a sound holding is: its sizes, and what its numbers say of the mask that it holds. Assumes nothing.
use Rattle.bits.proofs.Words.{◌≡◌, refl, sym, ap, ◌∙◌, true, false, List, [], ◌∷◌, ◌++◌, map, ℕ, ◌-◌, ◌≤◌, arith, ltb, length}
use mathlib.Core.List.{append-nil, flat_map}
use lib.ListN.{replicate, length-append, length-map, length-replicate}
use lib.Seq.{take_at}
use Rattle.bits.specs.BitLists.{number}
use Rattle.format.proofs.MakesBack.{good_system_lem}
use Rattle.format.proofs.Sames.{and_true}
use Rattle.format.proofs.Selections.{Distinct, nobody, satellites_distinct}
use Rattle.format.proofs.Steps.{field_spelled}
use Rattle.format.specs.Good.{good_system, good_systems, good}
use Rattle.format.specs.Masks.{System, Mask, Held, nothing, mask, Satellite, satellites_of, satellites, cells}
use Rattle.holding.specs.declared.Holding.{Holding}
use Rattle.holding.specs.Bounds.{narrow, every}
use Rattle.holding.specs.Held.{is_held, issue_of, satellites_held, cells_held, satellites_in, slot_satellites, slots_of, strip_cells}
use Rattle.holding.specs.Pictures.{filled, strips_of, picture_of, mask_of, sound}
use Rattle.holding.proofs.Bounds.{narrow_filled}
use Rattle.holding.proofs.Built.{few_systems}
use Rattle.holding.proofs.Narrows.{narrow_systems}
use Rattle.holding.proofs.Pictured.{picture_sound}
use Rattle.holding.proofs.PicturedCells.{strip_cells_append, picture_cells}
use Rattle.holding.proofs.PicturedStrips.{picture_strips, few_parts}

-- the lengths and widths of its lists that the types give
pub record Shaped (h : Holding) : Type 0 where
  pub ids : length h.ids ≡ 5
  pub satellites : length h.satellites ≡ 5
  pub signals : length h.signals ≡ 5
  pub flags : length h.flags ≡ 5
  pub strips : length h.strips ≡ 64
  pub signals_narrow : narrow 16 h.signals ≡ true
  pub strips_narrow : narrow 16 h.strips ≡ true

-- a holding that is the picture of what is held
pub record Sounds (g : Held) (h : Holding) : Type 0 where
  pub good_held : good g ≡ true
  pub picture : picture_of g ≡ h
  pub shaped : Shaped h
  pub satellites_narrow : narrow 40 h.satellites ≡ true
  pub few_systems : h.count ≤ 5
  pub few_satellites : h.nsat ≤ 64
  pub few_cells_lem : h.ncell ≤ 256
  pub held : h.held ≡ is_held g
  pub iod : h.iod ≡ issue_of g
  pub nsat : h.nsat ≡ length (satellites_held g)
  pub ncell : h.ncell ≡ length (cells_held g)
  pub slots : slots_of h ≡ satellites_held g
  pub strips : strip_cells (satellites_held g) h.strips ≡ cells_held g

-- ---- of a good mask's picture

length_filled : {A : Type 0} (n : ℕ) (d : A) (l : List A) → length l ≤ n → length (filled n d l) ≡ n
unfolding filled
length_filled n d l few = simp (length-append, length-replicate) (omega arith)

-- by system
by_system : {A : Type 0} (f : System → A) (d : A) (ss : List System) → length ss ≤ 5 → length (filled 5 d (map f ss)) ≡ 5
by_system f d ss few = length_filled 5 d (map f ss) (rw (length-map ss f) few)

-- the slots of good systems, whatever fills the array of masks
slots_systems : (before ss : List System) (more : List ℕ) → good_systems before ss ≡ true
    → slot_satellites (map (λ s. s.id) ss) (map (λ s. number s.satellites) ss ++ more) ≡ satellites ss
unfolding good_systems slot_satellites satellites_in satellites satellites_of flat_map
slots_systems before [] more e = refl
slots_systems before (s ∷ ss) more e =
    let parts = and_true (good_system before s) _ e in
    rw (field_spelled 40 s.satellites (good_system_lem before s parts.0).whole, slots_systems (before ++ (s ∷ [])) ss more parts.1)

module _ (m : Mask) (good-mask : good (mask m) ≡ true) where
  mask_slots : slots_of (picture_of (mask m)) ≡ satellites m.systems
  unfolding good picture_of filled
  mask_slots =
      let names : List ℕ = map (λ s. s.id) m.systems in
      let masks : List ℕ = map (λ s. number s.satellites) m.systems in
      ap (λ (l : List ℕ). slot_satellites l (masks ++ replicate (5 - length masks) 0)) (take_at names (replicate (5 - length names) 0) (length m.systems) (length-map m.systems _))
      ∙ slots_systems [] m.systems (replicate (5 - length masks) 0) (and_true (ltb m.iod 16) _ good-mask).1

  mask_strips : strip_cells (satellites m.systems) (picture_of (mask m)).strips ≡ cells m.systems
  unfolding picture_of filled strip_cells
  mask_strips =
      let sats : List Satellite = satellites m.systems in
      let strips : List ℕ = flat_map strips_of m.systems in
      let more : List ℕ = replicate (64 - length strips) 0 in
      ap (λ (l : List Satellite). strip_cells l (strips ++ more)) (sym (append-nil sats))
      ∙ strip_cells_append sats [] strips more (sym (picture_strips m.systems))
      ∙ append-nil (strip_cells sats strips)
      ∙ sym (picture_cells m good-mask)

pub picture_sounds : (g : Held) → good g ≡ true → Sounds g (picture_of g)
unfolding good picture_of every is_held issue_of satellites_held cells_held slot_satellites strip_cells
picture_sounds nothing e =
    record {
      good_held = e;
      picture = refl;
      shaped = record { ids = refl; satellites = refl; signals = refl; flags = refl; strips = refl; signals_narrow = refl; strips_narrow = refl };
      satellites_narrow = refl;
      few_systems = omega arith;
      few_satellites = omega arith;
      few_cells_lem = omega arith;
      held = refl;
      iod = refl;
      nsat = refl;
      ncell = refl;
      slots = refl;
      strips = refl;
    }
picture_sounds (mask m) e =
    let ss = m.systems in
    let few = few_systems m e in
    let thin = narrow_systems [] ss (and_true (ltb m.iod 16) _ e).1 in
    record {
      good_held = e;
      picture = refl;
      shaped =
          record {
            ids = by_system (λ s. s.id) 0 ss few;
            satellites = by_system (λ s. number s.satellites) 0 ss few;
            signals = by_system (λ s. number s.signals) 0 ss few;
            flags = by_system (λ s. s.flag) false ss few;
            strips = length_filled 64 0 (flat_map strips_of ss) (rw (picture_strips ss) (few_parts m e).0);
            signals_narrow = narrow_filled 16 5 _ thin.signals;
            strips_narrow = narrow_filled 16 64 _ thin.strips;
          };
      satellites_narrow = narrow_filled 40 5 _ thin.satellites;
      few_systems = few;
      few_satellites = (few_parts m e).0;
      few_cells_lem = (few_parts m e).1;
      held = refl;
      iod = refl;
      nsat = refl;
      ncell = refl;
      slots = mask_slots m e;
      strips = mask_strips m e;
    }

-- ---- of a sound holding

pub sounds : (h : Holding) → sound h ≡ true → Sounds (mask_of h) h
sounds h e =
    let parts = picture_sound h e in
    rw parts.1 at (picture_sounds (mask_of h) parts.0)

-- no two satellites that are held are the same
pub held_distinct : (g : Held) → good g ≡ true → Distinct (satellites_held g)
unfolding satellites_held
held_distinct nothing fine = nobody
held_distinct (mask m) fine = satellites_distinct m fine

-- so few satellites and cells are held
pub few_held : {g : Held} {h : Holding} → Sounds g h → (length (satellites_held g) ≤ 64) × (length (cells_held g) ≤ 256)
few_held s = (omega (arith, s.nsat, s.few_satellites), omega (arith, s.ncell, s.few_cells_lem))
