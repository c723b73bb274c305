-- The test of a lent holding slot by slot, of specs/Testing.antt, holds of the picture of a good holding, and so of every sound struct.
-- Assumes nothing.
use Rattle.bits.proofs.Words.{◌≡◌, refl, sym, ◌∙◌, Bool, true, false, List, [], ◌∷◌, ◌++◌, map, ℕ, zero, suc, ◌-◌, ◌≤◌, arith, ltb, length, drop}
use mathlib.Core.List.{append_assoc, append-nil, map-append, flat_map}
use lib.Count.{ones}
use lib.ListN.{replicate, length-map, length-replicate}
use lib.Seq.{append_snoc, take_at, drop_at}
use borrow.Author.Tests.{leb-true, lt-ltb, le-leb}
use Rattle.holding.specs.Bounds.{every}
use Rattle.bits.specs.BitLists.{number}
use Rattle.format.proofs.Sames.{and_true, true_and, eqb_refl}
use Rattle.format.proofs.Steps.{field_spelled, field_lt}
use Rattle.format.specs.Assigned.{known}
use Rattle.format.specs.Good.{good_system, good_systems, good}
use Rattle.format.specs.Masks.{System, Held, nothing, mask, places_from, satellites, cells}
use Rattle.holding.specs.declared.Holding.{Holding}
use Rattle.format.proofs.MakesBack.{GoodSystem, good_system_lem}
use Rattle.holding.specs.Pictures.{filled, strips_from, strips_of, picture_of, mask_of, sound}
use Rattle.holding.specs.Spread.{spread}
use Rattle.holding.specs.Testing.{strip_fits, strips_fit, masks_fit, slot_fits, empty_slots, empty_strips, slots_fit, tested}
use Rattle.holding.proofs.Places.{ones_number}
use Rattle.holding.proofs.Spreads.{length_spread, spread_within, within_number}
use Rattle.holding.proofs.PicturedStrips.{satellite_count, strips_either, length_strips, satellites_snoc, cells_snoc}
use Rattle.holding.proofs.Pictured.{picture_sound}
use Rattle.holding.proofs.Built.{strips_ones, few_systems}

-- ---- strips

-- with a cell mask a strip has no signal that the system has not
strips_from_lem : (n : ℕ) (signals bits : List Bool) → strips_fit true (number signals) (strips_from n signals bits) ≡ true
unfolding every strip_fits strips_from
strips_from_lem zero signals bits = refl
strips_from_lem (suc n) signals bits =
    true_and (sym (within_number (spread signals bits) signals (length_spread signals bits)) ∙ spread_within signals bits)
    (strips_from_lem n signals (drop (length (places_from 0 signals)) bits))

-- without one it has all of them
strips_all : (n signals : ℕ) → strips_fit false signals (replicate n signals) ≡ true
unfolding every strip_fits
strips_all zero signals = refl
strips_all (suc n) signals = true_and (eqb_refl signals) (strips_all n signals)

-- the strips of a system fit its flag and its signals
strips_fit_lem : (s : System) → strips_fit s.flag (number s.signals) (strips_of s) ≡ true
strips_fit_lem s =
    strips_either (λ flag l. strips_fit flag (number s.signals) l ≡ true) s
    (strips_from_lem (satellite_count s) s.signals s.cells) (strips_all (satellite_count s) (number s.signals))

-- ---- one slot

-- its masks fit
masks_fit_lem : (before : List System) (s : System) → GoodSystem before s
    → masks_fit (length (satellites before)) s.id (number s.satellites) (number s.signals) ≡ true
unfolding masks_fit
masks_fit_lem before s z =
    rw (field_spelled 40 s.satellites z.whole, field_spelled 16 s.signals z.long, ones_number s.satellites 0)
    (true_and (lt-ltb _ _ (field_lt 40 s.satellites z.whole)) (true_and z.placed (true_and (le-leb _ _ z.few) z.given)))

-- a system's satellite mask has a one for each of its strips
ones_strips : (s : System) → length (strips_of s) ≡ ones (number s.satellites)
ones_strips s = length_strips s ∙ sym (ones_number s.satellites 0)

-- a good system fits its slot, whatever stands behind its strips
slot_fits_lem : (before : List System) (s : System) (more : List ℕ) → good_system before s ≡ true
    → slot_fits (map (λ s. s.id) before) (length (satellites before)) s.id (number s.satellites) (number s.signals) s.flag (strips_of s ++ more) ≡ true
unfolding slot_fits known
slot_fits_lem before s more e =
    let z = good_system_lem before s e in
    let low : ltb s.id 5 ≡ true = lt-ltb s.id 5 (omega (arith, leb-true s.id 4 z.known_id)) in
    rw (take_at (strips_of s) more _ (ones_strips s)) (true_and low (true_and z.fresh (true_and (masks_fit_lem before s z) (strips_fit_lem s))))

-- ---- all slots

-- zeros are slots and strips that are not used
empty_slots_lem : (j : ℕ) → empty_slots j (replicate j 0) (replicate j 0) (replicate j 0) (replicate j false) ≡ true
unfolding empty_slots
empty_slots_lem zero = refl
empty_slots_lem (suc j) = empty_slots_lem j

empty_strips_lem : (r : ℕ) → empty_strips (replicate r 0) ≡ true
unfolding every
empty_strips_lem zero = refl
empty_strips_lem (suc r) = empty_strips_lem r

-- good systems fit their slots, with zeros behind
slots_fit_lem : (before ss : List System) (j r : ℕ) → length (cells before) ≤ 256 → good_systems before ss ≡ true
    → slots_fit (length (satellites (before ++ ss))) (length (cells (before ++ ss))) (length ss) (map (λ s. s.id) before) (length (satellites before))
    (length (cells before)) (map (λ s. s.id) ss ++ replicate j 0) (map (λ s. number s.satellites) ss ++ replicate j 0)
    (map (λ s. number s.signals) ss ++ replicate j 0) (map (λ s. s.flag) ss ++ replicate j false) (flat_map strips_of ss ++ replicate r 0)
    ≡ true
unfolding good_systems slots_fit flat_map
slots_fit_lem before [] j r few e =
    rw (append-nil, length-replicate, eqb_refl (length (satellites before)), eqb_refl (length (cells before)), le-leb (length (cells before)) 256 few)
    (true_and (empty_slots_lem j) (true_and (empty_strips_lem r) refl))
slots_fit_lem before (s ∷ ss) j r few e =
    let parts = and_true (good_system before s) _ e in
    let more = flat_map strips_of ss ++ replicate r 0 in
    let z = good_system_lem before s parts.0 in
    let rest = slots_fit_lem (before ++ (s ∷ [])) ss j r z.held parts.1 in
    rw (
      append_assoc (strips_of s) (flat_map strips_of ss) (replicate r 0),
      take_at (strips_of s) more _ (ones_strips s),
      drop_at (strips_of s) more _ (ones_strips s),
      ones_number s.satellites 0,
      ← (satellites_snoc before s),
      strips_ones s z.long,
      ← (cells_snoc before s),
    )
    (true_and (slot_fits_lem before s more parts.0) (rw (append_snoc, map-append) at rest))

-- so do those of a mask in its picture
filled_fit : (ss : List System) → good_systems [] ss ≡ true
    → slots_fit (length (satellites ss)) (length (cells ss)) (length ss) [] 0 0 (filled 5 0 (map (λ s. s.id) ss))
    (filled 5 0 (map (λ s. number s.satellites) ss)) (filled 5 0 (map (λ s. number s.signals) ss)) (filled 5 false (map (λ s. s.flag) ss))
    (filled 64 0 (flat_map strips_of ss))
    ≡ true
unfolding filled satellites cells flat_map
filled_fit ss e = simp length-map (slots_fit_lem [] ss (5 - length ss) (64 - length (flat_map strips_of ss)) (omega arith) e)

-- ---- the whole test

-- the test of the code holds of the picture of a good holding
pub picture_tested : (g : Held) → good g ≡ true → tested (picture_of g) ≡ true
unfolding good tested picture_of slots_fit empty_slots every
picture_tested nothing e = refl
picture_tested (mask m) e =
    let parts = and_true (ltb m.iod 16) _ e in
    true_and parts.0 (true_and (le-leb _ _ (few_systems m e)) (filled_fit m.systems parts.1))

-- and so of every struct for which the test of the definitions holds
pub sound_tested : (h : Holding) → sound h ≡ true → tested h ≡ true
sound_tested h e =
    let parts = picture_sound h e in
    rw parts.1 at (picture_tested (mask_of h) parts.0)
