-- How many bits and rows the chosen satellites of slots have. Assumes nothing.
use Rattle.bits.proofs.Words.{◌≡◌, refl, sym, ap, ◌∙◌, Bool, true, false, cond, List, [], ◌∷◌, map, ℕ, zero, suc, ◌+◌, ◌-◌, ◌*◌, ◌/◌, ◌%◌, ◌^◌, ◌≤◌, ◌<◌, arith, eqb, length, get_or, drop}
use native.Mathlib.Nat.{add-mul, mul_comm, mul-suc, mul-zero, suc-mul, zero-mul}
use lib.Count.{ones, ones-le}
use lib.Pow.{shr_le}
use lib.ListN.{length-map}
use lib.Seq.{drop-cons, drop-length}
use Rattle.bits.specs.BitLists.{spell}
use Rattle.format.proofs.Lengths.{satellite_width, total_append, total_same}
use Rattle.format.specs.Lengths.{total}
use Rattle.format.specs.Masks.{Satellite, places_from, pick}
use Rattle.format.specs.Messages.{satellite_lines}
use Rattle.format.specs.Rows.{Column, Line, shape_width, body_width}
use Rattle.holding.specs.Held.{satellites_in, slot_satellites}
use Rattle.rows.proofs.Table.{width_at, width_by}
use Rattle.rows.specs.Table.{shape_at}
use Rattle.body.specs.Chosen.{galileo, up_to_galileo, galileos, alone, chosen_lines}
use Rattle.body.specs.Written.{Counts}
use Rattle.body.proofs.Groups.{alone_chosen}
use Rattle.body.proofs.Selected.{pick_split, picked}
use Rattle.format.proofs.Picks.{pick_few, pick_map}
use Rattle.body.proofs.Slots.{in_slot, from_slot, Slot}

abbrev sat : ℕ → ℕ → Satellite
sat id place = record { system = id; number = suc place }

-- a selection of n satellites chooses at most 64
pub few_ones : (c n : ℕ) → c < 2 ^ 64 → n ≤ 64 → ones (c / 2 ^ (64 - n)) ≤ 64
few_ones c n small few = ones-le 64 (c / 2 ^ (64 - n)) (omega (arith, shr_le c (64 - n)))

-- ---- satellites whose rows are of one width

pub satellites_alike : (shape : ℕ → List Column) (width c n some : ℕ) (sats : List Satellite) → ((system : ℕ) → shape_width (shape system) ≡ width) → c < 2 ^ 64 → length sats ≡ n → n ≤ 64
    → some ≡ ones (c / 2 ^ (64 - n)) → Counts (satellite_lines shape (pick (spell 64 c) sats)) (record { bits = some * width; rows = some })
unfolding satellite_lines
satellites_alike shape width c n some sats same small many few e =
    let chosen : List Satellite = pick (spell 64 c) sats in
    let rows : some ≡ length chosen = e ∙ ap (λ (k : ℕ). ones (c / 2 ^ (64 - k))) (sym many) ∙ sym (picked c sats small (omega arith)) in
    record {
      bits = ap (λ (k : ℕ). k * width) rows ∙ mul_comm (length chosen) width ∙ sym (satellite_width shape chosen ∙ total_same _ width chosen (λ s. same s.system));
      rows = rows ∙ sym (length-map chosen _);
    }

-- ---- at most 64 satellites of at most 71 bits

pub total_most : {A : Type 0} (f : A → ℕ) (k : ℕ) (xs : List A) → ((x : A) → f x ≤ k) → total f xs ≤ k * length xs
unfolding total
total_most f k [] most = omega arith
total_most f k (x ∷ xs) most = omega (arith, most x, total_most f k xs most, mul-suc k (length xs))

-- how many lines there are, and how wide
pub record Few (lines : List Line) : Type 0 where
  pub rows : length lines ≤ 256
  pub bits : body_width lines ≤ 7168

pub few_satellites : (shape c : ℕ) (sats : List Satellite) → length sats ≤ 64 → Few (satellite_lines (shape_at shape) (pick (spell 64 c) sats))
unfolding satellite_lines
few_satellites shape c sats few =
    let chosen : List Satellite = pick (spell 64 c) sats in
    let less = pick_few (spell 64 c) sats in
    record {
      rows = rw length-map (omega arith);
      bits = omega (arith, satellite_width (shape_at shape) chosen, total_most (λ (s : Satellite). shape_width (shape_at shape s.system)) 71 chosen (λ s. width_at s.system shape));
    }

-- ---- those of Galileo

one_most : (b : Bool) → cond b 1 0 ≤ 1
one_most true = omega arith
one_most false = omega arith

pub few_galileos : (sats : List Satellite) → galileos sats ≤ length sats
unfolding galileos
few_galileos sats = omega (arith, total_most (λ (s : Satellite). galileo s.system) 1 sats (λ s. one_most (eqb s.system 2)))

-- of one system all are, or none is
system_galileos : (id : ℕ) (places : List ℕ) → galileos (map (λ place. record { system = id; number = suc place }) places) ≡ galileo id * length places
unfolding galileos total
system_galileos id [] = sym (mul-zero (galileo id))
system_galileos id (place ∷ places) = omega (arith, system_galileos id places, mul-suc (galileo id) (length places))

-- a selection has no more than all
pick_less : {A : Type 0} (f : A → ℕ) (bits : List Bool) (xs : List A) → total f (pick bits xs) ≤ total f xs
unfolding pick total
pick_less f [] xs = omega arith
pick_less f (b ∷ bits) [] = omega arith
pick_less f (true ∷ bits) (x ∷ xs) = omega (arith, pick_less f bits xs)
pick_less f (false ∷ bits) (x ∷ xs) = omega (arith, pick_less f bits xs)

-- behind the last slot of Galileo there is none
last_galileo : (ids : List ℕ) (n : ℕ) → n ≤ length ids → (up_to_galileo ids n ≤ n) × (total galileo (drop (up_to_galileo ids n) ids) ≡ total galileo (drop n ids))
unfolding up_to_galileo total
last_galileo ids zero room = (omega arith, refl)
last_galileo ids (suc n) room = go (eqb (get_or ids n 0) 2) refl (last_galileo ids n (omega arith))
  where
    go : (b : Bool) → eqb (get_or ids n 0) 2 ≡ b → (up_to_galileo ids n ≤ n) × (total galileo (drop (up_to_galileo ids n) ids) ≡ total galileo (drop n ids))
        → let k = cond b (suc n) (up_to_galileo ids n) in (k ≤ suc n) × (total galileo (drop k ids) ≡ total galileo (drop (suc n) ids))
    go true e less = (omega arith, refl)
    go false e less = (omega (arith, less.0), less.1 ∙ ap (total galileo) (drop-cons ids n 0 room) ∙ rw e (omega arith))

pub past_galileo : (ids : List ℕ) {n : ℕ} → n ≡ up_to_galileo ids (length ids) → (n ≤ length ids) × (total galileo (drop n ids) ≡ 0)
unfolding total
past_galileo ids e =
    let past = last_galileo ids (length ids) (omega arith) in
    rw e (past.0, past.1 ∙ ap (total galileo) (drop-length ids))

-- slots of other systems have none
other_slots : (ids masks : List ℕ) → total galileo ids ≡ 0 → galileos (slot_satellites ids masks) ≡ 0
unfolding galileos total slot_satellites satellites_in
other_slots [] masks none = refl
other_slots (id ∷ ids) [] none = refl
other_slots (id ∷ ids) (m ∷ masks) none =
    let places : List ℕ = places_from 0 (spell 40 m) in
    let other : galileo id ≡ 0 = omega (arith, none) in
    let here = system_galileos id places ∙ ap (λ (k : ℕ). k * length places) other ∙ zero-mul (length places) in
    omega (arith, total_append (λ (s : Satellite). galileo s.system) (satellites_in 40 id m) (slot_satellites ids masks), here, other_slots ids masks (omega (arith, none)))

pub no_galileos : (ids masks : List ℕ) (bits : List Bool) → total galileo ids ≡ 0 → galileos (pick bits (slot_satellites ids masks)) ≡ 0
unfolding galileos
no_galileos ids masks bits none = omega (arith, pick_less (λ (s : Satellite). galileo s.system) bits (slot_satellites ids masks), other_slots ids masks none)

-- those of the next slot that are chosen, and those of the others
module _ (ids masks : List ℕ) (i c n : ℕ) (slot : Slot ids masks i) (small : c < 2 ^ 64) (many : n ≡ ones (get_or masks i 0)) where
  here : galileos (pick (spell 64 c) (in_slot ids masks i)) ≡ galileo (get_or ids i 0) * ones (c / 2 ^ (64 - n))
  unfolding satellites_in
  here =
      let id : ℕ = get_or ids i 0 in
      let places : List ℕ = places_from 0 (spell 64 (get_or masks i 0 * 2 ^ 24 % 2 ^ 64)) in
      let long : length places ≡ n = sym (length-map places (λ (place : ℕ). sat id place)) ∙ slot.count ∙ sym many in
      ap galileos (pick_map (λ (place : ℕ). sat id place) (spell 64 c) places)
      ∙ system_galileos id (pick (spell 64 c) places)
      ∙ ap (λ (k : ℕ). galileo id * k) (picked c places small (omega (arith, slot.few, slot.count)) ∙ ap (λ (k : ℕ). ones (c / 2 ^ (64 - k))) long)

  pub slot_galileos : galileos (pick (spell 64 c) (from_slot ids masks i))
      ≡ galileo (get_or ids i 0) * ones (c / 2 ^ (64 - n)) + galileos (pick (spell 64 (c * 2 ^ n % 2 ^ 64)) (from_slot ids masks (suc i)))
  unfolding galileos
  slot_galileos =
      let both = pick_split c n (in_slot ids masks i) (from_slot ids masks (suc i)) (slot.count ∙ sym many) (omega (arith, slot.few, slot.count)) in
      ap (λ (l : List Satellite). galileos (pick (spell 64 c) l)) slot.both ∙ ap galileos both
      ∙ total_append _ (pick (spell 64 c) (in_slot ids masks i)) _ ∙ ap (λ (k : ℕ). k + galileos (pick (spell 64 (c * 2 ^ n % 2 ^ 64)) (from_slot ids masks (suc i)))) here

-- the bits of satellites are of one width but for Galileo's
longer_width : (i : ℕ) (sats : List Satellite)
    → body_width (satellite_lines (shape_at i) sats) ≡ length sats * shape_width (shape_at i 0) + galileos sats * (shape_width (shape_at i 2) - shape_width (shape_at i 0))
unfolding satellite_lines body_width galileos total
longer_width i [] = omega (arith, zero-mul (shape_width (shape_at i 0)), zero-mul (shape_width (shape_at i 2) - shape_width (shape_at i 0)))
longer_width i (s ∷ sats) =
    let width : ℕ = shape_width (shape_at i 0) in
    let more : ℕ = shape_width (shape_at i 2) - width in
    omega (arith, width_by i s.system _ refl, longer_width i sats, suc-mul (length sats) width, add-mul (galileo s.system) (galileos sats) more)

pub satellites_longer : (i c n width wide longer : ℕ) (sats : List Satellite) → c < 2 ^ 64 → length sats ≡ n → n ≤ 64 → width ≡ shape_width (shape_at i 0) → wide ≡ shape_width (shape_at i 2)
    → longer ≡ galileos (pick (spell 64 c) sats)
    → let some = ones (c / 2 ^ (64 - n)) in Counts (chosen_lines c (alone (shape_at i) sats)) (record { bits = some * width + longer * (wide - width); rows = some })
unfolding satellite_lines
satellites_longer i c n width wide longer sats small many few d e f =
    let chosen : List Satellite = pick (spell 64 c) sats in
    let rows : ones (c / 2 ^ (64 - n)) ≡ length chosen = ap (λ (k : ℕ). ones (c / 2 ^ (64 - k))) (sym many) ∙ sym (picked c sats small (omega arith)) in
    rw (alone_chosen (shape_at i) c sats, rows, d, e, f) (record { bits = sym (longer_width i chosen); rows = sym (length-map chosen _) })
