-- The slots of a sound holding one after the other: what each may be read by, the systems and the texts that are left. Assumes nothing.
use mathlib.Core.Path.{◌≡◌, refl, sym, ap, ◌∙◌}
use mathlib.Core.Bool.{true, cond, ◌&&◌}
use mathlib.Core.List.{List, [], ◌∷◌, ◌++◌, flat_map}
use Prim.Native.Nat.{ℕ, suc, ◌+◌, ◌-◌, ◌*◌, ◌^◌, ◌≤◌, ◌<◌}
use native.Mathlib.Nat.{add-zero, sub-zero}
use native.Mathlib.Numerals.{add-one}
use native.Mathlib.Omega.{arith}
use lib.Count.{ones}
use lib.Dec.{eqb, leb, ltb}
use lib.ListN.{length, get_or, take, drop, length-append, length-drop}
use lib.Seq.{get_or-drop, drop-drop}
use borrow.Author.Tests.{ltb-true}
use Rattle.format.proofs.Sames.{and_true}
use Rattle.format.specs.Lengths.{total}
use Rattle.format.specs.Saved.{system_text}
use Rattle.holding.proofs.Bounds.{below_at}
use Rattle.holding.proofs.Fitting.{fits_few, next_slot}
use Rattle.holding.proofs.Places.{ones_places}
use Rattle.holding.proofs.Sounds.{sounds}
use Rattle.holding.proofs.SoundTested.{sound_tested}
use Rattle.holding.specs.Building.{ones_in}
use Rattle.holding.specs.declared.Holding.{Holding}
use Rattle.holding.specs.Pictures.{systems_of, sound}
use Rattle.holding.specs.Testing.{slot_fits, slots_fit, tested}
use Rattle.text.proofs.Stores.{Wrote, Left, all_left, part_wrote, left_room, none_left}
use Rattle.saved.specs.declared.systems.Slot.{Slot}
use Rattle.saved.specs.Slots.{slot_at, system_in, systems_from, system_long}
use Rattle.saved.proofs.SlotTexts.{system_long_lem}

-- of a sound holding the slots from i on are left, whose strips begin with the n-th
pub record SlotsLeft (h : Holding) (i n : ℕ) : Type 0 where
  pub sounds_well : sound h ≡ true
  pub up_to : i ≤ h.count
  pub few : n ≤ 64
  pub fit : slots_fit h.nsat h.ncell (h.count - i) (take i h.ids) n (ones_in (take n h.strips)) (drop i h.ids) (drop i h.satellites) (drop i h.signals) (drop i h.flags) (drop n h.strips) ≡ true

pub all_slots : (h : Holding) → sound h ≡ true → SlotsLeft h 0 0
unfolding tested total
all_slots h e =
    let parts = and_true (cond h.held (ltb h.iod 16) (eqb h.iod 0 && eqb h.count 0)) _ (sound_tested h e) in
    record { sounds_well = e; up_to = omega arith; few = omega arith; fit = rw sub-zero (and_true (leb h.count 5) _ parts.1).1 }

module _ {h : Holding} {i n : ℕ} (l : SlotsLeft h i n) where
  pub few_slots : h.count ≤ 5
  few_slots = (sounds h l.sounds_well).few_systems

  pub strips_there : length h.strips ≡ 64
  strips_there = (sounds h l.sounds_well).shaped.strips

  -- the next slot
  module _ (more : i < h.count) where
    pub low : (slot_at h i).satellites < 2 ^ 40
    low = let s = sounds h l.sounds_well in below_at (2 ^ 40) h.satellites s.satellites_narrow i (omega (arith, few_slots, s.shaped.satellites))

    pub small : (slot_at h i).signals < 2 ^ 16
    small = let s = (sounds h l.sounds_well).shaped in below_at (2 ^ 16) h.signals s.signals_narrow i (omega (arith, few_slots, s.signals))

    -- it fits, and so do those after it
    pub slot_parts :
        let s = slot_at h i in
        (slot_fits (take i h.ids) n s.id s.satellites s.signals s.flag (drop n h.strips) ≡ true)
        × (slots_fit h.nsat h.ncell (h.count - suc i) (take (suc i) h.ids) (n + ones s.satellites) (ones_in (take (n + ones s.satellites) h.strips)) (drop (suc i) h.ids) (drop (suc i) h.satellites) (drop (suc i) h.signals) (drop (suc i) h.flags) (drop (n + ones s.satellites) h.strips) ≡ true)
    slot_parts =
        let s = slot_at h i in
        let inside : i < length h.ids = omega (arith, few_slots, (sounds h l.sounds_well).shaped.ids) in
        let step = next_slot h.nsat h.ncell h.count n i h.ids h.satellites h.signals h.flags h.strips more inside in
        and_true (slot_fits (take i h.ids) n s.id s.satellites s.signals s.flag (drop n h.strips)) _ (sym step ∙ l.fit)

    pub slot_passed : SlotsLeft h (i + 1) (n + ones (slot_at h i).satellites)
    slot_passed =
        let s = slot_at h i in
        record {
          sounds_well = l.sounds_well;
          up_to = omega arith;
          few = fits_few (take i h.ids) n s.id s.satellites s.signals s.flag (drop n h.strips) slot_parts.0;
          fit = rw (add-one i) slot_parts.1;
        }

    -- its ID is one of five
    pub id_few : (slot_at h i).id < 5
    unfolding slot_fits
    id_few = ltb-true (slot_at h i).id 5 (and_true (ltb (slot_at h i).id 5) _ slot_parts.0).0

    -- its strips are there
    pub strips_room : ones (slot_at h i).satellites ≤ length (drop n h.strips)
    strips_room = rw length-drop (omega (arith, strips_there, slot_passed.few))

    -- its system comes first
    pub next_system : systems_from h i n ≡ system_in (slot_at h i) (drop n h.strips) ∷ systems_from h (i + 1) (n + ones (slot_at h i).satellites)
    unfolding systems_of
    next_system =
        let left : h.count - i ≡ suc (h.count - (i + 1)) = omega arith in
        rw (left, ones_places 40 (get_or h.satellites i 0) 0 low) (simp (get_or-drop, drop-drop, add-zero))

    pub next_text : flat_map system_text (systems_from h i n) ≡ system_text (system_in (slot_at h i) (drop n h.strips)) ++ flat_map system_text (systems_from h (i + 1) (n + ones (slot_at h i).satellites))
    unfolding flat_map
    next_text = ap (flat_map system_text) next_system

    pub next_long : length (system_text (system_in (slot_at h i) (drop n h.strips))) ≡ system_long (slot_at h i)
    next_long = system_long_lem (slot_at h i) (drop n h.strips) low small strips_room

    -- the same of a slot that was read, and a number of satellites that was counted
    module _ {s : Slot} (is : s ≡ slot_at h i) where
      pub read_low : s.satellites < 2 ^ 40
      read_low = rw is low

      pub read_few : n + ones s.satellites ≤ 64
      read_few = rw is slot_passed.few

      module _ {k : ℕ} (count : k ≡ ones s.satellites) where
        pub read_passed : SlotsLeft h (i + 1) (n + k)
        read_passed = rw (count, is) slot_passed

        pub read_text : flat_map system_text (systems_from h i n) ≡ system_text (system_in s (drop n h.strips)) ++ flat_map system_text (systems_from h (i + 1) (n + k))
        read_text = rw (count, is) next_text

  -- none is left
  pub no_text : h.count ≤ i → flat_map system_text (systems_from h i n) ≡ []
  unfolding flat_map systems_of
  no_text all =
      let none : h.count - i ≡ 0 = omega arith in
      rw none

-- ---- the systems' text: how long it is, and written

-- counted up to the i-th slot, behind some satellites
pub record LongLeft (h : Holding) (long i : ℕ) : Type 0 where
  pub n : ℕ
  pub slots : SlotsLeft h i n
  pub sum : length (flat_map system_text (systems_from h 0 0)) ≡ long + length (flat_map system_text (systems_from h i n))
  pub most : long ≤ 5000 * i

pub none_long : (h : Holding) → sound h ≡ true → LongLeft h 0 0
none_long h e = record { n = 0; slots = all_slots h e; sum = omega arith; most = omega arith }

module _ {h : Holding} {long i : ℕ} (l : LongLeft h long i) where
  pub one_long : i < h.count → {r : ℕ} → r ≡ system_long (slot_at h i) → r ≤ 5000 → LongLeft h (long + r) (i + 1)
  one_long more {r} is few =
      let text = system_text (system_in (slot_at h i) (drop l.n h.strips)) in
      let rest = flat_map system_text (systems_from h (i + 1) (l.n + ones (slot_at h i).satellites)) in
      let parts : length (flat_map system_text (systems_from h i l.n)) ≡ length text + length rest = ap length (next_text l.slots more) ∙ length-append text rest in
      record {
        n = l.n + ones (slot_at h i).satellites;
        slots = slot_passed l.slots more;
        sum = omega (arith, l.sum, parts, next_long l.slots more);
        most = omega (arith, l.most);
      }

  pub all_long : h.count ≤ i → long ≡ length (flat_map system_text (systems_from h 0 0))
  all_long all = omega (arith, l.sum, ap length (no_text l.slots all))

  pub long_few : long ≤ 25000
  long_few = omega (arith, l.most, l.slots.up_to, few_slots l.slots)

-- written up to the i-th slot
pub record TextLeft (before : List ℕ) (start : ℕ) (h : Holding) (line : List ℕ) (place n i : ℕ) : Type 0 where
  pub slots : SlotsLeft h i n
  pub text : Left before start (flat_map system_text (systems_from h 0 0)) line place (flat_map system_text (systems_from h i n))

pub none_written : (before : List ℕ) (start : ℕ) (h : Holding) → sound h ≡ true → TextLeft before start h before start 0 0
none_written before start h e = record { slots = all_slots h e; text = all_left before start (flat_map system_text (systems_from h 0 0)) }

module _ {before : List ℕ} {start : ℕ} {h : Holding} {line : List ℕ} {place n i : ℕ} (l : TextLeft before start h line place n i) where
  module _ (more : i < h.count) {s : Slot} (is : s ≡ slot_at h i) where
    pub one_room : start + length (flat_map system_text (systems_from h 0 0)) ≤ length before → place + length (system_text (system_in s (drop n h.strips))) ≤ length line
    one_room room = omega (arith, left_room l.text room, simp length-append at (ap length (read_text l.slots more is refl)))

    pub one_written : {after : List ℕ} {end : ℕ} → Wrote line place (system_text (system_in s (drop n h.strips))) after end → {k : ℕ} → k ≡ ones s.satellites
        → TextLeft before start h after end (n + k) (i + 1)
    one_written w count = record { slots = read_passed l.slots more is count; text = part_wrote l.text (read_text l.slots more is count) w }

  pub all_written : h.count ≤ i → Wrote before start (flat_map system_text (systems_from h 0 0)) line place
  all_written all = none_left l.text (no_text l.slots all)
