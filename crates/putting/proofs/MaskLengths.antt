-- How many bits the systems of a sound holding are: 61 for each and those of its cell mask, so few that no sum of them wraps. Assumes nothing.
use Rattle.bits.proofs.Words.{◌≡◌, ap, ◌∙◌, true, ℕ, zero, suc, ◌+◌, ◌-◌, ◌*◌, ◌≤◌, ◌<◌, arith, length, drop}
use mathlib.Core.List.{List, flat_map}
use lib.Count.{ones}
use lib.ListN.{length-append}
use Rattle.bits.proofs.BitLists.{length_spell}
use Rattle.format.specs.Lengths.{mask_or}
use Rattle.format.specs.Masks.{System}
use Rattle.format.specs.Spelling.{put_system}
use Rattle.holding.specs.declared.Holding.{Holding}
use Rattle.holding.specs.Pictures.{system_of, systems_of, mask_of, sound}
use Rattle.saved.proofs.Longest.{cells_most}
use Rattle.saved.proofs.SlotsLeft.{SlotsLeft, all_slots, few_slots, low, small, slot_passed, strips_room, next_system}
use Rattle.saved.proofs.SlotTexts.{cells_long}
use Rattle.saved.specs.Slots.{slot_at, systems_from, cell_count}
use Rattle.putting.proofs.MaskFields.{systems_held}

-- the bits of the systems from the i-th slot on, whose strips begin with the n-th
abbrev bits_from : Holding → ℕ → ℕ → ℕ
bits_from h i n = length (flat_map put_system (systems_from h i n))

module _ {h : Holding} {i n : ℕ} (l : SlotsLeft h i n) where
  -- the next one's come first
  next_bits : i < h.count → bits_from h i n ≡ (61 + cell_count (slot_at h i)) + bits_from h (i + 1) (n + ones (slot_at h i).satellites)
  unfolding flat_map put_system system_of
  next_bits more =
      let s = slot_at h i in
      let cells = cells_long s (drop n h.strips) (low l more) (small l more) (strips_room l more) in
      ap (λ (ss : List System). length (flat_map put_system ss)) (next_system l more)
      ∙ simp (length-append, length_spell) (omega (arith, cells))

  no_bits : h.count ≤ i → bits_from h i n ≡ 0
  unfolding flat_map systems_of
  no_bits all =
      let none : h.count - i ≡ 0 = omega arith in
      rw none

-- at most 16 of a cell mask for each satellite
bits_most : (k : ℕ) {h : Holding} {i n : ℕ} → SlotsLeft h i n → h.count ≡ i + k → bits_from h i n ≤ 61 * k + 16 * (64 - n)
bits_most zero l e = omega (arith, no_bits l (omega arith))
bits_most (suc k) {h} {i} {n} l e =
    let more : i < h.count = omega arith in
    omega (arith, next_bits l more, cells_most (slot_at h i) (small l more), (slot_passed l more).few, bits_most k (slot_passed l more) (omega arith))

all_most : (h : Holding) → sound h ≡ true → bits_from h 0 0 ≤ 1329
all_most h on = omega (arith, few_slots (all_slots h on), bits_most h.count (all_slots h on) (omega arith))

-- ---- counted up to the i-th slot, behind some satellites

pub record BitsLeft (h : Holding) (bits i : ℕ) : Type 0 where
  pub n : ℕ
  pub slots : SlotsLeft h i n
  pub sum : bits_from h 0 0 ≡ bits + bits_from h i n

pub none_counted : (h : Holding) → sound h ≡ true → BitsLeft h 0 0
none_counted h on = record { n = 0; slots = all_slots h on; sum = omega arith }

module _ {h : Holding} {bits i : ℕ} (l : BitsLeft h bits i) where
  pub one_counted : i < h.count → {r : ℕ} → r ≡ cell_count (slot_at h i) → BitsLeft h (bits + (61 + r)) (i + 1)
  one_counted more is =
      record { n = l.n + ones (slot_at h i).satellites; slots = slot_passed l.slots more; sum = omega (arith, is, l.sum, next_bits l.slots more) }

  pub counted_few : bits ≤ 1329
  counted_few = omega (arith, l.sum, all_most h l.slots.sounds_well)

  pub all_counted : h.count ≤ i → bits ≡ length (flat_map put_system (mask_or (mask_of h)).systems)
  all_counted all = omega (arith, l.sum, no_bits l.slots all, ap (λ (ss : List System). length (flat_map put_system ss)) (systems_held h l.slots.sounds_well))
