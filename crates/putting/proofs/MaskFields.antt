-- The systems of a sound holding as fields: each is a number of its bits, and together they spell what a mask message says of the systems. Assumes nothing.
use Rattle.bits.proofs.Words.{◌≡◌, refl, sym, ap, ap₂, ◌∙◌, Bool, true, false, cond, List, [], ◌∷◌, ◌++◌, ℕ, zero, suc, ◌+◌, ◌-◌, ◌*◌, ◌^◌, ◌≤◌, ◌<◌, add-one, arith, length, get_or, take, drop}
use mathlib.Core.List.{append_assoc, append-nil, flat_map}
use native.Mathlib.Nat.{sub-zero}
use lib.Count.{ones, ones-le}
use lib.Seq.{drop-cons}
use lib.ListN.{drop_of_length-le}
use Rattle.bits.proofs.BitLists.{spell_append}
use Rattle.bits.specs.BitLists.{digit, number, spell}
use Rattle.format.proofs.Steps.{field_spelled, field_lt}
use Rattle.format.specs.Lengths.{mask_or}
use Rattle.format.specs.Masks.{Held, nothing, mask}
use Rattle.format.specs.Spelling.{put_system}
use Rattle.holding.proofs.Sounds.{sounds}
use Rattle.holding.specs.declared.Holding.{Holding}
use Rattle.holding.specs.Pictures.{picture_of, system_of, systems_of, mask_of, sound}
use Rattle.saved.proofs.Gathers.{length_strip}
use Rattle.saved.proofs.SlotsLeft.{SlotsLeft, all_slots, low, small, slot_passed, id_few, strips_room, next_system}
use Rattle.saved.proofs.SlotTexts.{cells_are}
use Rattle.saved.specs.declared.systems.Slot.{Slot}
use Rattle.saved.specs.Gathering.{strip_bits, cell_bits}
use Rattle.saved.specs.Slots.{slot_at, system_in, systems_from}
use Rattle.pens.specs.declared.pen.Field.{Field}
use Rattle.putting.specs.MaskFields.{strip_fields, front_fields, system_fields, fields_from, mask_fields}
use Rattle.pens.specs.Pens.{spell_fields, Fine, Fines, none, more}
use Rattle.pens.proofs.Pens.{fines_append, spell_fields_append}

-- ---- the cell mask, satellite by satellite

module _ (signals : ℕ) where
  -- one satellite's part
  abbrev pub strip_field : ℕ → Field
  strip_field strip = record { width = ones signals; value = number (strip_bits signals strip) }

  pub next_strip : (strips : List ℕ) (i : ℕ) → i < length strips → strip_fields signals (drop i strips) ≡ strip_field (get_or strips i 0) ∷ strip_fields signals (drop (i + 1) strips)
  unfolding strip_fields
  next_strip strips i inside = rw (add-one i, drop-cons strips i 0)

  pub no_strip : (strips : List ℕ) (i : ℕ) → length strips ≤ i → strip_fields signals (drop i strips) ≡ []
  unfolding strip_fields
  no_strip strips i all = rw (drop_of_length-le strips {i = i} all)

  module _ (small : signals < 2 ^ 16) where
    strips_fine : (strips : List ℕ) → Fines (strip_fields signals strips)
    unfolding strip_fields
    strips_fine [] = none
    strips_fine (strip ∷ strips) =
        let fine : Fine (ones signals) (number (strip_bits signals strip)) =
        record { narrow = omega (arith, ones-le 16 signals small); small = field_lt (ones signals) (strip_bits signals strip) (length_strip signals strip small) } in
        more fine (strips_fine strips)

    strips_spelled : (strips : List ℕ) → spell_fields (strip_fields signals strips) ≡ cell_bits signals strips
    unfolding strip_fields spell_fields flat_map
    strips_spelled [] = refl
    strips_spelled (strip ∷ strips) = ap₂ ◌++◌ (field_spelled (ones signals) (strip_bits signals strip) (length_strip signals strip small)) (strips_spelled strips)

-- ---- what comes before it

digit_few : (flag : Bool) → digit flag < 2
digit_few true = omega arith
digit_few false = omega arith

flag_spelled : (flag : Bool) → spell 1 (digit flag) ≡ flag ∷ []
unfolding spell
flag_spelled true = refl
flag_spelled false = refl

module _ (s : Slot) (few : s.id < 16) (low : s.satellites < 2 ^ 40) (small : s.signals < 2 ^ 16) where
  front_fine : Fines (front_fields s)
  unfolding front_fields
  front_fine =
      let named : Fine 44 (s.id * 2 ^ 40 + s.satellites) = record { narrow = omega arith; small = omega arith } in
      let flagged : Fine 17 (s.signals * 2 + digit s.flag) = record { narrow = omega arith; small = omega (arith, digit_few s.flag) } in
      more named (more flagged none)

  front_spelled : spell_fields (front_fields s) ≡ spell 4 s.id ++ (spell 40 s.satellites ++ (spell 16 s.signals ++ (s.flag ∷ [])))
  unfolding spell_fields front_fields
  front_spelled =
      let named : spell 44 (s.id * 2 ^ 40 + s.satellites) ≡ spell 4 s.id ++ spell 40 s.satellites = spell_append 4 40 s.id s.satellites low in
      let flagged : spell 17 (s.signals * 2 + digit s.flag) ≡ spell 16 s.signals ++ (s.flag ∷ []) =
      spell_append 16 1 s.signals (digit s.flag) (digit_few s.flag) ∙ ap (λ (l : List Bool). spell 16 s.signals ++ l) (flag_spelled s.flag) in
      rw (named, flagged, append-nil) (append_assoc (spell 4 s.id) (spell 40 s.satellites) (spell 16 s.signals ++ (s.flag ∷ [])))

  -- ---- a system

  module _ (strips : List ℕ) (room : ones s.satellites ≤ length strips) where
    abbrev own : List ℕ
    own = take (ones s.satellites) strips

    pub system_fine : Fines (system_fields s strips)
    unfolding system_fields
    system_fine = fines_append front_fine (go s.flag)
      where
        go : (flag : Bool) → Fines (cond flag (strip_fields s.signals own) [])
        go true = strips_fine s.signals small own
        go false = none

    cells_spelled : spell_fields (cond s.flag (strip_fields s.signals own) []) ≡ (system_in s strips).cells
    unfolding spell_fields
    cells_spelled = go s.flag ∙ sym (cells_are s strips low small room)
      where
        go : (flag : Bool) → spell_fields (cond flag (strip_fields s.signals own) []) ≡ cond flag (cell_bits s.signals own) []
        go true = strips_spelled s.signals small own
        go false = refl

    pub system_spelled : spell_fields (system_fields s strips) ≡ put_system (system_in s strips)
    unfolding system_fields put_system system_of
    system_spelled =
        spell_fields_append (front_fields s) (cond s.flag (strip_fields s.signals own) [])
        ∙ ap₂ ◌++◌ front_spelled cells_spelled
        ∙ simp append_assoc

-- ---- all systems

-- those of the k slots that are left
module _ {h : Holding} where
  fields_fine : (k : ℕ) {i n : ℕ} → SlotsLeft h i n → h.count ≡ i + k → Fines (fields_from h k i n)
  unfolding fields_from
  fields_fine zero l e = none
  fields_fine (suc k) {i} {n} l e =
      let more : i < h.count = omega arith in
      fines_append (system_fine (slot_at h i) (omega (arith, id_few l more)) (low l more) (small l more) (drop n h.strips) (strips_room l more)) (fields_fine k (slot_passed l more) (omega arith))

  fields_spelled : (k : ℕ) {i n : ℕ} → SlotsLeft h i n → h.count ≡ i + k → spell_fields (fields_from h k i n) ≡ flat_map put_system (systems_from h i n)
  unfolding fields_from spell_fields flat_map systems_of
  fields_spelled zero {i} l e =
      let gone : h.count - i ≡ 0 = omega arith in
      rw gone
  fields_spelled (suc k) {i} {n} l e =
      let more : i < h.count = omega arith in
      let s = slot_at h i in
      let strips = drop n h.strips in
      spell_fields_append (system_fields s strips) (fields_from h k (i + 1) (n + ones s.satellites))
      ∙ ap₂ ◌++◌ (system_spelled s (omega (arith, id_few l more)) (low l more) (small l more) strips (strips_room l more)) (fields_spelled k (slot_passed l more) (omega arith))
      ∙ sym (ap (flat_map put_system) (next_system l more))

-- the systems that a sound holding says, none where nothing is held
no_slots : (h : Holding) → sound h ≡ true → h.held ≡ false → h.count ≡ 0
unfolding mask_of picture_of
no_slots h on off =
    let said : mask_of h ≡ nothing = rw off in
    ap (λ (g : Holding). g.count) (sym (sounds h on).picture) ∙ ap (λ (held : Held). (picture_of held).count) said

pub systems_held : (h : Holding) → sound h ≡ true → systems_from h 0 0 ≡ (mask_or (mask_of h)).systems
unfolding mask_or mask_of systems_of
systems_held h on = go h.held refl
  where
    go : (held : Bool) → h.held ≡ held
        → systems_from h 0 0 ≡ (mask_or (cond held (mask (record { iod = h.iod; systems = systems_of h.count h.ids h.satellites h.signals h.flags h.strips })) nothing)).systems
    go true e = rw (sub-zero h.count)
    go false e =
        let gone : h.count - 0 ≡ 0 = omega (arith, no_slots h on e) in
        rw gone

module _ (h : Holding) (on : sound h ≡ true) where
  pub mask_fine : Fines (mask_fields h)
  unfolding mask_fields
  mask_fine = fields_fine h.count (all_slots h on) (omega arith)

  pub mask_spelled_lem : spell_fields (mask_fields h) ≡ flat_map put_system (mask_or (mask_of h)).systems
  unfolding mask_fields
  mask_spelled_lem = fields_spelled h.count (all_slots h on) (omega arith) ∙ ap (flat_map put_system) (systems_held h on)
