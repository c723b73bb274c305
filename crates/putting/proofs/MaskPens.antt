-- The systems of a sound holding put out by a pen: what is left to put out after each field, each strip and each slot. Assumes nothing.
use Rattle.bits.proofs.Words.{◌≡◌, refl, ◌∙◌, subst, Bool, true, false, cond, List, [], ◌∷◌, ◌++◌, ℕ, suc, ◌+◌, ◌-◌, ◌*◌, ◌%◌, ◌^◌, ◌≤◌, ◌<◌, arith, length, get_or, take, drop}
use native.Mathlib.Nat.{mod-eq_of_lt, sub-zero}
use mir.Val.{bool_byte}
use lib.Count.{ones}
use lib.ListN.{length-drop}
use lib.Seq.{take_all}
use Rattle.bits.specs.BitLists.{digit, number}
use Rattle.holding.specs.declared.Holding.{Holding}
use Rattle.holding.specs.Pictures.{sound}
use Rattle.saved.proofs.SlotsLeft.{SlotsLeft, all_slots, slot_passed, strips_room}
use Rattle.saved.specs.declared.systems.Slot.{Slot}
use Rattle.saved.specs.Gathering.{strip_bits}
use Rattle.saved.specs.Slots.{slot_at}
use Rattle.pens.specs.declared.pen.Field.{Field}
use Rattle.pens.specs.declared.pen.Pen.{Pen}
use Rattle.putting.specs.MaskFields.{strip_fields, front_fields, system_fields, fields_from, mask_fields}
use Rattle.pens.specs.Pens.{pushed, inked_by, pen_after, ink_after, Ready}
use Rattle.putting.proofs.MaskFields.{next_strip, no_strip}
use Rattle.pens.proofs.Pens.{first_fine, ready_first, Inks, inks_start, inks_field, inks_call, inks_pen, inks_ink}

-- ---- the cell mask: the strips from the i-th on are left

pub record StripsLeft (p₀ : Pen) (bytes₀ : List ℕ) (signals : ℕ) (strips : List ℕ) (p : Pen) (bytes : List ℕ) (i : ℕ) : Type 0 where
  pub inks : Inks p₀ (strip_fields signals strips) bytes₀ p (strip_fields signals (drop i strips)) bytes

pub all_strips : {p : Pen} {bytes : List ℕ} (signals : ℕ) (strips : List ℕ) → Ready p (strip_fields signals strips) bytes → StripsLeft p bytes signals strips p bytes 0
all_strips signals strips r = record { inks = inks_start r }

module _ {p₀ : Pen} {bytes₀ : List ℕ} {signals : ℕ} {strips : List ℕ} {p : Pen} {bytes : List ℕ} {i : ℕ} (l : StripsLeft p₀ bytes₀ signals strips p bytes i) where
  -- one strip more
  module _ (inside : i < length strips) {w v : ℕ} (wide : w ≡ ones signals) (is : v ≡ number (strip_bits signals (get_or strips i 0))) where
    abbrev field : Field
    field = record { width = w; value = v }

    first : strip_fields signals (drop i strips) ≡ field ∷ strip_fields signals (drop (i + 1) strips)
    first = rw (wide, is) (next_strip signals strips i inside)

    pub strip_ready : Ready p (field ∷ []) bytes
    strip_ready = ready_first (field ∷ []) (strip_fields signals (drop (i + 1) strips)) p bytes (rw first at l.inks.ready)

    pub strip_pushed : {q : Pen} → q ≡ pushed p field → {new : List ℕ} → new ≡ inked_by p field bytes → StripsLeft p₀ bytes₀ signals strips q new (i + 1)
    strip_pushed e d = rw (e, d) (record { inks = inks_field field (strip_fields signals (drop (i + 1) strips)) (rw first at l.inks) })

  -- none is left
  pub strips_put : length strips ≤ i → (p ≡ pen_after p₀ (strip_fields signals strips)) × (bytes ≡ ink_after p₀ (strip_fields signals strips) bytes₀)
  strips_put all = let gone = no_strip signals strips i all in (inks_pen gone l.inks, inks_ink gone l.inks)

-- ---- what comes before it, as code has its numbers

flag_number : (flag : Bool) → bool_byte flag ≡ digit flag
flag_number true = refl
flag_number false = refl

bit : (flag : Bool) → bool_byte flag ≤ 1
bit true = omega arith
bit false = omega arith

module _ (s : Slot) (byte : s.id < 2 ^ 8) (small : s.signals < 2 ^ 16) where
  abbrev named : Field
  named = record { width = 44; value = s.id * 2 ^ 40 % 2 ^ 64 + s.satellites }

  abbrev flagged : Field
  flagged = record { width = 17; value = s.signals * 2 % 2 ^ 64 + bool_byte s.flag }

  front_is : front_fields s ≡ named ∷ flagged ∷ []
  unfolding front_fields
  front_is =
      let whole : s.id * 2 ^ 40 % 2 ^ 64 ≡ s.id * 2 ^ 40 = mod-eq_of_lt (omega arith) in
      let twice : s.signals * 2 % 2 ^ 64 ≡ s.signals * 2 = mod-eq_of_lt (omega arith) in
      rw (whole, twice, flag_number s.flag)

  pub flagged_fits_lem : s.signals * 2 % 2 ^ 64 + bool_byte s.flag < 2 ^ 64
  flagged_fits_lem = omega (arith, bit s.flag)

  module _ {p : Pen} {bytes : List ℕ} (r : Ready p (front_fields s) bytes) where
    left : Inks p (front_fields s) bytes p (named ∷ flagged ∷ []) bytes
    left = subst (λ (fs : List Field). Inks p (front_fields s) bytes p fs bytes) front_is (inks_start r)

    pub named_ready : Ready p (named ∷ []) bytes
    named_ready = ready_first (named ∷ []) (flagged ∷ []) p bytes left.ready

    pub named_fits : s.id * 2 ^ 40 % 2 ^ 64 + s.satellites < 2 ^ 64
    named_fits = omega (arith, (first_fine named_ready.fields).small)

    module _ {q : Pen} (e : q ≡ pushed p named) {new : List ℕ} (d : new ≡ inked_by p named bytes) where
      behind : Inks p (front_fields s) bytes q (flagged ∷ []) new
      behind = rw (e, d) (inks_field named (flagged ∷ []) left)

      pub flagged_ready : Ready q (flagged ∷ []) new
      flagged_ready = behind.ready

      pub front_put : {last : Pen} → last ≡ pushed q flagged → {after : List ℕ} → after ≡ inked_by q flagged new → (last ≡ pen_after p (front_fields s)) × (after ≡ ink_after p (front_fields s) bytes)
      front_put f g =
          let gone : Inks p (front_fields s) bytes (pushed q flagged) [] (inked_by q flagged new) = inks_field flagged [] behind in
          (f ∙ inks_pen refl gone, g ∙ inks_ink refl gone)

-- ---- a system

module _ (s : Slot) (strips : List ℕ) {p : Pen} {bytes : List ℕ} (r : Ready p (system_fields s strips) bytes) where
  abbrev cell_fields : List Field
  cell_fields = cond s.flag (strip_fields s.signals (take (ones s.satellites) strips)) []

  pub front_ready : Ready p (front_fields s) bytes
  unfolding system_fields
  front_ready = ready_first (front_fields s) cell_fields p bytes r

  module _ {q : Pen} (e : q ≡ pen_after p (front_fields s)) {new : List ℕ} (d : new ≡ ink_after p (front_fields s) bytes) where
    cells_left : Inks p (system_fields s strips) bytes q cell_fields new
    unfolding system_fields
    cells_left = rw (e, d) (inks_call (front_fields s) cell_fields (inks_start r))

    -- with flag 0 there is no cell mask
    pub bare_put : s.flag ≡ false → (q ≡ pen_after p (system_fields s strips)) × (new ≡ ink_after p (system_fields s strips) bytes)
    bare_put off =
        let gone : cell_fields ≡ [] = rw off in
        (inks_pen gone cells_left, inks_ink gone cells_left)

    module _ (on : s.flag ≡ true) {n : ℕ} (count : n ≡ ones s.satellites) where
      strips_left : Inks p (system_fields s strips) bytes q (strip_fields s.signals (take n strips)) new
      strips_left =
          let are : cell_fields ≡ strip_fields s.signals (take n strips) = rw (on, count) in
          subst (λ (fs : List Field). Inks p (system_fields s strips) bytes q fs new) are cells_left

      pub strips_ready : Ready q (strip_fields s.signals (take n strips)) new
      strips_ready = strips_left.ready

      pub system_put : {last : Pen} → last ≡ pen_after q (strip_fields s.signals (take n strips)) → {after : List ℕ} → after ≡ ink_after q (strip_fields s.signals (take n strips)) new
          → (last ≡ pen_after p (system_fields s strips)) × (after ≡ ink_after p (system_fields s strips) bytes)
      system_put f g = (f ∙ strips_left.pen, g ∙ strips_left.ink)

-- ---- all systems: the slots from the i-th on are left, whose strips begin with the n-th

pub record SystemsLeft (p₀ : Pen) (bytes₀ : List ℕ) (h : Holding) (p : Pen) (bytes : List ℕ) (n i : ℕ) : Type 0 where
  pub slots : SlotsLeft h i n
  pub inks : Inks p₀ (mask_fields h) bytes₀ p (fields_from h (h.count - i) i n) bytes

pub all_systems : {p : Pen} {bytes : List ℕ} (h : Holding) → sound h ≡ true → Ready p (mask_fields h) bytes → SystemsLeft p bytes h p bytes 0 0
unfolding mask_fields
all_systems h on r = record { slots = all_slots h on; inks = rw (sub-zero h.count) (inks_start r) }

module _ {p₀ : Pen} {bytes₀ : List ℕ} {h : Holding} {p : Pen} {bytes : List ℕ} {n i : ℕ} (l : SystemsLeft p₀ bytes₀ h p bytes n i) where
  -- the strips that are left, as code lends them
  pub strips_lent : take (length h.strips - n) (drop n h.strips) ≡ drop n h.strips
  strips_lent = take_all (length h.strips - n) (drop n h.strips) (omega (arith, length-drop n h.strips))

  -- one slot more, as code reads it
  module _ (more : i < h.count) {s : Slot} (is : s ≡ slot_at h i) {strips : List ℕ} (from : strips ≡ drop n h.strips) where
    abbrev rest : List Field
    rest = fields_from h (h.count - (i + 1)) (i + 1) (n + ones (slot_at h i).satellites)

    system_first : fields_from h (h.count - i) i n ≡ system_fields s strips ++ rest
    unfolding fields_from
    system_first =
        let left : h.count - i ≡ suc (h.count - (i + 1)) = omega arith in
        rw (left, is, from)

    inks_first : Inks p₀ (mask_fields h) bytes₀ p (system_fields s strips ++ rest) bytes
    inks_first = subst (λ (fs : List Field). Inks p₀ (mask_fields h) bytes₀ p fs bytes) system_first l.inks

    pub system_room : ones s.satellites ≤ length strips
    system_room = rw (is, from) (strips_room l.slots more)

    pub system_ready : Ready p (system_fields s strips) bytes
    system_ready = ready_first (system_fields s strips) rest p bytes inks_first.ready

    pub system_passed : {q : Pen} → q ≡ pen_after p (system_fields s strips) → {new : List ℕ} → new ≡ ink_after p (system_fields s strips) bytes → {k : ℕ} → k ≡ ones s.satellites
        → SystemsLeft p₀ bytes₀ h q new (n + k) (i + 1)
    system_passed e d count =
        let ahead : Inks p₀ (mask_fields h) bytes₀ (pen_after p (system_fields s strips)) rest (ink_after p (system_fields s strips) bytes) = inks_call (system_fields s strips) rest inks_first in
        rw (e, d, count, is) (record { slots = slot_passed l.slots more; inks = rw is at ahead })

  -- none is left
  pub systems_put : h.count ≤ i → (p ≡ pen_after p₀ (mask_fields h)) × (bytes ≡ ink_after p₀ (mask_fields h) bytes₀)
  unfolding fields_from
  systems_put all =
      let gone : h.count - i ≡ 0 = omega arith in
      let none : fields_from h (h.count - i) i n ≡ [] = rw gone in
      (inks_pen none l.inks, inks_ink none l.inks)
