-- Structs compared: lists element by element, and of sound ones the test of the code is that of their `S` lines (document 02, Ask 2). Assumes nothing.
use Rattle.bits.proofs.Words.{◌≡◌, refl, sym, ap, ◌∙◌, Bool, true, false, cond, ◌&&◌, List, ℕ, ◌+◌, ◌≤◌, ◌<◌, add-one, arith, eqb, length, get_or, drop}
use mathlib.Core.Bool as Bools
use borrow.Author.Tests.{eq-eqb, not-true}
use lib.ListN.{drop_of_length-le}
use lib.Seq.{drop-cons}
use Rattle.format.proofs.Sames.{same_held_sound, same_held_refl, same_test}
use Rattle.format.proofs.Steadiness.{line_held}
use Rattle.format.specs.Good.{good}
use Rattle.format.specs.Masks.{Mask, nothing, mask}
use Rattle.format.specs.Same.{same_list, same_held}
use Rattle.format.specs.Steady.{same_line, steady}
use Rattle.holding.specs.declared.Holding.{Holding}
use Rattle.holding.specs.declared.Outline.{Outline}
use Rattle.holding.specs.Comparing.{steady_by}
use Rattle.holding.specs.Outlines.{outline_of}
use Rattle.holding.specs.Pictures.{picture_of, mask_of, same_holding, sound}
use Rattle.holding.proofs.Pictured.{mask_picture, sound_picture, picture_sound}
use Rattle.holding.proofs.PicturedSame.{same_holding_sound, same_holding_refl}
use Rattle.holding.proofs.Tests.{and_assoc, and_fours}

-- ---- lists element by element

module _ {A : Type 0} (same : A → A → Bool) (d : A) (l m : List A) where
  -- the next one and those behind it
  pub same_next : (i : ℕ) → i < length l → i < length m
      → same_list same (drop i l) (drop i m) ≡ (same (get_or l i d) (get_or m i d) && same_list same (drop (i + 1) l) (drop (i + 1) m))
  unfolding same_list
  same_next i in-l in-m = rw (drop-cons l i d in-l, drop-cons m i d in-m, add-one i)

  -- past the last
  pub same_end : (i : ℕ) → length l ≤ i → length m ≤ i → same_list same (drop i l) (drop i m) ≡ true
  unfolding same_list
  same_end i all-l all-m = rw (drop_of_length-le l all-l, drop_of_length-le m all-m)

-- ---- slot by slot

-- the slots of both from one on
abbrev pub slots_from : ℕ → Outline → List ℕ → Outline → List ℕ → Bool
slots_from i o sats p masks =
    same_list eqb (drop i o.ids) (drop i p.ids) && (same_list eqb (drop i sats) (drop i masks)
    && (same_list eqb (drop i o.signals) (drop i p.signals) && same_list Bools.beq (drop i o.flags) (drop i p.flags)))

-- five of each
pub record Slots (o : Outline) (sats : List ℕ) : Type 0 where
  pub ids : length o.ids ≡ 5
  pub satellites : length sats ≡ 5
  pub signals : length o.signals ≡ 5
  pub flags : length o.flags ≡ 5

-- by their types
pub slots_typed : (o : Outline) (sats : List ℕ) → length o.ids ≡ 5 → length sats ≡ 5 → length o.signals ≡ 5
    → length o.flags ≡ 5 → Slots o sats
slots_typed o sats ids satellites signals flags =
    record { ids = ids; satellites = satellites; signals = signals; flags = flags }

module _ (o : Outline) (sats : List ℕ) (p : Outline) (masks : List ℕ) (in-o : Slots o sats) (in_p : Slots p masks) (same : Bool) (i : ℕ) where
  -- the next one and those behind it
  pub slot_next : i < 5
      → (same && slots_from i o sats p masks)
      ≡ ((same && (eqb (get_or o.ids i 0) (get_or p.ids i 0) && (eqb (get_or sats i 0) (get_or masks i 0)
      && (eqb (get_or o.signals i 0) (get_or p.signals i 0) && Bools.beq (get_or o.flags i false) (get_or p.flags i false)))))
      && slots_from (i + 1) o sats p masks)
  slot_next inside =
      let ids = same_next eqb 0 o.ids p.ids i (omega arith) (omega arith) in
      let satellites = same_next eqb 0 sats masks i (omega arith) (omega arith) in
      let signals = same_next eqb 0 o.signals p.signals i (omega arith) (omega arith) in
      let flags = same_next Bools.beq false o.flags p.flags i (omega arith) (omega arith) in
      rw (ids, satellites, signals, flags, and_fours) (and_assoc same _ _)

  -- past the last
  pub slots_end : 5 ≤ i → (same && slots_from i o sats p masks) ≡ same
  slots_end all =
      let ids = same_end eqb 0 o.ids p.ids i (omega arith) (omega arith) in
      let satellites = same_end eqb 0 sats masks i (omega arith) (omega arith) in
      let signals = same_end eqb 0 o.signals p.signals i (omega arith) (omega arith) in
      let flags = same_end Bools.beq false o.flags p.flags i (omega arith) (omega arith) in
      rw (ids, satellites, signals, flags) (Bools.and-true same)

-- ---- all of both

-- in three parts
pub same_parts : (g h : Holding)
    → ((Bools.beq g.held h.held && (eqb g.iod h.iod && eqb g.count h.count))
    && (slots_from 0 (outline_of g) g.satellites (outline_of h) h.satellites
    && (same_list eqb g.strips h.strips && (eqb g.nsat h.nsat && eqb g.ncell h.ncell))))
    ≡ same_holding g h
unfolding same_holding
same_parts g h = simp (← and_assoc)

-- where nothing is held, or a mask of another issue
pub steady_free : (g h : Holding) → g.held ≡ false → steady_by g h ≡ true
unfolding steady_by
steady_free g h none = rw none

pub steady_other : (g h : Holding) → Bools.not (eqb h.iod g.iod) ≡ true → steady_by g h ≡ true
unfolding steady_by
steady_other g h differs = rw (not-true (eqb h.iod g.iod) differs, Bools.and-false g.held)

-- of one issue
pub steady_same : (g h : Holding) → g.held ≡ true → h.iod ≡ g.iod → same_holding g h ≡ steady_by g h
unfolding steady_by
steady_same g h held issue = rw (held, eq-eqb h.iod g.iod issue)

-- ---- sound structs by their `S` lines

-- they are the same just where their lines are
pub same_lines : (g h : Holding) → sound g ≡ true → sound h ≡ true → same_holding g h ≡ same_line (mask_of g) (mask_of h)
same_lines g h sound-g sound-h =
    let from-g = picture_sound g sound-g in
    let from-h = picture_sound h sound-h in
    let held : same_holding g h ≡ same_held (mask_of g) (mask_of h) =
    same_test (same_holding g h) (same_held (mask_of g) (mask_of h))
    (λ same. ap (λ (x : Holding). same_held (mask_of g) (mask_of x)) (sym (same_holding_sound g h same)) ∙ same_held_refl (mask_of g))
    (λ same. let one = sym from-g.1 ∙ ap picture_of (same_held_sound (mask_of g) (mask_of h) same) ∙ from-h.1 in ap (same_holding g) (sym one) ∙ same_holding_refl g) in
    held ∙ sym (line_held (mask_of g) (mask_of h) from-g.0 from-h.0)

-- whether something is held or not
steady_held : (held : Bool) (m n : Mask)
    → cond (held && eqb n.iod m.iod) (same_line (cond held (mask m) nothing) (mask n)) true ≡ steady (cond held (mask m) nothing) (mask n)
unfolding steady
steady_held true m n = refl
steady_held false m n = refl

-- so a good mask may follow what is held by their structs just where it may by their lines
pub steady_picture : (h : Holding) (n : Mask) → sound h ≡ true → good (mask n) ≡ true → steady_by h (picture_of (mask n)) ≡ steady (mask_of h) (mask n)
unfolding steady_by picture_of mask_of
steady_picture h n sound-h good-n =
    let lines = same_lines h (picture_of (mask n)) sound-h (sound_picture (mask n) good-n) ∙ ap (same_line (mask_of h)) (mask_picture (mask n) good-n) in
    ap (λ (t : Bool). cond (h.held && eqb n.iod h.iod) t true) lines ∙ steady_held h.held _ n
