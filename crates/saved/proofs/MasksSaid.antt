-- The mask that a line says, system by system: what is built, and the systems that are left. Assumes nothing.
use mathlib.Core.Path.{◌≡◌, refl, sym, ap, subst, ◌∙◌}
use mathlib.Core.Bool.{true}
use mathlib.Core.List.{List, [], ◌∷◌, ◌++◌, append_assoc, append-nil, flat_map}
use Prim.Native.Nat.{ℕ, ◌+◌, ◌*◌, ◌≤◌, ◌<◌}
use native.Mathlib.Nat.{add-zero}
use native.Mathlib.Omega.{arith}
use lib.Count.{ones}
use lib.ListN.{length, get_or, drop, set, replicate, length-append}
use lib.Seq.{append_snoc, drop_at, drop-drop, get_or-drop, sets}
use Rattle.bits.specs.BitLists.{number}
use Rattle.format.proofs.MakesBack.{GoodSystem, good_system_lem, few_systems}
use Rattle.format.proofs.Sames.{and_true}
use Rattle.format.specs.Good.{good_system, good_systems, good}
use Rattle.format.specs.Masks.{System, nothing, mask, satellites, cells}
use Rattle.format.specs.Saved.{cell_text, system_text}
use Rattle.format.specs.Text.{tab, line_feed, hex_bits}
use Rattle.holding.proofs.Built.{system_built}
use Rattle.holding.proofs.Places.{ones_number}
use Rattle.holding.proofs.PicturedStrips.{length_strips}
use Rattle.holding.specs.Building.{ones_in, with_strips, with_system}
use Rattle.holding.specs.declared.Holding.{Holding}
use Rattle.holding.specs.declared.Outline.{Outline}
use Rattle.holding.specs.Outlines.{outline_of, whole_of}
use Rattle.holding.specs.Pictures.{filled, strips_of, picture_of}
use Rattle.saved.specs.declared.systems.Slot.{Slot}
use Rattle.saved.specs.Lines.{text_from}
use Rattle.saved.specs.Saying.{slot_said, strips_said}
use Rattle.saved.specs.Slots.{system_long}
use Rattle.saved.proofs.SlotsSaid.{slot_of, slot_said_lem, cells_said, long_said, strips_said_lem}
use Rattle.saved.proofs.StripsSaid.{length_said}

-- the picture of a mask with an issue and some systems
abbrev pub mask_with : ℕ → List System → Holding
mask_with iod ss = picture_of (mask (record { iod = iod; systems = ss }))

-- a holding with a slot more, whose cell mask begins a text
abbrev pub with_slot : Holding → Slot → List ℕ → Holding
with_slot h s text = with_system (with_strips h (strips_said s (ones s.satellites) (hex_bits text))) s.id s.satellites s.signals s.flag

-- of the systems that a line says the first are built, and those from a place on are left
pub record SystemsLeft (line : List ℕ) (iod : ℕ) (ss : List System) (h : Holding) (place : ℕ) : Type 0 where
  pub before : List System
  pub rest : List System
  pub all : before ++ rest ≡ ss
  pub fit : good_systems before rest ≡ true
  pub picture : h ≡ mask_with iod before
  pub text : drop place line ≡ text_from rest

-- a system, and those behind it
record First (ss : List System) : Type 0 where
  pub s : System
  pub more : List System
  pub is : ss ≡ s ∷ more

starts : (ss : List System) → get_or (text_from ss) 0 0 ≡ tab → First ss
unfolding flat_map
starts [] e = absurd (omega arith)
starts (s ∷ ss) e = record { s = s; more = ss; is = refl }

ends : (ss : List System) → (get_or (text_from ss) 0 0 ≡ tab → ⊥) → ss ≡ []
unfolding flat_map system_text
ends [] other = refl
ends (s ∷ ss) other = absurd (other refl)

no_more : (ss : List System) → length ss ≡ 0 → ss ≡ []
no_more [] e = refl
no_more (s ∷ ss) e = absurd (omega arith)

module _ {line : List ℕ} {iod : ℕ} {ss : List System} {h : Holding} {place : ℕ} (l : SystemsLeft line iod ss h place) where
  first_char : get_or (text_from l.rest) 0 0 ≡ get_or line place 0
  first_char = ap (λ (t : List ℕ). get_or t 0 0) (sym l.text) ∙ get_or-drop place line 0 0 ∙ rw (add-zero place)

  built_all : l.rest ≡ [] → h ≡ mask_with iod ss
  built_all none = l.picture ∙ ap (mask_with iod) (sym (append-nil l.before) ∙ ap (λ (r : List System). l.before ++ r) (sym none) ∙ l.all)

  -- where no tab stands all are built
  pub no_tab : (get_or line place 0 ≡ tab → ⊥) → h ≡ mask_with iod ss
  no_tab other = built_all (ends l.rest (λ e. other (sym first_char ∙ e)))

  count_is : h.count ≡ length l.before
  unfolding picture_of
  count_is = ap (λ (g : Holding). g.count) l.picture

  -- and where there are five
  pub no_slot : good_systems [] ss ≡ true → 5 ≤ h.count → h ≡ mask_with iod ss
  unfolding good
  no_slot fine full =
      let few : length ss ≤ 5 = few_systems (record { iod = 0; systems = ss }) fine in
      let sum : length l.before + length l.rest ≡ length ss = sym (length-append l.before l.rest) ∙ ap length l.all in
      built_all (no_more l.rest (omega (arith, count_is)))

  -- where a tab stands one more is left
  module _ (here : get_or line place 0 ≡ tab) where
    abbrev one : First l.rest
    one = starts l.rest (first_char ∙ here)

    abbrev s : System
    s = one.s

    abbrev behind : List ℕ
    behind = text_from one.more

    fits : (good_system l.before s ≡ true) × (good_systems (l.before ++ (s ∷ [])) one.more ≡ true)
    unfolding good_systems
    fits = and_true (good_system l.before s) _ (rw one.is at l.fit)

    abbrev g : GoodSystem l.before s
    g = good_system_lem l.before s fits.0

    text_is : drop place line ≡ system_text s ++ behind
    unfolding flat_map
    text_is = l.text ∙ ap text_from one.is ∙ append_assoc (system_text s) (flat_map system_text one.more) (line_feed ∷ [])

    slot_is : slot_said (drop place line) ≡ slot_of s
    slot_is = ap slot_said text_is ∙ slot_said_lem l.before s g behind

    cells_are : drop (place + 21) line ≡ cell_text s.cells ++ behind
    cells_are = sym (drop-drop 21 place line) ∙ ap (drop 21) text_is ∙ cells_said l.before s g behind

    nsat_is : h.nsat ≡ length (satellites l.before)
    unfolding picture_of
    nsat_is = ap (λ (g : Holding). g.nsat) l.picture

    -- its satellites find room
    pub few_said : {slot : Slot} → slot ≡ slot_said (drop place line) → h.nsat + ones slot.satellites ≤ 64
    few_said e = omega (arith, ap (λ (t : Slot). ones t.satellites) (e ∙ slot_is), ones_number s.satellites 0, nsat_is, g.few)

    -- with its slot it is built, too
    with_it : h.count < 5 → with_slot h (slot_of s) (cell_text s.cells ++ behind) ≡ mask_with iod (l.before ++ (s ∷ []))
    with_it room =
        ap (λ (strips : List ℕ). with_system (with_strips h strips) s.id (number s.satellites) (number s.signals) s.flag) (strips_said_lem l.before s g behind)
        ∙ ap (λ (p : Holding). with_system (with_strips p (strips_of s)) s.id (number s.satellites) (number s.signals) s.flag) l.picture
        ∙ system_built (record { iod = iod; systems = l.before }) s (omega (arith, count_is)) (omega (arith, length_strips s, g.few)) g.long

    pub one_built : h.count < 5 → {slot : Slot} → slot ≡ slot_said (drop place line) → {made : Holding} → made ≡ with_slot h slot (drop (place + 21) line) → {long : ℕ} → long ≡ system_long slot
        → SystemsLeft line iod ss made (place + long)
    one_built room {slot} e {made} is {long} size =
        let same = e ∙ slot_is in
        let wide : length (system_text s) ≡ long = sym (size ∙ ap (λ (t : Slot). system_long t) same ∙ long_said l.before s g behind) in
        record {
          before = l.before ++ (s ∷ []);
          rest = one.more;
          all = append_snoc l.before s one.more ∙ ap (λ (r : List System). l.before ++ r) (sym one.is) ∙ l.all;
          fit = fits.1;
          picture = is ∙ ap (λ (t : Slot). with_slot h t (drop (place + 21) line)) same ∙ ap (with_slot h (slot_of s)) cells_are ∙ with_it room;
          text = sym (drop-drop long place line) ∙ ap (drop long) text_is ∙ drop_at (system_text s) behind long wide;
        }

-- ---- what holds of any line, and what of the line of a good mask

-- built so far: an outline, masks and strips
pub record Building (line : List ℕ) (iod at : ℕ) (o : Outline) (sats strips : List ℕ) (place : ℕ) : Type 0 where
  pub slots : o.count ≤ 5
  pub satellites : o.nsat ≤ 64
  pub cells : o.ncell ≤ 1024 * o.count
  pub near : place ≤ at + 5000 * o.count
  pub says : (ss : List System) → good_systems [] ss ≡ true → drop at line ≡ text_from ss → SystemsLeft line iod ss (whole_of o sats strips) place

-- the empty one
pub empty_whole : {o : Outline} → o ≡ outline_of (picture_of nothing) → whole_of o (replicate 5 0) (replicate 64 0) ≡ picture_of nothing
unfolding picture_of
empty_whole empty = ap (λ (o : Outline). whole_of o (replicate 5 0) (replicate 64 0)) empty

-- and with an issue
abbrev pub issued : ℕ → Outline → Outline
issued iod o = record { held = true; iod = iod; count = o.count; nsat = o.nsat; ids = o.ids; flags = o.flags; signals = o.signals; ncell = o.ncell }

pub none_built : (line : List ℕ) (iod at : ℕ) {o : Outline} {sats strips : List ℕ} → o ≡ outline_of (picture_of nothing) → sats ≡ replicate 5 0 → strips ≡ replicate 64 0
    → Building line iod at (issued iod o) sats strips at
unfolding picture_of filled satellites cells flat_map
none_built line iod at {o} {sats} {strips} empty masks none =
    let is : whole_of (issued iod o) sats strips ≡ mask_with iod [] = rw (masks, none) (ap (λ (o : Outline). whole_of (issued iod o) (replicate 5 0) (replicate 64 0)) empty) in
    record {
      slots = omega (arith, ap (λ (h : Holding). h.count) is);
      satellites = omega (arith, ap (λ (h : Holding). h.nsat) is);
      cells = omega (arith, ap (λ (h : Holding). h.ncell) is);
      near = omega arith;
      says = λ ss fine text. record { before = []; rest = ss; all = refl; fit = fine; picture = is; text = text };
    }

-- with a slot more at a place, of some satellites and cells
abbrev pub slotted : Outline → ℕ → Slot → ℕ → ℕ → Outline
slotted o i s n cells =
    record {
      held = o.held;
      iod = o.iod;
      count = i + 1;
      nsat = o.nsat + n;
      ids = set o.ids i s.id;
      flags = set o.flags i s.flag;
      signals = set o.signals i s.signals;
      ncell = o.ncell + cells;
    }

module _ {line : List ℕ} {iod at : ℕ} {o : Outline} {sats strips : List ℕ} {place : ℕ} (b : Building line iod at o sats strips place) where
  -- the strips that are said of a slot
  abbrev said : Slot → List ℕ
  said s = strips_said s (ones s.satellites) (hex_bits (drop (place + 21) line))

  slotted_is : (s : Slot) {n cells : ℕ} {after : List ℕ} → n ≡ ones s.satellites → cells ≡ ones_in (said s) → after ≡ sets strips o.nsat (said s)
      → whole_of (slotted o o.count s n cells) (set sats o.count s.satellites) after ≡ with_slot (whole_of o sats strips) s (drop (place + 21) line)
  unfolding with_system with_strips
  slotted_is s count sum stored = rw (count, sum, stored, length_said s (ones s.satellites) (hex_bits (drop (place + 21) line)))

  pub next_built : {i : ℕ} → o.count ≡ i → i < 5 → get_or line place 0 ≡ tab → {s : Slot} → s ≡ slot_said (drop place line) → {n : ℕ} → n ≡ ones s.satellites → o.nsat + n ≤ 64
      → {cells : ℕ} {after : List ℕ} → ((cells ≡ ones_in (said s)) × (cells ≤ 1024)) × (after ≡ sets strips o.nsat (said s)) → {long : ℕ} → (long ≡ system_long s) × (long ≤ 5000)
      → Building line iod at (slotted o i s n cells) (set sats i s.satellites) after (place + long)
  next_built {i} counted below here {s} e {n} count few {cells} {after} stored {long} size =
      let room : o.count < 5 = omega (arith, counted, below) in
      subst (λ (i : ℕ). Building line iod at (slotted o i s n cells) (set sats i s.satellites) after (place + long)) counted
      record {
        slots = omega arith;
        satellites = omega arith;
        cells = omega (arith, b.cells, stored.0.1);
        near = omega (arith, b.near, size.1);
        says = λ ss fine text. one_built (b.says ss fine text) here room e (slotted_is s count stored.0.0 stored.1) size.0;
      }
