-- A struct that meets the test slot by slot of specs/Testing.antt is sound: it says a good holding and is its picture. Assumes nothing.
use Rattle.bits.proofs.Words.{◌≡◌, refl, sym, ap, ap₂, ◌∙◌, Bool, true, false, cond, ◌&&◌, not, List, [], ◌∷◌, ◌++◌, map, ℕ, zero, suc, ◌+◌, ◌-◌, ◌^◌, ◌≤◌, ◌<◌, arith, eqb, ltb, leb, length, get_or, take, drop}
use mathlib.Core.List.{append_assoc, flat_map}
use native.Mathlib.Nat.{sub-zero, suc-sub-suc, le_of_suc-le-suc}
use lib.Count.{ones}
use lib.ListN.{replicate, length-append, length-drop, take-append-drop}
use lib.Seq.{length-take-le}
use borrow.Author.Tests.{not-true, eqb-true, leb-true}
use Rattle.bits.specs.BitLists.{number, spell}
use Rattle.format.proofs.Sames.{and_true, true_and}
use Rattle.format.specs.Good.{good_systems, good}
use Rattle.format.specs.Masks.{System, Mask, nothing, mask, places_from, satellites, cells}
use Rattle.format.specs.Messages.{named}
use Rattle.holding.specs.declared.Holding.{Holding}
use Rattle.holding.specs.Building.{ones_in}
use Rattle.holding.specs.Bounds.{narrow, every}
use Rattle.holding.specs.Pictures.{filled, strips_of, picture_of, system_of, systems_of, mask_of, same_holding, sound}
use Rattle.holding.specs.Testing.{slot_fits, empty_slots, empty_strips, slots_fit, tested}
use Rattle.holding.proofs.Places.{ones_places}
use Rattle.holding.proofs.PicturedStrips.{length_satellites, satellites_snoc, cells_snoc}
use Rattle.holding.proofs.PicturedSame.{same_holding_refl}
use Rattle.holding.proofs.Bounds.{below_at, below_drop}
use Rattle.holding.proofs.OneSlot.{number_mask, After, fits}
use Rattle.holding.proofs.Sounds.{Shaped}

-- ---- filled lists

-- one more in front of a filled list
filled_cons : {A : Type 0} (d : A) (n : ℕ) (xs all : List A) → length all ≡ suc n → filled n d xs ≡ drop 1 all → filled (suc n) d (get_or all 0 d ∷ xs) ≡ all
unfolding filled
filled_cons d n xs [] e h = absurd (omega arith)
filled_cons {A} d n xs (x ∷ all) e h = rw suc-sub-suc (ap (λ (l : List A). x ∷ l) h)

-- and some more
filled_append : (n k : ℕ) (xs all : List ℕ) → length all ≡ n → k ≤ n → filled (n - k) 0 xs ≡ drop k all → filled n 0 (take k all ++ xs) ≡ all
unfolding filled
filled_append n k xs all e room h =
    let left : n - length (take k all ++ xs) ≡ n - k - length xs = simp length-append (omega (arith, length-take-le k all (omega arith))) in
    rw (left, append_assoc) (ap (λ (l : List ℕ). take k all ++ l) h ∙ take-append-drop k all)

-- one more empty entry in front of those that fill a list of nothing
filled_empty : {A : Type 0} (d : A) (n : ℕ) (all : List A) → length all ≡ suc n → get_or all 0 d ≡ d → filled n d [] ≡ drop 1 all → filled (suc n) d [] ≡ all
unfolding filled
filled_empty d n [] e same h = absurd (omega arith)
filled_empty d n (x ∷ all) e same h = rw sub-zero (ap₂ ◌∷◌ (sym same) (rw sub-zero at h))

filled_nothing : {A : Type 0} (d : A) (all : List A) → length all ≡ 0 → filled 0 d [] ≡ all
unfolding filled
filled_nothing d [] e = refl
filled_nothing d (x ∷ all) e = absurd (omega arith)

-- strips that are not used
empty_strips_lem : (strips : List ℕ) → empty_strips strips ≡ true → filled (length strips) 0 [] ≡ strips
unfolding every filled
empty_strips_lem [] e = refl
empty_strips_lem (strip ∷ strips) e =
    let parts = and_true (eqb strip 0) _ e in
    let more : replicate (length strips) 0 ≡ strips = rw sub-zero at (empty_strips_lem strips parts.1) in
    rw sub-zero (ap₂ ◌∷◌ (sym (eqb-true strip 0 parts.0)) more)

-- ---- all slots

-- n slots in each array
record Long (n : ℕ) (is ts gs : List ℕ) (fs : List Bool) : Type 0 where
  ids : length is ≡ n
  sats : length ts ≡ n
  signals : length gs ≡ n
  flags : length fs ≡ n

length_tail : {A : Type 0} (n : ℕ) (l : List A) → length l ≡ suc n → length (drop 1 l) ≡ n
length_tail n l e = length-drop 1 l ∙ omega arith

long_tail : (n : ℕ) (ids sats signals : List ℕ) (flags : List Bool) → Long (suc n) ids sats signals flags
    → Long n (drop 1 ids) (drop 1 sats) (drop 1 signals) (drop 1 flags)
long_tail n ids sats signals flags l =
    record {
      ids = length_tail n ids l.ids;
      sats = length_tail n sats l.sats;
      signals = length_tail n signals l.signals;
      flags = length_tail n flags l.flags;
    }

-- slots that are those of some systems and then empty
record Slots (n : ℕ) (ss : List System) (is ts gs : List ℕ) (fs : List Bool) : Type 0 where
  ids : filled n 0 (map (λ s. s.id) ss) ≡ is
  sats : filled n 0 (map (λ s. number s.satellites) ss) ≡ ts
  signals : filled n 0 (map (λ s. number s.signals) ss) ≡ gs
  flags : filled n false (map (λ s. s.flag) ss) ≡ fs

empty_slots_lem : (n : ℕ) (ids sats signals : List ℕ) (flags : List Bool) → Long n ids sats signals flags → empty_slots n ids sats signals flags ≡ true
    → Slots n [] ids sats signals flags
unfolding empty_slots
empty_slots_lem zero ids sats signals flags l e =
    record {
      ids = filled_nothing 0 ids l.ids;
      sats = filled_nothing 0 sats l.sats;
      signals = filled_nothing 0 signals l.signals;
      flags = filled_nothing false flags l.flags;
    }
empty_slots_lem (suc n) ids sats signals flags l e =
    let id = and_true (eqb (get_or ids 0 0) 0) _ e in
    let sat = and_true (eqb (get_or sats 0 0) 0) _ id.1 in
    let signal = and_true (eqb (get_or signals 0 0) 0) _ sat.1 in
    let flag = and_true (not (get_or flags 0 false)) _ signal.1 in
    let more = empty_slots_lem n (drop 1 ids) (drop 1 sats) (drop 1 signals) (drop 1 flags) (long_tail n ids sats signals flags l) flag.1 in
    record {
      ids = filled_empty 0 n ids l.ids (eqb-true _ 0 id.0) more.ids;
      sats = filled_empty 0 n sats l.sats (eqb-true _ 0 sat.0) more.sats;
      signals = filled_empty 0 n signals l.signals (eqb-true _ 0 signal.0) more.signals;
      flags = filled_empty false n flags l.flags (not-true _ flag.0) more.flags;
    }

-- one more slot in front
more_slots : (n : ℕ) (ss : List System) (ids sats signals : List ℕ) (flags : List Bool) (strips : List ℕ) → Long (suc n) ids sats signals flags
    → get_or sats 0 0 < 2 ^ 40 → get_or signals 0 0 < 2 ^ 16 → Slots n ss (drop 1 ids) (drop 1 sats) (drop 1 signals) (drop 1 flags)
    → Slots (suc n) (system_of (get_or ids 0 0) (get_or sats 0 0) (get_or signals 0 0) (get_or flags 0 false) strips ∷ ss) ids sats signals flags
unfolding system_of
more_slots n ss ids sats signals flags strips l low small more =
    record {
      ids = filled_cons 0 n _ ids l.ids more.ids;
      sats = rw (number_mask 40 (get_or sats 0 0) low) (filled_cons 0 n _ sats l.sats more.sats);
      signals = rw (number_mask 16 (get_or signals 0 0) small) (filled_cons 0 n _ signals l.signals more.signals);
      flags = filled_cons false n _ flags l.flags more.flags;
    }

-- slots that fit say good systems, and are their slots and strips
record Says (before ss : List System) (a c n : ℕ) (is ts gs : List ℕ) (fs : List Bool) (rs : List ℕ) : Type 0 where
  good : good_systems before ss ≡ true
  slots : Slots n ss is ts gs fs
  strips : filled (length rs) 0 (flat_map strips_of ss) ≡ rs
  nsat : length (satellites before) + length (satellites ss) ≡ a
  ncell : length (cells before) + length (cells ss) ≡ c

-- as many systems as slots that are used
length_systems : (m : ℕ) (ids sats signals : List ℕ) (flags : List Bool) (strips : List ℕ) → length (systems_of m ids sats signals flags strips) ≡ m
unfolding systems_of
length_systems zero ids sats signals flags strips = refl
length_systems (suc m) ids sats signals flags strips = ap suc (length_systems m _ _ _ _ _)

-- no more than 256 cells come before slots that fit
few_cells_lem : (nsat ncell m : ℕ) (named : List ℕ) (a c : ℕ) (ids sats signals : List ℕ) (flags : List Bool) (strips : List ℕ)
    → slots_fit nsat ncell m named a c ids sats signals flags strips ≡ true → c ≤ 256
unfolding slots_fit
few_cells_lem nsat ncell zero named a c ids sats signals flags strips e =
    let slots = and_true (eqb a nsat) _ e in
    let empty = and_true (empty_slots (length ids) ids sats signals flags) _ slots.1 in
    let limit = and_true (empty_strips strips) _ empty.1 in
    leb-true c 256 (and_true (leb c 256) _ limit.1).0
few_cells_lem nsat ncell (suc m) named a c ids sats signals flags strips e =
    let parts = and_true (slot_fits named a (get_or ids 0 0) (get_or sats 0 0) (get_or signals 0 0) (get_or flags 0 false) strips) _ e in
    omega (arith, few_cells_lem nsat ncell m _ _ _ _ _ _ _ _ parts.1)

-- by induction on the slots that are used, the systems before them growing
says : (nsat ncell m n : ℕ) (before : List System) (named : List ℕ) (a c : ℕ) (ids sats signals : List ℕ) (flags : List Bool) (strips : List ℕ)
    → m ≤ n → Long n ids sats signals flags → After before named a c → a + length strips ≡ 64 → narrow 16 signals ≡ true → narrow 16 strips ≡ true
    → slots_fit nsat ncell m named a c ids sats signals flags strips ≡ true
    → Says before (systems_of m ids sats signals flags strips) nsat ncell n ids sats signals flags strips
unfolding slots_fit systems_of good_systems flat_map satellites cells
says nsat ncell zero n before named a c ids sats signals flags strips room l after whole small thin e =
    let nsats = and_true (eqb a nsat) _ e in
    let empty = and_true (empty_slots (length ids) ids sats signals flags) _ nsats.1 in
    let unused = and_true (empty_strips strips) _ empty.1 in
    let ncells = and_true (leb c 256) _ unused.1 in
    record {
      good = refl;
      slots = empty_slots_lem n ids sats signals flags l (rw l.ids at empty.0);
      strips = empty_strips_lem strips unused.0;
      nsat = omega (arith, eqb-true a nsat nsats.0, after.sats);
      ncell = omega (arith, eqb-true c ncell ncells.1, after.held);
    }
says nsat ncell (suc m) zero before named a c ids sats signals flags strips room l after whole small thin e = absurd (omega arith)
says nsat ncell (suc m) (suc n) before named a c ids sats signals flags strips room l after whole small thin e =
    let id = get_or ids 0 0 in
    let sat = get_or sats 0 0 in
    let signal = get_or signals 0 0 in
    let flag = get_or flags 0 false in
    let k = ones sat in
    let s = system_of id sat signal flag strips in
    let parts = and_true (slot_fits named a id sat signal flag strips) _ e in
    let limit = few_cells_lem nsat ncell m _ _ _ _ _ _ _ _ parts.1 in
    let fine : signal < 2 ^ 16 = below_at (2 ^ 16) signals small 0 (omega (arith, l.signals)) in
    let f = fits before named a c id sat signal flag strips after whole fine thin parts.0 limit in
    let count : k ≡ length (places_from 0 (spell 40 sat)) = ones_places 40 sat 0 f.low in
    let left : length (drop k strips) ≡ length strips - k = length-drop k strips in
    let more = says nsat ncell m n (before ++ (s ∷ [])) (named ++ (id ∷ [])) (a + k) (c + ones_in (take k strips)) (drop 1 ids) (drop 1 sats) (drop 1 signals) (drop 1 flags) (drop k strips)
    (le_of_suc-le-suc room) (long_tail n ids sats signals flags l) f.after (omega (arith, f.room)) (below_drop (2 ^ 16) 1 signals small) (below_drop (2 ^ 16) k strips thin) parts.1 in
    let ss = systems_of m (drop 1 ids) (drop 1 sats) (drop 1 signals) (drop 1 flags) (drop k strips) in
    let behind : filled (length strips - k) 0 (flat_map strips_of ss) ≡ drop k strips = rw left at more.strips in
    rw (← count) (record {
      good = true_and f.good more.good;
      slots = more_slots n ss ids sats signals flags strips l f.low fine more.slots;
      strips = rw f.mine (filled_append (length strips) k (flat_map strips_of ss) strips refl f.room behind);
      nsat = simp length-append (omega (arith, more.nsat, satellites_snoc before s, length_satellites s));
      ncell = simp length-append (omega (arith, more.ncell, cells_snoc before s));
    })

-- ---- the whole struct

-- the systems that its slots say
abbrev said_by : Holding → List System
said_by h = systems_of h.count h.ids h.satellites h.signals h.flags h.strips

module _ (h : Holding) (shaped : Shaped h) (e : tested h ≡ true) where
  -- what the test asks of the issue and the count
  opening : cond h.held (ltb h.iod 16) (eqb h.iod 0 && eqb h.count 0) ≡ true
  unfolding tested
  opening = (and_true (cond h.held (ltb h.iod 16) (eqb h.iod 0 && eqb h.count 0)) _ e).0

  -- its slots say good systems
  all_said : Says [] (said_by h) h.nsat h.ncell 5 h.ids h.satellites h.signals h.flags h.strips
  unfolding tested satellites cells flat_map
  all_said =
      let parts = and_true (leb h.count 5) _ (and_true (cond h.held (ltb h.iod 16) (eqb h.iod 0 && eqb h.count 0)) _ e).1 in
      let long : Long 5 h.ids h.satellites h.signals h.flags = record { ids = shaped.ids; sats = shaped.satellites; signals = shaped.signals; flags = shaped.flags } in
      says h.nsat h.ncell h.count 5 [] [] 0 0 h.ids h.satellites h.signals h.flags h.strips (leb-true h.count 5 parts.0) long
      (record { same = refl; sats = refl; held = refl }) (omega (arith, shaped.strips)) shaped.signals_narrow shaped.strips_narrow parts.1

  -- one that holds a mask says a good one and is its picture
  mask_held : h.held ≡ true → (good (mask_of h) ≡ true) × (picture_of (mask_of h) ≡ h)
  unfolding good mask_of picture_of satellites cells flat_map
  mask_held held =
      let s = all_said in
      let m : Mask = record { iod = h.iod; systems = said_by h } in
      let what : mask_of h ≡ mask m = ap (λ (b : Bool). cond b (mask m) nothing) held in
      let low : ltb h.iod 16 ≡ true = rw held at opening in
      let strips : filled 64 0 (flat_map strips_of (said_by h)) ≡ h.strips = rw shaped.strips at s.strips in
      let nsat : length (satellites (said_by h)) ≡ h.nsat = omega (arith, s.nsat) in
      let ncell : length (cells (said_by h)) ≡ h.ncell = omega (arith, s.ncell) in
      let picture : picture_of (mask m) ≡ h = λ i. record {
        held = sym held i;
        iod = h.iod;
        count = length_systems h.count h.ids h.satellites h.signals h.flags h.strips i;
        ids = s.slots.ids i;
        satellites = s.slots.sats i;
        signals = s.slots.signals i;
        flags = s.slots.flags i;
        strips = strips i;
        nsat = nsat i;
        ncell = ncell i;
      } in
      (ap good what ∙ true_and low s.good, ap picture_of what ∙ picture)

  -- one that holds nothing is the picture of nothing
  nothing_held : h.held ≡ false → (good (mask_of h) ≡ true) × (picture_of (mask_of h) ≡ h)
  unfolding good mask_of picture_of filled systems_of satellites cells flat_map
  nothing_held free =
      let m : Mask = record { iod = h.iod; systems = said_by h } in
      let what : mask_of h ≡ nothing = ap (λ (b : Bool). cond b (mask m) nothing) free in
      let zeros : (eqb h.iod 0 && eqb h.count 0) ≡ true = rw free at opening in
      let iod = eqb-true h.iod 0 (and_true (eqb h.iod 0) _ zeros).0 in
      let count = eqb-true h.count 0 (and_true (eqb h.iod 0) _ zeros).1 in
      let s : Says [] [] h.nsat h.ncell 5 h.ids h.satellites h.signals h.flags h.strips = rw count at all_said in
      let strips : filled 64 0 [] ≡ h.strips = rw shaped.strips at s.strips in
      let picture : picture_of nothing ≡ h = λ i. record {
        held = sym free i;
        iod = sym iod i;
        count = sym count i;
        ids = s.slots.ids i;
        satellites = s.slots.sats i;
        signals = s.slots.signals i;
        flags = s.slots.flags i;
        strips = strips i;
        nsat = s.nsat i;
        ncell = s.ncell i;
      } in
      (ap good what, ap picture_of what ∙ picture)

  either_held : (b : Bool) → h.held ≡ b → (good (mask_of h) ≡ true) × (picture_of (mask_of h) ≡ h)
  either_held true held = mask_held held
  either_held false free = nothing_held free

-- a struct that meets the test slot by slot is sound
pub tested_sound : (h : Holding) → Shaped h → tested h ≡ true → sound h ≡ true
unfolding sound
tested_sound h shaped e =
    let both = either_held h shaped e h.held refl in
    true_and both.0 (ap (λ (g : Holding). same_holding g h) both.1 ∙ same_holding_refl h)
