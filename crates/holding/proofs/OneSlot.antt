-- One slot of the struct: where it meets the test of specs/Testing.antt, it says a good system, and its strips are that system's. Assumes nothing.
use Rattle.bits.proofs.Words.{◌≡◌, refl, sym, ap, ap₂, ◌∙◌, Bool, true, false, cond, not, List, [], ◌∷◌, ◌++◌, map, ℕ, suc, ◌+◌, ◌*◌, ◌^◌, ◌≤◌, ◌<◌, arith, eqb, ltb, leb, length, take}
use mathlib.Core.List.{map-append, flat_map}
use native.Mathlib.Nat.{suc_inj, suc-mul, mod-eq_of_lt}
use lib.Bits.{bit_and}
use lib.Count.{ones}
use lib.ListN.{replicate, length-append}
use lib.Seq.{drop_at, length-take-le}
use borrow.Author.Tests.{eqb-true, leb-true, ltb-true, eq-eqb, le-leb}
use Rattle.bits.proofs.BitLists.{length_spell, number_spell}
use Rattle.bits.specs.BitLists.{number, spell}
use Rattle.format.proofs.Sames.{and_true, true_and}
use Rattle.format.specs.Assigned.{satellite_places, known, assigned}
use Rattle.format.specs.Good.{good_system}
use Rattle.format.specs.Masks.{System, places_from, pick, satellites, cells}
use Rattle.format.specs.Messages.{named, ids_of}
use Rattle.holding.specs.Building.{ones_in}
use Rattle.holding.specs.Bounds.{narrow, every}
use Rattle.holding.specs.Pictures.{strips_from, strips_of, system_of}
use Rattle.holding.specs.Spread.{spread, within}
use Rattle.holding.specs.Testing.{strip_fits, strips_fit, masks_fit, slot_fits}
use Rattle.holding.proofs.Bounds.{below_take}
use Rattle.holding.proofs.Places.{ones_places}
use Rattle.holding.proofs.Spreads.{length_pick, spread_pick, within_and}
use Rattle.holding.proofs.PicturedStrips.{satellites_snoc, cells_snoc}
use Rattle.holding.proofs.Built.{strips_ones}

-- ---- the strips of a slot

-- a mask is the number of its spelling
pub number_mask : (w n : ℕ) → n < 2 ^ w → number (spell w n) ≡ n
number_mask w n small = number_spell w n ∙ mod-eq_of_lt small

-- bits behind those that the places take change nothing
spread_more : (places bits more : List Bool) (k : ℕ) → length bits ≡ length (places_from k places) → spread places (bits ++ more) ≡ spread places bits
unfolding spread places_from
spread_more [] bits more k e = refl
spread_more (false ∷ places) bits more k e = ap (λ (l : List Bool). false ∷ l) (spread_more places bits more (suc k) e)
spread_more (true ∷ places) [] more k e = absurd (omega arith)
spread_more (true ∷ places) (b ∷ bits) more k e = ap (λ (l : List Bool). b ∷ l) (spread_more places bits more (suc k) (suc_inj e))

-- the bits that a strip has at the places
abbrev strip_bits : List Bool → ℕ → List Bool
strip_bits places strip = pick places (spell 16 strip)

length_strip_bits : (places : List Bool) (strip : ℕ) → length places ≡ 16 → length (strip_bits places strip) ≡ length (places_from 0 places)
length_strip_bits places strip long = length_pick places (spell 16 strip) (length_spell 16 strip ∙ sym long)

length_strips_bits : (places : List Bool) (strips : List ℕ) → length places ≡ 16
    → length (flat_map (strip_bits places) strips) ≡ length strips * length (places_from 0 places)
unfolding flat_map
length_strips_bits places [] long = omega arith
length_strips_bits places (strip ∷ strips) long =
    simp length-append (omega (arith, length_strip_bits places strip long, length_strips_bits places strips long, suc-mul (length strips) (length (places_from 0 places))))

module _ (signals : ℕ) (small : signals < 2 ^ 16) where
  -- with the cell flag: strips that fit are made of the bits that they have at the signals' places
  strips_from_lem : (strips : List ℕ) → narrow 16 strips ≡ true → strips_fit true signals strips ≡ true
      → strips_from (length strips) (spell 16 signals) (flat_map (strip_bits (spell 16 signals)) strips) ≡ strips
  unfolding every strip_fits strips_from flat_map
  strips_from_lem [] thin e = refl
  strips_from_lem (strip ∷ strips) thin e =
      let g = spell 16 signals in
      let more = flat_map (strip_bits g) strips in
      let rest = and_true (ltb strip (2 ^ 16)) _ thin in
      let fits = and_true (eqb (bit_and strip signals) strip) _ e in
      let low = ltb-true strip (2 ^ 16) rest.0 in
      let count = length_strip_bits g strip (length_spell 16 signals) in
      let inside : within (spell 16 strip) g ≡ true = within_and 16 strip signals low small ∙ fits.0 in
      let first : number (spread g (strip_bits g strip ++ more)) ≡ strip =
      ap number (spread_more g (strip_bits g strip) more 0 count ∙ spread_pick g (spell 16 strip) (length_spell 16 strip ∙ sym (length_spell 16 signals)) inside)
      ∙ number_mask 16 strip low in
      let behind = drop_at (strip_bits g strip) more (length (places_from 0 g)) count in
      ap₂ ◌∷◌ first (ap (strips_from (length strips) g) behind ∙ strips_from_lem strips rest.1 fits.1)

  -- without it each strip is the signals
  strips_all : (strips : List ℕ) → strips_fit false signals strips ≡ true → replicate (length strips) signals ≡ strips
  unfolding every strip_fits
  strips_all [] e = refl
  strips_all (strip ∷ strips) e =
      let fits = and_true (eqb signals strip) _ e in
      ap₂ ◌∷◌ (eqb-true signals strip fits.0) (strips_all strips fits.1)

  strips_by : (flag : Bool) (strips : List ℕ) → narrow 16 strips ≡ true → strips_fit flag signals strips ≡ true
      → let g = spell 16 signals in
      cond flag (strips_from (length strips) g (cond flag (flat_map (strip_bits g) strips) [])) (replicate (length strips) (number g)) ≡ strips
  strips_by true strips thin e = strips_from_lem strips thin e
  strips_by false strips thin e = rw (number_mask 16 signals small) (strips_all strips e)

-- the strips of the system in a slot are the slot's own
pub strips_slot : (id sats signals : ℕ) (flag : Bool) (strips : List ℕ) → sats < 2 ^ 40 → signals < 2 ^ 16 → narrow 16 strips ≡ true → ones sats ≤ length strips
    → strips_fit flag signals (take (ones sats) strips) ≡ true
    → strips_of (system_of id sats signals flag strips) ≡ take (ones sats) strips
unfolding strips_of system_of
strips_slot id sats signals flag strips low small thin room e =
    let mine = take (ones sats) strips in
    let made = strips_by signals small flag mine (below_take (2 ^ 16) (ones sats) strips thin) e in
    rw (← (ones_places 40 sats 0 low)) (rw (length-take-le (ones sats) strips room) at made)

-- ---- one slot

-- the cell mask that a slot's strips say has its bits
cells_width : (flag : Bool) (places : List Bool) (strips : List ℕ) → length places ≡ 16
    → length (cond flag (flat_map (strip_bits places) strips) []) ≡ cond flag (length strips * length (places_from 0 places)) 0
cells_width true places strips long = length_strips_bits places strips long
cells_width false places strips long = refl

-- what the test keeps of the systems before a slot: their IDs, and how many satellites and cells they have
pub record After (before : List System) (ids : List ℕ) (n c : ℕ) : Type 0 where
  pub same : ids ≡ map (λ s. s.id) before
  pub sats : n ≡ length (satellites before)
  pub held : c ≡ length (cells before)

-- what a slot that fits says
pub record Fits (before : List System) (ids : List ℕ) (n c id sats signals : ℕ) (flag : Bool) (strips : List ℕ) : Type 0 where
  pub low : sats < 2 ^ 40
  pub room : ones sats ≤ length strips
  pub mine : strips_of (system_of id sats signals flag strips) ≡ take (ones sats) strips
  pub good : good_system before (system_of id sats signals flag strips) ≡ true
  pub after : After (before ++ (system_of id sats signals flag strips ∷ [])) (ids ++ (id ∷ [])) (n + ones sats) (c + ones_in (take (ones sats) strips))

-- the system in it is good after those before it, and the test keeps what it asks of them with it
pub fits : (before : List System) (ids : List ℕ) (n c id sats signals : ℕ) (flag : Bool) (strips : List ℕ) → After before ids n c → n + length strips ≡ 64
    → signals < 2 ^ 16 → narrow 16 strips ≡ true → slot_fits ids n id sats signals flag strips ≡ true → c + ones_in (take (ones sats) strips) ≤ 256
    → Fits before ids n c id sats signals flag strips
unfolding slot_fits masks_fit good_system known system_of
fits before ids n c id sats signals flag strips a whole small thin e limit =
    let k = ones sats in
    let own = take k strips in
    let s = system_of id sats signals flag strips in
    let low-id = and_true (ltb id 5) _ e in
    let fresh = and_true (not (named id ids)) _ low-id.1 in
    let masks = and_true (masks_fit n id sats signals) _ fresh.1 in
    let wide = and_true (ltb sats (2 ^ 40)) _ masks.0 in
    let placed = and_true (assigned satellite_places id (spell 40 sats)) _ wide.1 in
    let few = and_true (leb (n + k) 64) _ placed.1 in
    let low : sats < 2 ^ 40 = ltb-true sats (2 ^ 40) wide.0 in
    let count : k ≡ length (places_from 0 (spell 40 sats)) = ones_places 40 sats 0 low in
    let most : n + k ≤ 64 = leb-true (n + k) 64 few.0 in
    let room : k ≤ length strips = omega arith in
    let mine : strips_of s ≡ own = strips_slot id sats signals flag strips low small thin room masks.1 in
    let total : c + ones_in own ≡ length (cells (before ++ (s ∷ []))) =
    ap₂ ◌+◌ a.held (ap ones_in (sym mine) ∙ strips_ones s (length_spell 16 signals)) ∙ sym (cells_snoc before s) in
    let known_id : leb id 4 ≡ true = le-leb id 4 (omega (arith, ltb-true id 5 low-id.0)) in
    let unnamed : not (named id (ids_of before)) ≡ true = ap not (ap (named id) (sym a.same)) ∙ fresh.0 in
    let satellites_few : leb (length (satellites before) + length (places_from 0 (spell 40 sats))) 64 ≡ true = le-leb (length (satellites before) + length (places_from 0 (spell 40 sats))) 64 (omega (arith, a.sats)) in
    let width : length s.cells ≡ cond flag (length (places_from 0 (spell 40 sats)) * length (places_from 0 (spell 16 signals))) 0 =
    rw (← count) (rw (length-take-le k strips room) at (cells_width flag (spell 16 signals) own (length_spell 16 signals))) in
    let held : leb (length (cells (before ++ (s ∷ [])))) 256 ≡ true = le-leb (length (cells (before ++ (s ∷ [])))) 256 (omega (arith, total)) in
    record {
      low = low;
      room = room;
      mine = mine;
      good = true_and known_id (true_and unnamed (true_and (eq-eqb _ _ (length_spell 40 sats)) (true_and placed.0 (true_and satellites_few
          (true_and (eq-eqb _ _ (length_spell 16 signals)) (true_and few.1 (true_and (eq-eqb _ _ width) held)))))));
      after = record {
        same = ap (λ (l : List ℕ). l ++ (id ∷ [])) a.same ∙ sym (map-append _ before (s ∷ []));
        sats = ap₂ ◌+◌ a.sats count ∙ sym (satellites_snoc before s);
        held = total;
      };
    }
