-- The tests of specs/Testing.antt, one strip or slot at a time. Assumes nothing.
use Rattle.bits.proofs.Words.{◌≡◌, ap, ◌∙◌, Bool, true, false, ◌&&◌, not, List, ℕ, suc, ◌+◌, ◌-◌, ◌^◌, ◌≤◌, ◌<◌, add-one, arith, eqb, ltb, leb, length, get_or, take, drop}
use native.Mathlib.Nat.{add-zero, sub_self}
use borrow.Author.Tests.{leb-true}
use lib.Count.{ones}
use lib.ListN.{length-drop}
use lib.Seq.{take-suc, drop-cons, drop-drop, get_or-drop}
use Rattle.holding.specs.Bounds.{every}
use Rattle.bits.specs.BitLists.{spell}
use Rattle.format.proofs.Sames.{and_true}
use Rattle.format.specs.Assigned.{satellite_places, assigned}
use Rattle.holding.specs.Building.{ones_in}
use Rattle.format.specs.Messages.{named}
use Rattle.holding.specs.Testing.{strip_fits, strips_fit, masks_fit, slot_fits, empty_strips, empty_slots, slots_fit}
use Rattle.holding.proofs.Counts.{ones_part}

pub empty_strip : (strips : List ℕ) (i : ℕ) → i < length strips → empty_strips (drop i strips) ≡ (eqb (get_or strips i 0) 0 && empty_strips (drop (suc i) strips))
unfolding every
empty_strip strips i inside = ap empty_strips (drop-cons strips i 0 inside)

pub strip_fit : (flag : Bool) (signals : ℕ) (strips : List ℕ) (i to : ℕ) → i < to → i < length strips
    → strips_fit flag signals (take (to - i) (drop i strips)) ≡ (strip_fits flag signals (get_or strips i 0) && strips_fit flag signals (take (to - suc i) (drop (suc i) strips)))
unfolding every
strip_fit flag signals strips i to more inside =
    let next : to - i ≡ suc (to - suc i) = omega arith in
    rw (next, drop-cons strips i 0 inside)

-- ---- slots

pub empty_slot : (ids sats signals : List ℕ) (flags : List Bool) (i : ℕ) → i < length ids
    → empty_slots (length ids - i) (drop i ids) (drop i sats) (drop i signals) (drop i flags)
    ≡ (eqb (get_or ids i 0) 0 && (eqb (get_or sats i 0) 0 && (eqb (get_or signals i 0) 0 && (not (get_or flags i false)
    && empty_slots (length ids - suc i) (drop (suc i) ids) (drop (suc i) sats) (drop (suc i) signals) (drop (suc i) flags)))))
unfolding empty_slots
empty_slot ids sats signals flags i inside =
    let next : length ids - i ≡ suc (length ids - suc i) = omega arith in
    ap (λ (m : ℕ). empty_slots m (drop i ids) (drop i sats) (drop i signals) (drop i flags)) next ∙ simp (get_or-drop, drop-drop, add-zero, add-one)

-- masks that fit leave no more than 64 satellites
pub few_with : (n id sats signals : ℕ) → masks_fit n id sats signals ≡ true → n + ones sats ≤ 64
unfolding masks_fit
few_with n id sats signals e =
    let wide = and_true (ltb sats (2 ^ 40)) _ e in
    let placed = and_true (assigned satellite_places id (spell 40 sats)) _ wide.1 in
    leb-true (n + ones sats) 64 (and_true (leb (n + ones sats) 64) _ placed.1).0

-- ---- one slot after the other

-- a slot that fits leaves room for its satellites
pub fits_few : (before : List ℕ) (n id sats signals : ℕ) (flag : Bool) (strips : List ℕ) → slot_fits before n id sats signals flag strips ≡ true → n + ones sats ≤ 64
unfolding slot_fits
fits_few before n id sats signals flag strips e =
    let known = and_true (ltb id 5) _ e in
    let new = and_true (not (named id before)) _ known.1 in
    few_with n id sats signals (and_true (masks_fit n id sats signals) _ new.1).0

-- the next slot, after the cells of the strips passed
pub next_slot : (nsat ncell count n i : ℕ) (ids sats signals : List ℕ) (flags : List Bool) (strips : List ℕ) → i < count → i < length ids
    → let k = ones (get_or sats i 0) in
    slots_fit nsat ncell (count - i) (take i ids) n (ones_in (take n strips)) (drop i ids) (drop i sats) (drop i signals) (drop i flags) (drop n strips)
    ≡ (slot_fits (take i ids) n (get_or ids i 0) (get_or sats i 0) (get_or signals i 0) (get_or flags i false) (drop n strips)
    && slots_fit nsat ncell (count - suc i) (take (suc i) ids) (n + k) (ones_in (take (n + k) strips)) (drop (suc i) ids) (drop (suc i) sats) (drop (suc i) signals)
    (drop (suc i) flags) (drop (n + k) strips))
unfolding slots_fit
next_slot nsat ncell count n i ids sats signals flags strips more inside =
    let next : count - i ≡ suc (count - suc i) = omega arith in
    rw (next, take-suc ids i 0 inside, ones_part strips n (ones (get_or sats i 0))) (simp (get_or-drop, drop-drop, add-zero, add-one))

-- past the last slot
pub no_slot : (nsat ncell count i n c : ℕ) (before ids sats signals : List ℕ) (flags : List Bool) (strips : List ℕ) → i ≡ count
    → slots_fit nsat ncell (count - i) before n c (drop i ids) (drop i sats) (drop i signals) (drop i flags) strips
    ≡ (eqb n nsat && (empty_slots (length ids - count) (drop count ids) (drop count sats) (drop count signals) (drop count flags)
    && (empty_strips strips && (leb c 256 && eqb c ncell))))
unfolding slots_fit
no_slot nsat ncell count i n c before ids sats signals flags strips end = rw (end, sub_self count, length-drop count ids)
