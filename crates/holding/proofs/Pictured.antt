-- A good holding and its picture: each says the other, and the test of a lent struct holds of just the pictures of good holdings. Assumes nothing.
use Rattle.bits.proofs.Words.{◌≡◌, refl, ap, ap₂, ◌∙◌, Bool, true, false, cond, List, [], ◌∷◌, ◌++◌, map, ℕ, zero, suc, ◌+◌, ◌*◌, arith, ltb, length, drop}
use mathlib.Core.List.{append_assoc, flat_map}
use native.Mathlib.Nat.{suc-mul}
use lib.ListN.{replicate, length-drop, take-append-drop}
use lib.Seq.{take_at, drop_at}
use Rattle.bits.specs.BitLists.{number, spell}
use Rattle.format.proofs.Sames.{and_true, true_and}
use Rattle.format.proofs.Steps.{field_spelled}
use Rattle.format.specs.Good.{good_system, good_systems, good}
use Rattle.format.specs.Masks.{System, Held, nothing, mask, places_from, pick}
use Rattle.format.proofs.MakesBack.{GoodSystem, good_system_lem}
use Rattle.holding.specs.declared.Holding.{Holding}
use Rattle.holding.specs.Pictures.{filled, strips_from, strips_of, picture_of, system_of, systems_of, mask_of, sound}
use Rattle.holding.proofs.Spreads.{pick_first}
use Rattle.holding.proofs.PicturedStrips.{satellite_count, length_strips, spell_strip}
use Rattle.holding.proofs.PicturedSame.{same_holding_sound, same_holding_refl}

-- ---- one system

-- all strips of a system say its cell mask
strips_bits : (n : ℕ) (signals bits : List Bool) → length signals ≡ 16 → length bits ≡ n * length (places_from 0 signals)
    → flat_map (λ strip. pick signals (spell 16 strip)) (strips_from n signals bits) ≡ bits
unfolding flat_map strips_from
strips_bits zero signals [] long e = refl
strips_bits zero signals (b ∷ bits) long e = absurd (omega arith)
strips_bits (suc n) signals bits long e =
    let w = length (places_from 0 signals) in
    let all : length bits ≡ n * w + w = e ∙ suc-mul n w in
    let strip = ap (pick signals) (spell_strip signals bits long) ∙ pick_first signals bits 0 (omega arith) in
    ap₂ ◌++◌ strip (strips_bits n signals (drop w bits) long (length-drop w bits ∙ omega arith)) ∙ take-append-drop w bits

-- the same whatever the cell flag: a system without it has no cell mask
cells_strips : (flag : Bool) (n : ℕ) (signals bits : List Bool) → length signals ≡ 16 → length bits ≡ cond flag (n * length (places_from 0 signals)) 0
    → cond flag (flat_map (λ strip. pick signals (spell 16 strip)) (cond flag (strips_from n signals bits) (replicate n (number signals)))) [] ≡ bits
cells_strips true n signals bits long e = strips_bits n signals bits long e
cells_strips false n signals [] long e = refl
cells_strips false n signals (b ∷ bits) long e = absurd (omega arith)

-- its slot and its strips, whatever stands behind them, say the system
system_slot : (before : List System) (s : System) (more : List ℕ) → GoodSystem before s
    → system_of s.id (number s.satellites) (number s.signals) s.flag (strips_of s ++ more) ≡ s
unfolding system_of strips_of
system_slot before s more z =
    let satellites = field_spelled 40 s.satellites z.whole in
    let signals = field_spelled 16 s.signals z.long in
    let cells : (system_of s.id (number s.satellites) (number s.signals) s.flag (strips_of s ++ more)).cells ≡ s.cells =
    rw (satellites, signals, take_at (strips_of s) more (satellite_count s) (length_strips s)) (cells_strips s.flag (satellite_count s) s.signals s.cells z.long z.width) in
    λ i. record { id = s.id; satellites = satellites i; signals = signals i; flag = s.flag; cells = cells i }

-- ---- all systems

-- so do all slots and all strips say the systems, whatever fills the arrays
systems_slots : (before ss : List System) (ids sats signals : List ℕ) (flags : List Bool) (strips : List ℕ) → good_systems before ss ≡ true
    → systems_of (length ss) (map (λ s. s.id) ss ++ ids) (map (λ s. number s.satellites) ss ++ sats) (map (λ s. number s.signals) ss ++ signals)
    (map (λ s. s.flag) ss ++ flags) (flat_map strips_of ss ++ strips)
    ≡ ss
unfolding good_systems systems_of flat_map
systems_slots before [] ids sats signals flags strips e = refl
systems_slots before (s ∷ ss) ids sats signals flags strips e =
    let parts = and_true (good_system before s) _ e in
    let z = good_system_lem before s parts.0 in
    let more = flat_map strips_of ss ++ strips in
    rw (append_assoc (strips_of s) (flat_map strips_of ss) strips, field_spelled 40 s.satellites z.whole, drop_at (strips_of s) more (satellite_count s) (length_strips s))
    (ap₂ ◌∷◌ (system_slot before s more z) (systems_slots (before ++ (s ∷ [])) ss ids sats signals flags strips parts.1))

-- what a good holding's picture says is that holding
pub mask_picture : (g : Held) → good g ≡ true → mask_of (picture_of g) ≡ g
unfolding good picture_of mask_of filled
mask_picture nothing e = refl
mask_picture (mask m) e =
    let systems = systems_slots [] m.systems _ _ _ _ _ (and_true (ltb m.iod 16) _ e).1 in
    λ i. mask (record { iod = m.iod; systems = systems i })

-- ---- the test of a lent struct

-- it holds of the picture of a good holding
pub sound_picture : (g : Held) → good g ≡ true → sound (picture_of g) ≡ true
unfolding sound
sound_picture g e = rw (mask_picture g e) (true_and e (same_holding_refl (picture_of g)))

-- and where it holds, the struct says a good holding and is its picture
pub picture_sound : (h : Holding) → sound h ≡ true → (good (mask_of h) ≡ true) × (picture_of (mask_of h) ≡ h)
unfolding sound
picture_sound h e =
    let parts = and_true (good (mask_of h)) _ e in
    (parts.0, same_holding_sound (picture_of (mask_of h)) h parts.1)
