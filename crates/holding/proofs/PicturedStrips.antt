-- The sizes of a good mask and of its picture: a strip for each satellite, at most 64 satellites and 256 cells. Assumes nothing.
use Rattle.bits.proofs.Words.{◌≡◌, refl, ap, ◌∙◌, Bool, true, false, cond, List, [], ◌∷◌, ◌++◌, ℕ, zero, suc, ◌+◌, ◌≤◌, arith, ltb, length, drop}
use mathlib.Core.List.{append_assoc, append-nil, flat_map}
use lib.ListN.{replicate, length-append, length-map, length-replicate}
use lib.Seq.{append_snoc}
use Rattle.bits.specs.BitLists.{number, spell}
use Rattle.format.proofs.Sames.{and_true}
use Rattle.format.proofs.Steps.{field_spelled}
use Rattle.format.specs.Good.{good_system, good_systems, good}
use Rattle.format.specs.Masks.{System, Mask, mask, places_from, satellites_of, cells_of, satellites, cells}
use Rattle.format.proofs.MakesBack.{good_system_lem}
use Rattle.holding.specs.Pictures.{strips_from, strips_of}
use Rattle.holding.specs.Spread.{spread}
use Rattle.holding.proofs.Spreads.{length_spread}

-- ---- a good system

-- how many satellites a system has
abbrev pub satellite_count : System → ℕ
satellite_count s = length (places_from 0 s.satellites)

-- ---- strips

-- what holds of the strips of a cell mask, and where every signal counts for each satellite, holds of a system's by its flag
pub strips_either : (P : Bool → List ℕ → Type 0) (s : System)
    → P true (strips_from (satellite_count s) s.signals s.cells) → P false (replicate (satellite_count s) (number s.signals)) → P s.flag (strips_of s)
unfolding strips_of
strips_either P s from all = go s.flag
  where
    go : (b : Bool) → P b (cond b (strips_from (satellite_count s) s.signals s.cells) (replicate (satellite_count s) (number s.signals)))
    go true = from
    go false = all

length_strips_from : (n : ℕ) (signals bits : List Bool) → length (strips_from n signals bits) ≡ n
unfolding strips_from
length_strips_from zero signals bits = refl
length_strips_from (suc n) signals bits = ap suc (length_strips_from n signals (drop (length (places_from 0 signals)) bits))

-- a system has a strip for each satellite
pub length_strips : (s : System) → length (strips_of s) ≡ satellite_count s
length_strips s = strips_either (λ _ l. length l ≡ satellite_count s) s (length_strips_from _ s.signals s.cells) (length-replicate _ _)

pub length_satellites : (s : System) → length (satellites_of s) ≡ satellite_count s
unfolding satellites_of
length_satellites s = length-map (places_from 0 s.satellites) _

-- and so have all systems
pub picture_strips : (ss : List System) → length (flat_map strips_of ss) ≡ length (satellites ss)
unfolding flat_map satellites
picture_strips [] = refl
picture_strips (s ∷ ss) = simp length-append (rw (length_strips s, length_satellites s, picture_strips ss))

-- a strip is spelled by its number
pub spell_strip : (signals bits : List Bool) → length signals ≡ 16 → spell 16 (number (spread signals bits)) ≡ spread signals bits
spell_strip signals bits long = field_spelled 16 (spread signals bits) (length_spread signals bits ∙ long)

-- ---- one more system

pub flat_map_snoc : {A B : Type 0} (f : A → List B) (xs : List A) (x : A) → flat_map f (xs ++ (x ∷ [])) ≡ flat_map f xs ++ f x
unfolding flat_map
flat_map_snoc f [] x = append-nil (f x)
flat_map_snoc f (y ∷ xs) x = rw (flat_map_snoc f xs x, append_assoc)

pub satellites_snoc : (before : List System) (s : System) → length (satellites (before ++ (s ∷ []))) ≡ length (satellites before) + satellite_count s
unfolding satellites
satellites_snoc before s = rw flat_map_snoc (simp length-append (rw (length_satellites s)))

pub cells_snoc : (before : List System) (s : System) → length (cells (before ++ (s ∷ []))) ≡ length (cells before) + length (cells_of s)
unfolding cells
cells_snoc before s = rw flat_map_snoc (simp length-append)

-- ---- limits

-- the satellites and cells with those of all that follow
few_after : (before ss : List System) → length (satellites before) ≤ 64 → length (cells before) ≤ 256 → good_systems before ss ≡ true
    → (length (satellites (before ++ ss)) ≤ 64) × (length (cells (before ++ ss)) ≤ 256)
unfolding good_systems
few_after before [] few held e = rw append-nil (few, held)
few_after before (s ∷ ss) few held e =
    let parts = and_true (good_system before s) _ e in
    let z = good_system_lem before s parts.0 in
    rw append_snoc at (few_after (before ++ (s ∷ [])) ss (rw (satellites_snoc before s) z.few) z.held parts.1)

pub few_parts : (m : Mask) → good (mask m) ≡ true → (length (satellites m.systems) ≤ 64) × (length (cells m.systems) ≤ 256)
unfolding good satellites cells flat_map
few_parts m e = few_after [] m.systems (omega arith) (omega arith) (and_true (ltb m.iod 16) _ e).1
