-- One more system in a holding: its strips and its slot make the picture of the mask with it. Assumes nothing.
use Rattle.bits.proofs.Words.{◌≡◌, refl, sym, ap, ◌∙◌, true, false, List, [], ◌∷◌, ◌++◌, map, ℕ, suc, ◌+◌, ◌-◌, ◌^◌, ◌≤◌, ◌<◌, arith, ltb, length}
use mathlib.Core.List.{append-nil, map-append, flat_map}
use native.Mathlib.Nat.{suc_inj}
use borrow.Author.Tests.{ltb-true}
use lib.ListN.{set, replicate, length-append, length-map}
use lib.Seq.{append_snoc, set_at, sets}
use Rattle.format.specs.Lengths.{total}
use Rattle.bits.specs.BitLists.{number}
use Rattle.format.proofs.Sames.{and_true}
use Rattle.format.specs.Masks.{System, Mask, mask, Satellite, satellites_of, cells_of, satellites, cells}
use Rattle.holding.specs.Bounds.{narrow, every}
use Rattle.holding.specs.Building.{with_strips, with_system, ones_in}
use Rattle.holding.specs.Held.{strip_cells}
use Rattle.holding.specs.Pictures.{filled, strips_of, picture_of}
use Rattle.holding.proofs.Narrows.{narrow_strips}
use Rattle.holding.proofs.Places.{ones_places}
use Rattle.holding.proofs.PicturedStrips.{length_strips, length_satellites, picture_strips, flat_map_snoc, satellites_snoc, cells_snoc}
use Rattle.holding.proofs.PicturedCells.{strip_cells_lem}
-- a good mask has at most five systems
pub use Rattle.format.proofs.MakesBack.{few_systems}

-- ---- arrays

-- an element stored behind those of a filled list
set_filled : {A : Type 0} (n : ℕ) (d x : A) (l : List A) (k : ℕ) → length l ≡ k → k < n → set (filled n d l) k x ≡ filled n d (l ++ (x ∷ []))
unfolding filled
set_filled n d x l k e h =
    let here : n - length l ≡ suc (n - suc k) = omega arith in
    let after : n - length (l ++ (x ∷ [])) ≡ n - suc k = simp length-append (omega arith) in
    rw (here, after, append_snoc) (set_at l d (replicate (n - suc k) d) x k e)

-- and so are several
sets_filled : {A : Type 0} (n : ℕ) (d : A) (xs l : List A) (k : ℕ) → length l ≡ k → k + length xs ≤ n → sets (filled n d l) k xs ≡ filled n d (l ++ xs)
sets_filled n d [] l k e room = ap (filled n d) (sym (append-nil l))
sets_filled n d (x ∷ xs) l k e room =
    let longer : length (l ++ (x ∷ [])) ≡ suc k = simp length-append (omega arith) in
    rw (set_filled n d x l k e (omega arith), sets_filled n d xs (l ++ (x ∷ [])) (suc k) longer (omega arith), append_snoc)

-- ---- the cells of a system's strips

-- strips of 16 bits have a one for each cell
ones_cells : (sats : List Satellite) (strips : List ℕ) → length sats ≡ length strips → narrow 16 strips ≡ true → ones_in strips ≡ length (strip_cells sats strips)
unfolding total strip_cells every
ones_cells [] [] e thin = refl
ones_cells [] (strip ∷ strips) e thin = absurd (omega arith)
ones_cells (sat ∷ sats) [] e thin = absurd (omega arith)
ones_cells (sat ∷ sats) (strip ∷ strips) e thin =
    let parts = and_true (ltb strip (2 ^ 16)) _ thin in
    simp (length-append, length-map) (omega (arith, ones_places 16 strip 0 (ltb-true strip (2 ^ 16) parts.0), ones_cells sats strips (suc_inj e) parts.1))

-- the strips of a system with a signal mask of 16 bits have a one for each of its cells
pub strips_ones : (s : System) → length s.signals ≡ 16 → ones_in (strips_of s) ≡ length (cells_of s)
strips_ones s long = rw (strip_cells_lem s long) (ones_cells (satellites_of s) (strips_of s) (length_satellites s ∙ sym (length_strips s)) (narrow_strips s long))

-- and so have they with those of other systems
pub cells_with : (before : List System) (s : System) → length s.signals ≡ 16 → length (cells before) + ones_in (strips_of s) ≡ length (cells (before ++ (s ∷ [])))
cells_with before s long = rw (cells_snoc before s, strips_ones s long)

-- ---- a system

-- one more system in the next slot, by any of its fields
set_slot : {A : Type 0} (f : System → A) (d : A) (ss : List System) (s : System) → length ss < 5
    → set (filled 5 d (map f ss)) (length ss) (f s) ≡ filled 5 d (map f (ss ++ (s ∷ [])))
set_slot f d ss s room = rw (map-append f ss (s ∷ [])) (set_filled 5 d (f s) (map f ss) (length ss) (length-map ss f) room)

-- strips and slot of one more system make the picture of the mask with that system behind the others
pub system_built : (m : Mask) (s : System) → length m.systems < 5 → length (satellites m.systems) + length (strips_of s) ≤ 64 → length s.signals ≡ 16
    → with_system (with_strips (picture_of (mask m)) (strips_of s)) s.id (number s.satellites) (number s.signals) s.flag
    ≡ picture_of (mask (record { iod = m.iod; systems = m.systems ++ (s ∷ []) }))
unfolding with_system with_strips picture_of
system_built m s room few long =
    let ss = m.systems in
    let count : length ss + 1 ≡ length (ss ++ (s ∷ [])) = simp length-append in
    let ids = set_slot (λ s. s.id) 0 ss s room in
    let sats = set_slot (λ s. number s.satellites) 0 ss s room in
    let signals = set_slot (λ s. number s.signals) 0 ss s room in
    let flags = set_slot (λ s. s.flag) false ss s room in
    let strips : sets (filled 64 0 (flat_map strips_of ss)) (length (satellites ss)) (strips_of s) ≡ filled 64 0 (flat_map strips_of (ss ++ (s ∷ []))) =
    rw flat_map_snoc (sets_filled 64 0 (strips_of s) (flat_map strips_of ss) (length (satellites ss)) (picture_strips ss) few) in
    let nsat : length (satellites ss) + length (strips_of s) ≡ length (satellites (ss ++ (s ∷ []))) = rw (satellites_snoc ss s, length_strips s) in
    rw (count, ids, sats, signals, flags, strips, nsat, cells_with ss s long)
