-- The cells of a good mask from its picture: satellite by satellite, the places of its strip. Assumes nothing.
use Rattle.bits.proofs.Words.{◌≡◌, refl, sym, ap₂, ◌∙◌, Bool, true, cond, List, [], ◌∷◌, ◌++◌, ℕ, arith, ltb, length}
use mathlib.Core.List.{append_assoc, flat_map}
use native.Mathlib.Nat.{suc_inj}
use lib.ListN.{replicate, length-map}
use Rattle.bits.specs.BitLists.{number}
use Rattle.format.proofs.Picks.{pick_nil, pick_append, pick_map}
use Rattle.format.proofs.Sames.{and_true}
use Rattle.format.proofs.Steps.{field_spelled}
use Rattle.format.specs.Good.{good_system, good_systems, good}
use Rattle.format.specs.Masks.{System, Mask, mask, Satellite, places_from, pick, satellites_of, pairs_of, cells_of, satellites, cells}
use Rattle.format.proofs.MakesBack.{good_system_lem}
use Rattle.holding.specs.Held.{cells_at, strip_cells}
use Rattle.holding.specs.Pictures.{strips_from, strips_of}
use Rattle.holding.proofs.Spreads.{places_spread}
use Rattle.holding.proofs.PicturedStrips.{strips_either, length_strips, length_satellites, spell_strip}

-- ---- one system

module _ (signals : List Bool) (long : length signals ≡ 16) where
  -- with a cell mask
  picked_cells : (sats : List Satellite) (bits : List Bool)
      → pick bits (flat_map (λ sat. cells_at sat (places_from 0 signals)) sats) ≡ strip_cells sats (strips_from (length sats) signals bits)
  unfolding flat_map strip_cells strips_from
  picked_cells [] bits = pick_nil bits
  picked_cells (sat ∷ sats) bits =
      rw (pick_append, length-map, pick_map, spell_strip signals bits long, places_spread, picked_cells sats)

  -- without one
  all_cells_lem : (sats : List Satellite) → flat_map (λ sat. cells_at sat (places_from 0 signals)) sats ≡ strip_cells sats (replicate (length sats) (number signals))
  unfolding flat_map strip_cells
  all_cells_lem [] = refl
  all_cells_lem (sat ∷ sats) = rw (field_spelled 16 signals long, all_cells_lem sats)

-- the cells of a system with a signal mask of 16 bits are its satellites, each with the places of its strip
pub strip_cells_lem : (s : System) → length s.signals ≡ 16 → cells_of s ≡ strip_cells (satellites_of s) (strips_of s)
unfolding cells_of pairs_of
strip_cells_lem s long =
    let sats = satellites_of s in
    strips_either (λ flag l. cond flag (pick s.cells (pairs_of s)) (pairs_of s) ≡ strip_cells sats l) s
    (rw length_satellites at (picked_cells s.signals long sats s.cells)) (rw length_satellites at (all_cells_lem s.signals long sats))

-- ---- all systems

pub strip_cells_append : (sats more : List Satellite) (strips others : List ℕ) → length sats ≡ length strips → strip_cells (sats ++ more) (strips ++ others) ≡ strip_cells sats strips ++ strip_cells more others
unfolding strip_cells
strip_cells_append [] more [] others e = refl
strip_cells_append [] more (strip ∷ strips) others e = absurd (omega arith)
strip_cells_append (sat ∷ sats) more [] others e = absurd (omega arith)
strip_cells_append (sat ∷ sats) more (strip ∷ strips) others e = rw (strip_cells_append sats more strips others (suc_inj e), append_assoc)

cells_after : (before ss : List System) → good_systems before ss ≡ true → cells ss ≡ strip_cells (satellites ss) (flat_map strips_of ss)
unfolding good_systems cells satellites flat_map strip_cells
cells_after before [] e = refl
cells_after before (s ∷ ss) e =
    let parts = and_true (good_system before s) _ e in
    ap₂ ◌++◌ (strip_cells_lem s (good_system_lem before s parts.0).long) (cells_after (before ++ (s ∷ [])) ss parts.1)
    ∙ sym (strip_cells_append (satellites_of s) (satellites ss) (strips_of s) (flat_map strips_of ss) (length_satellites s ∙ sym (length_strips s)))

-- and so are those of a good mask
pub picture_cells : (m : Mask) → good (mask m) ≡ true → cells m.systems ≡ strip_cells (satellites m.systems) (flat_map strips_of m.systems)
unfolding good
picture_cells m e = cells_after [] m.systems (and_true (ltb m.iod 16) _ e).1
