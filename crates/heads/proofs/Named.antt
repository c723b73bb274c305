-- What a view shows to a selection: the lines of those that it chooses, and whether it may name them, by their strips. Assumes nothing.
use Rattle.bits.proofs.Words.{◌≡◌, refl, sym, ap, ◌∙◌, Bool, true, false, cond, List, ℕ, ◌-◌, ◌^◌, ◌≤◌, arith, length, take}
use Rattle.bits.specs.BitLists.{spell}
use Rattle.bits.specs.Places.{field}
use Rattle.format.specs.Masks.{pick}
use Rattle.format.specs.Messages.{by_satellite, by_cell, nameable, lines_of}
use Rattle.format.proofs.Picks.{pick_all, pick_front}
use Rattle.heads.specs.Headings.{Shows, chosen_at}
use Rattle.holding.specs.Held.{View, sky_in}
use Rattle.rows.specs.Table.{shape_at}
use Rattle.table.specs.declared.Layout.{Layout}
use Rattle.table.specs.Bodies.{lines_over, all_set}
use Rattle.table.specs.Kinds.{keys_for, keys_by}
use Rattle.table.proofs.Overs.{chosen_lines_lem}
use Rattle.table.proofs.Strips.{picked_celled}

-- a bit for each of its satellites
abbrev pub bits_at : View → List ℕ → ℕ → List Bool
bits_at v bs place = spell (length v.satellites) (field bs place (length v.satellites))

module _ {v : View} {n : ℕ} {own : List ℕ} (shows : Shows v n own) (l : Layout) where
  room : length v.satellites ≤ length v.strips
  room = rw shows.strips (omega (arith, shows.count, shows.covered))

  -- all of them
  pub all_lines : (shape : ℕ) → lines_of (keys_by l) (shape_at shape) (sky_in v) v.satellites ≡ lines_over v (keys_for l.cells (2 ^ 64 - 1)) shape
  all_lines shape =
      ap (lines_of (keys_by l) (shape_at shape) (sky_in v)) (sym (pick_all v.satellites (omega (arith, shows.count, shows.few))))
      ∙ chosen_lines_lem l v shape (2 ^ 64 - 1) shows.apart room

  -- those of a selection at a place
  module _ (bs : List ℕ) (place : ℕ) where
    abbrev bits : List Bool
    bits = bits_at v bs place

    moved : pick bits v.satellites ≡ pick (spell 64 (chosen_at bs place n)) v.satellites
    unfolding chosen_at
    moved =
        ap (λ (k : ℕ). pick (spell k (field bs place k)) v.satellites) shows.count ∙ sym (pick_front n (field bs place n) v.satellites shows.few)

    pub picked_lines : (shape : ℕ) → lines_of (keys_by l) (shape_at shape) (sky_in v) (pick bits v.satellites) ≡ lines_over v (keys_for l.cells (chosen_at bs place n)) shape
    picked_lines shape = ap (lines_of (keys_by l) (shape_at shape) (sky_in v)) moved ∙ chosen_lines_lem l v shape (chosen_at bs place n) shows.apart room

    celled_here : nameable by_cell (sky_in v) (pick bits v.satellites) ≡ all_set (pick (spell 64 (chosen_at bs place n)) (take n own))
    unfolding nameable sky_in
    celled_here =
        ap (nameable by_cell (sky_in v)) moved
        ∙ picked_celled (spell 64 (chosen_at bs place n)) v.satellites v.strips shows.apart room (rw shows.strips shows.thin)
        ∙ rw (shows.count, shows.strips)

    pub picked_named : nameable (keys_by l) (sky_in v) (pick bits v.satellites) ≡ cond l.cells (all_set (pick (spell 64 (chosen_at bs place n)) (take n own))) true
    unfolding keys_by nameable
    picked_named = go l.cells
      where
        go : (b : Bool) → nameable (cond b by_cell by_satellite) (sky_in v) (pick bits v.satellites) ≡ cond b (all_set (pick (spell 64 (chosen_at bs place n)) (take n own))) true
        go true = celled_here
        go false = refl
