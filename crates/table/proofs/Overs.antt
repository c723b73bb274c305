-- Rows alone go over all that is seen, those behind flags over the satellites that a selection chooses: the keys of the code are those of crate format's table.
-- Assumes nothing.
use Rattle.bits.proofs.Words.{◌≡◌, refl, ap, Bool, true, false, cond, ℕ, ◌-◌, ◌^◌, ◌≤◌, length}
use Rattle.bits.specs.BitLists.{spell}
use Rattle.format.specs.Masks.{pick}
use Rattle.format.specs.Messages.{over_satellites, over_cells, by_satellite, by_cell, lines_of, cell_lines}
use Rattle.format.proofs.Picks.{pick_all}
use Rattle.format.proofs.Selections.{Distinct}
use Rattle.holding.specs.Held.{View, sky_in}
use Rattle.rows.specs.Table.{shape_at}
use Rattle.table.specs.declared.Keys.TheVariants.{Satellites, Cells}
use Rattle.table.specs.declared.Layout.{Layout}
use Rattle.table.specs.Bodies.{lines_over}
use Rattle.table.specs.Kinds.{keys_for, over_by, keys_by}
use Rattle.table.proofs.Strips.{picked_cells}

pub alone_lines : (l : Layout) (v : View) → length v.satellites ≤ 64 → length v.strips ≤ 64 → lines_over v (keys_for l.cells (2 ^ 64 - 1)) l.shape ≡ over_by l (sky_in v)
unfolding keys_for over_by lines_over over_satellites over_cells sky_in
alone_lines l v few strips = go l.cells
  where
    go : (b : Bool)
        → lines_over v (cond b (Cells (2 ^ 64 - 1)) (Satellites (2 ^ 64 - 1))) l.shape
        ≡ cond b (over_cells (shape_at l.shape)) (over_satellites (shape_at l.shape)) (sky_in v)
    go true = rw (pick_all v.satellites few, pick_all v.strips strips)
    go false = rw (pick_all v.satellites few)

pub chosen_lines_lem : (l : Layout) (v : View) (shape chosen : ℕ) → Distinct v.satellites → length v.satellites ≤ length v.strips
    → lines_of (keys_by l) (shape_at shape) (sky_in v) (pick (spell 64 chosen) v.satellites) ≡ lines_over v (keys_for l.cells chosen) shape
unfolding keys_by keys_for lines_of lines_over sky_in
chosen_lines_lem l v shape chosen distinct room = go l.cells
  where
    go : (b : Bool)
        → lines_of (cond b by_cell by_satellite) (shape_at shape) (sky_in v) (pick (spell 64 chosen) v.satellites)
        ≡ lines_over v (cond b (Cells chosen) (Satellites chosen)) shape
    go true = ap (cell_lines (shape_at shape)) (picked_cells (spell 64 chosen) v.satellites v.strips distinct room)
    go false = refl
