-- A loop over satellites of which a selection chooses some: its marks, moved up by one for each satellite passed, choose among those that are left.
-- Assumes nothing.
use Rattle.bits.proofs.Words.{◌≡◌, refl, ap, ◌∙◌, List, [], ◌∷◌, ◌++◌, ℕ, ◌+◌, ◌-◌, ◌*◌, ◌%◌, ◌^◌, ◌≤◌, ◌<◌, arith, length, take, drop, ℤ}
use mathlib.Core.List.{flatten}
use native.Mathlib.Nat.{mod-lt}
use Rattle.bits.specs.BitLists.{spell}
use Rattle.format.specs.Masks.{pick}
use Rattle.format.specs.Reading.{over}
use Rattle.format.specs.Rows.{Line}
use Rattle.format.proofs.Picks.{pick_nil}
use Rattle.body.specs.declared.Passed.{Passed}
use Rattle.body.specs.Chosen.{chosen_lines}
use Rattle.body.specs.Written.{numbers_at, Room, Handed}
use Rattle.body.proofs.Going.{flatten_append, Going, going_start, Part, going_call, going_end}
use Rattle.body.proofs.Marks.{Moved, moved_start, moved_next, moved_end}
use Rattle.body.proofs.Selected.{pick_split, pick_set, pick_clear}

-- ---- the lines that are chosen

pub chosen_nil : (c : ℕ) → chosen_lines c [] ≡ []
unfolding chosen_lines flatten
chosen_nil c = rw (pick_nil (spell 64 c))

pub chosen_set : (c : ℕ) (g : List Line) (gs : List (List Line)) → 2 ^ 63 ≤ c → c < 2 ^ 64 → chosen_lines c (g ∷ gs) ≡ g ++ chosen_lines (c * 2 ^ 1 % 2 ^ 64) gs
unfolding chosen_lines flatten
chosen_set c g gs set small = ap flatten (pick_set c g gs set small)

pub chosen_clear : (c : ℕ) (g : List Line) (gs : List (List Line)) → c < 2 ^ 63 → chosen_lines c (g ∷ gs) ≡ chosen_lines (c * 2 ^ 1 % 2 ^ 64) gs
unfolding chosen_lines
chosen_clear c g gs clear = ap flatten (pick_clear c g gs clear)

pub chosen_split : (c n : ℕ) (gs hs : List (List Line)) → length gs ≡ n → n ≤ 64 → chosen_lines c (gs ++ hs) ≡ chosen_lines c gs ++ chosen_lines (c * 2 ^ n % 2 ^ 64) hs
unfolding chosen_lines
chosen_split c n gs hs long few = ap flatten (pick_split c n gs hs long few) ∙ flatten_append (pick (spell 64 c) gs) _

-- ---- the loop

-- of all lines that are chosen, those are still to come that the marks choose of what is left
pub record Walk (bs : List ℕ) (chosen : ℕ) (all : List (List Line)) (from : ℕ) (old : List ℤ) (left : List (List Line)) (marks j at : ℕ) (buffer : List ℤ) : Type 0 where
  pub small : marks < 2 ^ 64
  pub moved : Moved chosen (length all) (length left) marks
  pub going : Going bs (chosen_lines chosen all) from old (chosen_lines marks left) j at buffer

pub walk_start : {bs : List ℕ} {chosen : ℕ} {all : List (List Line)} {from : ℕ} {old : List ℤ} → chosen < 2 ^ 64 → Room (chosen_lines chosen all) bs from old
    → Walk bs chosen all from old all chosen 0 from old
walk_start {chosen = chosen} {all} small room = record { small = small; moved = moved_start chosen (length all) small; going = going_start room }

module _ {bs : List ℕ} {chosen : ℕ} {all : List (List Line)} {from : ℕ} {old : List ℤ} {left : List (List Line)} {marks j at : ℕ} {buffer : List ℤ}
    (w : Walk bs chosen all from old left marks j at buffer) where
  -- one satellite: it is chosen, or it is passed
  module _ (g : List Line) (gs : List (List Line)) (e : left ≡ g ∷ gs) where
    pub walk_on_lem : {k place : ℕ} {rows : List ℤ} → Going bs (chosen_lines chosen all) from old (chosen_lines (marks * 2 ^ 1 % 2 ^ 64) gs) k place rows
        → Walk bs chosen all from old gs (marks * 2 ^ 1 % 2 ^ 64) k place rows
    walk_on_lem going = record { small = mod-lt _ (omega arith); moved = moved_next (length gs) (ap length e) w.moved; going = going }

    pub walk_here_lem : 2 ^ 63 ≤ marks → Going bs (chosen_lines chosen all) from old (g ++ chosen_lines (marks * 2 ^ 1 % 2 ^ 64) gs) j at buffer
    walk_here_lem set = rw (e, chosen_set marks g gs set w.small) at w.going

    pub walk_past : marks < 2 ^ 63 → Walk bs chosen all from old gs (marks * 2 ^ 1 % 2 ^ 64) j at buffer
    walk_past clear = walk_on_lem (rw (e, chosen_clear marks g gs clear) at w.going)

  -- none is left
  pub walk_end : left ≡ [] → Handed chosen all bs from old buffer (record { end = record { filled = j; at = at }; marks = marks })
  walk_end none =
      record {
        wrote = going_end (ap (chosen_lines marks) none ∙ chosen_nil marks) w.going;
        marks = moved_end (ap length none) w.moved;
      }

-- ---- a loop over slots, each by a call that hands on the marks for those behind

-- the lines of the slot in hand, which has few satellites, and those of the slots behind it
pub record Both (left gs hs : List (List Line)) : Type 0 where
  pub both : left ≡ gs ++ hs
  pub few : length gs ≤ 64

module _ {bs : List ℕ} {all : List Line} {from : ℕ} {old : List ℤ} {left gs hs : List (List Line)} {j at : ℕ} {buffer : List ℤ} (marks : ℕ) (b : Both left gs hs)
    (g : Going bs all from old (chosen_lines marks left) j at buffer) where
  pub slot_call : Part bs all from old (chosen_lines marks gs) (chosen_lines (marks * 2 ^ length gs % 2 ^ 64) hs) j at buffer
  slot_call = going_call _ _ (rw (b.both, chosen_split marks (length gs) gs hs refl b.few) at g)

  pub slot_passed : (new : List ℤ) (passed : Passed) → Handed marks gs bs at (take (length buffer - j) (drop j buffer)) new passed
      → Going bs all from old (chosen_lines passed.marks hs) (j + passed.end.filled) passed.end.at (take j buffer ++ (new ++ drop (length buffer - j) (drop j buffer)))
  slot_passed new passed h = rw h.marks (slot_call.written new passed.end h.wrote)

pub slots_end : {bs : List ℕ} {all : List Line} {from : ℕ} {old : List ℤ} {left : List (List Line)} {j at : ℕ} {buffer : List ℤ} (marks : ℕ) → left ≡ []
    → Going bs all from old (chosen_lines marks left) j at buffer → buffer ≡ over (numbers_at all bs from) old
slots_end marks none g = (going_end (ap (chosen_lines marks) none ∙ chosen_nil marks) g).numbers
