-- Stores one after another into a list: in parts, and beside each other; and texts one behind another. Assumes nothing.
use mathlib.Core.Path.{◌≡◌, refl, sym, ap, ◌∙◌}
use mathlib.Core.List.{List, [], ◌∷◌, ◌++◌}
use Prim.Native.Nat.{ℕ, suc, ◌+◌, ◌≤◌}
use native.Mathlib.Nat.{add-zero}
use native.Mathlib.Omega.{arith}
use lib.ListN.{length, set, length-append}
use lib.Seq.{set_comm, sets, length-sets}

module _ {A : Type 0} where
  -- what is stored in two parts
  pub sets_append : (l : List A) (i : ℕ) (xs ys : List A) → sets l i (xs ++ ys) ≡ sets (sets l i xs) (i + length xs) ys
  sets_append l i [] ys = rw (add-zero i)
  sets_append l i (x ∷ xs) ys =
      let next : suc i + length xs ≡ i + suc (length xs) = omega arith in
      sets_append (set l i x) (suc i) xs ys ∙ rw next

  -- one store behind others is as well made before them
  pub sets_behind : (l : List A) (i : ℕ) (xs : List A) (k : ℕ) (y : A) → i + length xs ≤ k → sets (set l k y) i xs ≡ set (sets l i xs) k y
  sets_behind l i [] k y far = refl
  sets_behind l i (x ∷ xs) k y far = rw (set_comm l k i y x (λ e. omega arith)) (sets_behind (set l i x) (suc i) xs k y (omega arith))

-- ---- a text that was stored from a place on, and the place behind it

pub record Wrote (before : List ℕ) (at : ℕ) (text after : List ℕ) (end : ℕ) : Type 0 where
  pub place : end ≡ at + length text
  pub same : after ≡ sets before at text

-- as a contract says it
pub wrote : (before : List ℕ) {at : ℕ} (text : List ℕ) {after : List ℕ} {end : ℕ} → (end ≡ at + length text) × (after ≡ sets before at text) → Wrote before at text after end
wrote before text e = record { place = e.0; same = e.1 }

pub told : {before : List ℕ} {at : ℕ} {text after : List ℕ} {end : ℕ} → Wrote before at text after end → (end ≡ at + length text) × (after ≡ sets before at text)
told w = (w.place, w.same)

-- from the first place on
pub wrote_first : (before : List ℕ) (text : List ℕ) {after : List ℕ} {end : ℕ} → (end ≡ length text) × (after ≡ sets before 0 text) → Wrote before 0 text after end
wrote_first before text e = record { place = omega (arith, e.0); same = e.1 }

pub told_first : {before : List ℕ} {text after : List ℕ} {end : ℕ} → Wrote before 0 text after end → (end ≡ length text) × (after ≡ sets before 0 text)
told_first w = (omega (arith, w.place), w.same)

-- one behind another
pub then_wrote : {before : List ℕ} {at : ℕ} {text between : List ℕ} {middle : ℕ} {more after : List ℕ} {end : ℕ}
    → Wrote before at text between middle → Wrote between middle more after end → Wrote before at (text ++ more) after end
then_wrote {before} {at} {text} {between} {middle} {more} w v =
    record {
      place = v.place ∙ rw (length-append text more) (omega (arith, w.place));
      same = v.same ∙ rw (w.same, w.place) (sym (sets_append before at text more));
    }

-- what is left finds room
pub room_left : {before : List ℕ} {at : ℕ} {text between : List ℕ} {middle : ℕ} (more : List ℕ)
    → Wrote before at text between middle → at + length (text ++ more) ≤ length before → middle + length more ≤ length between
room_left {before} {at} {text} more w room = rw (w.same, w.place, length-sets before at text) (omega (arith, length-append text more))

-- ---- a text of which the front is stored: what is left makes the same from the place behind it

pub record Left (before : List ℕ) (start : ℕ) (all now : List ℕ) (at : ℕ) (rest : List ℕ) : Type 0 where
  pub same : sets before start all ≡ sets now at rest
  pub ends : start + length all ≡ at + length rest
  pub long : length now ≡ length before

pub all_left : (before : List ℕ) (start : ℕ) (all : List ℕ) → Left before start all before start all
all_left before start all = record { same = refl; ends = refl; long = refl }

module _ {before : List ℕ} {start : ℕ} {all now : List ℕ} {at : ℕ} where
  -- with a part more stored
  pub part_wrote : {rest text more : List ℕ} → Left before start all now at rest → rest ≡ text ++ more → {after : List ℕ} {end : ℕ} → Wrote now at text after end
      → Left before start all after end more
  part_wrote {rest} {text} {more} l e {after} {end} w =
      record {
        same = l.same ∙ rw (e, w.same, w.place) (sets_append now at text more);
        ends = l.ends ∙ rw (e, length-append text more, w.place) (omega arith);
        long = rw (w.same, length-sets now at text) l.long;
      }

  -- what is left finds room
  pub left_room : {rest : List ℕ} → Left before start all now at rest → start + length all ≤ length before → at + length rest ≤ length now
  left_room l room = omega (arith, l.ends, l.long)

  -- nothing is left
  pub none_left : {rest : List ℕ} → Left before start all now at rest → rest ≡ [] → Wrote before start all now at
  none_left l e = record { place = omega (arith, l.ends, ap length e); same = sym (rw e at l.same) }
