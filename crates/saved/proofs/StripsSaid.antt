-- The strips that a line says, stored one after the other. Assumes nothing.
use mathlib.Core.Path.{◌≡◌, refl, ap, ◌∙◌}
use mathlib.Core.Bool.{Bool}
use mathlib.Core.List.{List, [], ◌∷◌}
use Prim.Native.Nat.{ℕ, zero, suc, ◌+◌, ◌-◌, ◌*◌, ◌≤◌, ◌<◌}
use native.Mathlib.Nat.{add-zero, sub-zero}
use native.Mathlib.Omega.{arith}
use lib.Count.{ones}
use lib.ListN.{length, set, drop}
use lib.Seq.{drop-drop, sets}
use Rattle.format.specs.Lengths.{total}
use Rattle.holding.specs.Building.{ones_in}
use Rattle.text.proofs.Stores.{wrote, Left, all_left, part_wrote, none_left}
use Rattle.saved.specs.declared.systems.Slot.{Slot}
use Rattle.saved.specs.Saying.{strip_said, strips_said}

pub length_said : (s : Slot) (n : ℕ) (bits : List Bool) → length (strips_said s n bits) ≡ n
unfolding strips_said
length_said s zero bits = refl
length_said s (suc n) bits = ap suc (length_said s n (drop (ones s.signals) bits))

-- of n strips the first i are stored and counted, and the others are said by the bits from the next on
pub record SaidLeft (before : List ℕ) (from : ℕ) (s : Slot) (bits : List Bool) (n : ℕ) (strips : List ℕ) (next cells i : ℕ) : Type 0 where
  pub up_to : i ≤ n
  pub near : next ≤ 16 * i
  pub few : cells ≤ 16 * i
  pub sum : ones_in (strips_said s n bits) ≡ cells + ones_in (strips_said s (n - i) (drop next bits))
  pub text : Left before from (strips_said s n bits) strips (from + i) (strips_said s (n - i) (drop next bits))

pub all_to_say : (before : List ℕ) (from : ℕ) (s : Slot) (bits : List Bool) (n : ℕ) → SaidLeft before from s bits n before 0 0 0
all_to_say before from s bits n =
    record {
      up_to = omega arith;
      near = omega arith;
      few = omega arith;
      sum = rw sub-zero (omega arith);
      text = rw (add-zero, sub-zero) (all_left before from (strips_said s n bits));
    }

module _ {before : List ℕ} {from : ℕ} {s : Slot} {bits : List Bool} {n : ℕ} {strips : List ℕ} {next cells i : ℕ} (l : SaidLeft before from s bits n strips next cells i) where
  -- one more
  pub strip_stored : i < n → {strip w k : ℕ} → strip ≡ strip_said s (drop next bits) → w ≡ ones s.signals → w ≤ 16 → k ≡ ones strip → k ≤ 16
      → SaidLeft before from s bits n (set strips (from + i) strip) (next + w) (cells + k) (i + 1)
  unfolding strips_said total
  strip_stored more {strip} {w} {k} is wide narrow count small =
      let left : n - i ≡ suc (n - (i + 1)) = omega arith in
      let rest = strips_said s (n - (i + 1)) (drop (next + w) bits) in
      let first : strips_said s (n - i) (drop next bits) ≡ strip ∷ rest = rw (left, is, wide, ← (drop-drop (ones s.signals) next bits)) in
      let there : from + (i + 1) ≡ from + i + 1 = omega arith in
      record {
        up_to = omega arith;
        near = omega (arith, l.near);
        few = omega (arith, l.few);
        sum = l.sum ∙ omega (arith, ap ones_in first);
        text = rw there (part_wrote l.text first (wrote strips (strip ∷ []) (refl, refl)));
      }

  -- none is left
  pub strips_stored : n ≤ i → (cells ≡ ones_in (strips_said s n bits)) × (strips ≡ sets before from (strips_said s n bits))
  unfolding strips_said total
  strips_stored all =
      let none : n - i ≡ 0 = omega arith in
      let end : strips_said s (n - i) (drop next bits) ≡ [] = rw none in
      (omega (arith, l.sum, ap ones_in end), (none_left l.text end).same)
