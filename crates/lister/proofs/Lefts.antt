-- What is left of a walk as text, and what is listed behind it: alike for alike walks. Assumes nothing.
use mathlib.Core.Path.{◌≡◌}
use mathlib.Core.List.{List, []}
use Prim.Native.Nat.{ℕ, suc, ◌+◌, ◌^◌, ◌<◌}
use native.Mathlib.Nat.{zero-add}
use native.Mathlib.Omega.{arith}
use Rattle.format.specs.Listing.{Listed, lines_from, list_lines, walk_text}
use Rattle.format.specs.Masks.{held_in}
use Rattle.format.specs.Reading.{lent_after}
use Rattle.format.specs.Walking.{Walk, messages}
use Rattle.format.proofs.AlikeWalks.{Alike}
use Rattle.walk.specs.declared.Tally.{Tally}
use Rattle.lister.specs.Owed.{behind, left_text}
use Rattle.lister.specs.Steps.{counted, start}

-- the text of the walk, then the lines behind the k-th
unfoldable pub left_listed : Tally → Walk → ℕ → List ℕ → Listed
left_listed tally w k input = behind (left_text tally w) (list_lines (held_in (lent_after w.stop)) (suc k) (lines_from [] input))

pub left_alike : {w v : Walk} → Alike w v → (tally : Tally) (k : ℕ) (input : List ℕ) → left_listed tally w k input ≡ left_listed tally v k input
unfolding left_listed left_text messages
left_alike a tally k input = rw (a.handed, a.stop, a.place)

-- nothing was handed out before it
pub left_start : (w : Walk) → left_text start w ≡ walk_text w
unfolding left_text walk_text
left_start w = simp zero-add

-- lines are counted as far as a number of 64 bits goes
pub counted_next : (n : ℕ) → n + 1 < 2 ^ 64 → counted n ≡ suc n
unfolding counted
counted_next n small = omega arith
