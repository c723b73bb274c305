-- What is read depends on the bits up to the end alone: not on what the bytes say behind them, nor on what the row buffer held. Assumes nothing.
use mathlib.Core.Path.{◌≡◌, refl, sym, ap, ◌∙◌}
use mathlib.Core.List.{List, ◌∷◌, flatten}
use Prim.Native.Nat.{ℕ, ◌+◌, ◌*◌, ◌≤◌}
use native.Mathlib.Omega.{arith}
use lib.IntN.{ℤ}
use lib.ListN.{length, take}
use borrow.Author.Tests.{le-leb}
use Rattle.bits.specs.BitLists.{bits}
use Rattle.format.specs.Masks.{Lent}
use Rattle.format.specs.Reading.{row_room, accepted, bits_from, placed, lent_tests, reading_by, rows_after}
use Rattle.format.specs.Table.{Kind}
use Rattle.format.specs.Walking.{HandedOut, handed_at, Walk, hand, go_on, walk_on}
use Rattle.format.proofs.CutWalks.{over_long}
use Rattle.format.proofs.Walks.{walk_step, stop_ends, Law, every_walk}

-- the same is handed out, and both stop alike: the row buffers may differ
pub record Alike (w v : Walk) : Type 0 where
  pub handed : w.handed ≡ v.handed
  pub stop : w.stop ≡ v.stop
  pub place : w.place ≡ v.place

-- one more message before both
alike_hand : (d : HandedOut) {w v : Walk} → Alike w v → Alike (hand d w) (hand d v)
unfolding hand
alike_hand d a = record { handed = ap (◌∷◌ d) a.handed; stop = a.stop; place = a.place }

module _ (t : ℕ → Kind) (bytes others : List ℕ) (end : ℕ) (same : take end (bits bytes) ≡ take end (bits others)) (long : end ≤ 8 * length bytes)
    (other : end ≤ 8 * length others) where
  pub reading_alike : (holding : Lent) (start : ℕ) (rows numbers : List ℤ) → row_room ≤ length rows → row_room ≤ length numbers
      → reading_by t holding bytes end start rows ≡ reading_by t holding others end start numbers
  unfolding reading_by lent_tests placed bits_from
  reading_alike holding start rows numbers room enough =
      rw (le-leb row_room (length rows) room, le-leb row_room (length numbers) enough, le-leb end (8 * length bytes) long, le-leb end (8 * length others) other, same)

  -- what a walk over the first is to that over the others
  abbrev Beside : Lent → ℕ → List ℤ → Walk → Type 0
  Beside holding place rows w =
      (numbers : List ℤ) → row_room ≤ length rows → row_room ≤ length numbers → Alike w (walk_on t holding others end place numbers)

  all_beside : Law t bytes end Beside
  unfolding go_on rows_after
  all_beside = record {
    stops = λ holding place rows o e stopped numbers room enough.
        let again : reading_by t holding others end place numbers ≡ o = sym (reading_alike holding place rows numbers room enough) ∙ e in
        rw (stop_ends t holding others end place numbers o again stopped) (record { handed = refl; stop = refl; place = refl });
    goes = λ holding place rows m taken w e ran it numbers room enough.
        let again : reading_by t holding others end place numbers ≡ accepted m (place + taken) = sym (reading_alike holding place rows numbers room enough) ∙ e in
        let new : List ℤ = flatten m.content.rows in
        rw (walk_step t holding others end place numbers, again)
        (alike_hand (handed_at place m (place + taken)) (it _ (omega (arith, over_long new rows)) (omega (arith, over_long new numbers))));
  }

  pub walk_alike : (holding : Lent) (place : ℕ) (rows numbers : List ℤ) → row_room ≤ length rows → row_room ≤ length numbers
      → Alike (walk_on t holding bytes end place rows) (walk_on t holding others end place numbers)
  walk_alike holding place rows numbers = every_walk t bytes end Beside all_beside holding place rows numbers
