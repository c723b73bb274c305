-- From wherever a caller stands it comes to the end, and so there is a run that gives the listing. Assumes nothing.
use mathlib.Core.Path.{◌≡◌, refl, ap, subst}
use mathlib.Core.Bool.{true}
use mathlib.Core.List.{List, [], ◌++◌, append-nil}
use Prim.Native.Nat.{ℕ, zero, suc, ◌+◌, ◌^◌, ◌≤◌, ◌<◌}
use native.Mathlib.Nat.{le_refl}
use native.Mathlib.Omega.{arith}
use lib.IntN.{ℤ}
use lib.ListN.{length, drop}
use Rattle.format.specs.Listing.{listing}
use Rattle.format.specs.Reading.{row_room}
use Rattle.holding.specs.declared.Holding.{Holding}
use Rattle.holding.specs.Pictures.{picture_of, mask_of, sound}
use Rattle.lister.specs.declared.State.{State}
use Rattle.lister.specs.Runs.{first, Run, rests, steps}
use Rattle.lister.specs.Steps.{step_of, line_room, GoodWork, Good}
use Rattle.lister.proofs.KeepsGood.{step_good}
use Rattle.lister.proofs.Lessens.{to_do, none_to_do, step_lessens}
use Rattle.lister.proofs.RunsList.{runs_list, runs_hold}

-- a run to the end
pub record Finishes (s : State) (line : List ℕ) (rows : List ℤ) (input : List ℕ) : Type 0 where
  pub output : List ℕ
  pub after : Holding
  pub run : Run s line rows input output after

rested : (s : State) (line : List ℕ) (rows : List ℤ) (input : List ℕ) → to_do s input ≡ 0 → Finishes s line rows input
rested s line rows input e =
    let none = none_to_do s input e in
    rw none.1 (record { output = []; after = s.holding; run = rests none.0 })

-- a step that is handed all that is left
stepped : (s : State) (line : List ℕ) (rows : List ℤ) (input : List ℕ)
    → Finishes (step_of s line rows input).state (step_of s line rows input).line (step_of s line rows input).rows (drop (step_of s line rows input).taken input ++ [])
    → Finishes s line rows input
stepped s line rows input e = record {
  output = (step_of s line rows input).text ++ e.output;
  after = e.after;
  run = subst (λ (l : List ℕ). Run s line rows l ((step_of s line rows input).text ++ e.output) e.after) (append-nil input) (steps input [] (λ _. refl) e.run);
}

by_steps : (n : ℕ) (s : State) (line : List ℕ) (rows : List ℤ) (input : List ℕ) → Good s line rows → to_do s input ≤ n → Finishes s line rows input
by_steps zero s line rows input good few = rested s line rows input (omega arith)
by_steps (suc n) s line rows input good few = go (to_do s input) refl (by_steps n)
  where
    go : (k : ℕ) → to_do s input ≡ k
        → ((t : State) (l : List ℕ) (r : List ℤ) (left : List ℕ) → Good t l r → to_do t left ≤ n → Finishes t l r left)
        → Finishes s line rows input
    go zero e then = rested s line rows input e
    go (suc k) e then =
        let all : to_do s (input ++ []) ≡ to_do s input = ap (to_do s) (append-nil input) in
        let less = step_lessens s line rows input [] good (λ _. refl) (omega arith) in
        stepped s line rows input (then _ _ _ _ (step_good s line rows input good) (omega arith))

pub runs_end : (s : State) (line : List ℕ) (rows : List ℤ) (input : List ℕ) → Good s line rows → Finishes s line rows input
runs_end s line rows input good = by_steps (to_do s input) s line rows input good (le_refl (to_do s input))

-- so the listing is given
pub listing_run : (holding : Holding) → sound holding ≡ true → (line : List ℕ) (rows : List ℤ) → line_room ≤ length line → row_room ≤ length rows
    → (input : List ℕ) → 1 + length input < 2 ^ 64
    → Run (first holding) line rows input (listing (mask_of holding) input).text (picture_of (listing (mask_of holding) input).held)
unfolding GoodWork
listing_run holding fine line rows large room input few =
    let it = runs_end (first holding) line rows input (record { held = fine; room = large; numbers = room; work = omega arith }) in
    let text = (runs_list holding fine line rows large room input few it.run).0 in
    let held = (runs_hold holding fine line rows large room input few it.run).1 in
    rw (← text, ← held) it.run
