-- Whatever the sizes of the pieces: the texts of all steps, put together, are the listing, and what is held after them is what it holds. Assumes nothing.
use mathlib.Core.Path.{◌≡◌, refl, sym, ap, ◌∙◌}
use mathlib.Core.Bool.{true}
use mathlib.Core.List.{List, [], ◌++◌}
use Prim.Native.Nat.{ℕ, ◌+◌, ◌^◌, ◌≤◌, ◌<◌}
use native.Mathlib.Omega.{arith}
use lib.IntN.{ℤ}
use lib.ListN.{length}
use Rattle.format.specs.Listing.{Listed, lines_from, list_lines, listing}
use Rattle.format.specs.Masks.{Held}
use Rattle.format.specs.Reading.{row_room}
use Rattle.holding.specs.declared.Holding.{Holding}
use Rattle.holding.specs.Pictures.{mask_of, sound, picture_of}
use Rattle.holding.proofs.Sounds.{sounds}
use Rattle.lister.specs.declared.State.{State}
use Rattle.lister.specs.declared.Work.{Work}
use Rattle.lister.specs.declared.Work.TheVariants.{Gathering}
use Rattle.lister.specs.Owed.{behind, owed_by, owed}
use Rattle.lister.specs.Runs.{first, Run, rests, steps}
use Rattle.lister.specs.Steps.{step_of, line_room, GoodWork, Good}
use Rattle.lister.proofs.Bounds.{reach, step_reach}
use Rattle.lister.proofs.KeepsGood.{step_good}
use Rattle.lister.proofs.Owes.{under_way, step_counts}

-- what a run gives, by what was owed
pub record Gave (listed : Listed) (output : List ℕ) (after : Holding) : Type 0 where
  pub text : output ≡ listed.text
  pub held : mask_of after ≡ listed.held
  pub fine : sound after ≡ true

-- at rest nothing is owed
rests_owed : (work : Work) (held : Held) (k : ℕ) (line : List ℕ) → work ≡ Gathering 0 → owed_by work held k line [] ≡ record { text = []; held = held }
unfolding owed_by lines_from list_lines
rests_owed work held k line e = rw e

gave_behind : {listed : Listed} {output : List ℕ} {after : Holding} (text : List ℕ) → Gave listed output after → Gave (behind text listed) (text ++ output) after
unfolding behind
gave_behind text g = record { text = ap (λ (l : List ℕ). text ++ l) g.text; held = g.held; fine = g.fine }

pub runs_owe : {s : State} {line : List ℕ} {rows : List ℤ} {input output : List ℕ} {after : Holding} → Run s line rows input output after
    → Good s line rows → reach s input < 2 ^ 64 → Gave (owed s line input) output after
unfolding reach
runs_owe {s = s} {line = line} (rests e) good few =
    rw (rests_owed s.work (mask_of s.holding) s.number line e) (record { text = refl; held = refl; fine = good.held })
runs_owe {s = s} {line = line} {rows = rows} (steps piece rest last run) good few =
    rw (step_counts s line rows piece rest good last (omega arith))
    (gave_behind (step_of s line rows piece).text
    (runs_owe run (step_good s line rows piece good) (omega (arith, step_reach s line rows rest piece))))

-- a holding that is good, a line and a row buffer that are large enough, an input of fewer than 2 ^ 64 - 1 bytes
module _ (holding : Holding) (fine : sound holding ≡ true) (line : List ℕ) (rows : List ℤ) (large : line_room ≤ length line) (room : row_room ≤ length rows)
    (input : List ℕ) (few : 1 + length input < 2 ^ 64) where
  gave : {output : List ℕ} {after : Holding} → Run (first holding) line rows input output after → Gave (listing (mask_of holding) input) output after
  unfolding owed_by listing reach under_way GoodWork
  gave run = runs_owe run (record { held = fine; room = large; numbers = room; work = omega arith }) few

  pub runs_list : {output : List ℕ} {after : Holding} → Run (first holding) line rows input output after
      → (output ≡ (listing (mask_of holding) input).text) × (mask_of after ≡ (listing (mask_of holding) input).held)
  runs_list run = ((gave run).text, (gave run).held)

  -- and it is good, the picture of what the listing holds
  pub runs_hold : {output : List ℕ} {after : Holding} → Run (first holding) line rows input output after
      → (sound after ≡ true) × (after ≡ picture_of (listing (mask_of holding) input).held)
  runs_hold {after = after} run = ((gave run).fine, sym (sounds after (gave run).fine).picture ∙ ap picture_of (gave run).held)
