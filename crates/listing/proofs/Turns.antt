-- What a step is made under stays, and it takes no more than there is. Assumes nothing.
use mathlib.Core.Path.{◌≡◌, sym, ap, subst}
use mathlib.Core.List.{List}
use Prim.Native.Nat.{ℕ, ◌≤◌}
use native.Mathlib.Omega.{arith}
use lib.IntN.{ℤ}
use lib.ListN.{length, take}
use Rattle.format.specs.Listing.{line_says}
use Rattle.lister.specs.declared.Work.{Work}
use Rattle.lister.specs.declared.Work.TheVariants.{Gathering, Whole, Walking}
use Rattle.lister.specs.declared.State.{State}
use Rattle.lister.specs.declared.Step.{Step}
use Rattle.lister.specs.Steps.{gathers, step_by, step_of, answered, Good}
use Rattle.reader.specs.Readings.{outcome_at}
use Rattle.lister.proofs.KeepsGood.{step_good}
use Rattle.lister.proofs.LineFeeds.{up_to_le}
use Rattle.lister.proofs.Owes.{opens_takes, lists_takes}

takes : (w : Work) (s : State) (line : List ℕ) (rows : List ℤ) (piece : List ℕ) → (step_by w s line rows piece).taken ≤ length piece
unfolding step_by gathers
takes (Gathering filled) s line rows piece = up_to_le piece
takes (Whole filled) s line rows piece = omega (arith, opens_takes s (line_says (take filled line)) line rows)
takes (Walking bits tally) s line rows piece = omega (arith, lists_takes s bits tally (outcome_at s.holding line bits tally.place rows) line rows)

module _ (s : State) (line : List ℕ) (rows : List ℤ) (piece : List ℕ) (r : Step) (said : r ≡ answered (step_of s line rows piece)) where
  pub made_takes : r.taken ≤ length piece
  made_takes = omega (arith, ap (λ (x : Step). x.taken) said, takes s.work s line rows piece)

  pub made_good : (after : List ℕ) → after ≡ (step_of s line rows piece).line → (numbers : List ℤ) → numbers ≡ (step_of s line rows piece).rows → Good s line rows
      → Good r.state after numbers
  made_good after a numbers n good =
      let state = ap (λ (x : Step). x.state) said in
      subst (λ (x : State). Good x after numbers) (sym state)
      (subst (λ (l : List ℕ). Good (step_of s line rows piece).state l numbers) (sym a)
      (subst (Good (step_of s line rows piece).state (step_of s line rows piece).line) (sym n) (step_good s line rows piece good)))
