-- A step is the one that its work makes. Assumes nothing.
use mathlib.Core.Path.{◌≡◌, refl, sym, subst}
use mathlib.Core.List.{List}
use Prim.Native.Nat.{ℕ, ◌≤◌}
use native.Mathlib.Omega.{arith}
use lib.IntN.{ℤ}
use lib.ListN.{length, take}
use lib.Seq.{sets}
use Rattle.format.specs.Listing.{Line, says, bad, line_says}
use Rattle.format.specs.Reading.{Outcome, accepted, idle, refused}
use Rattle.lister.specs.declared.gather.Gathered.{Gathered}
use Rattle.lister.specs.declared.Work.{Work}
use Rattle.lister.specs.declared.Work.TheVariants.{Gathering, Whole, Walking}
use Rattle.lister.specs.declared.State.{State}
use Rattle.lister.specs.declared.Step.{Step}
use Rattle.lister.specs.Gathering.{up_to, kept_in, gathered}
use Rattle.lister.specs.Steps.{Done, working, gathers, opens_as, stops_as, lists_as, listed_at, step_by, step_of, answered, GoodWork, Good}
use Rattle.lister.proofs.Said.{Opens}
use Rattle.walk.specs.declared.Tally.{Tally}
use Rattle.walk.specs.Standing.{stand_at, Stands}

-- what the code answers and leaves is what a step does
abbrev pub Made : Done → List ℕ → Step → List ℕ → List ℤ → List ℕ → Type 0
Made d out result line rows text = (result ≡ answered d) × ((line ≡ d.line) × ((rows ≡ d.rows) × (text ≡ sets out 0 d.text)))

-- opening a line changes no rows, and listing no line
opens_rows : (s : State) (t : Line) (line : List ℕ) (rows : List ℤ) → rows ≡ (opens_as s t line rows).rows
unfolding opens_as
opens_rows s (says l) line rows = refl
opens_rows s bad line rows = refl

lists_line : (s : State) (bits : ℕ) (tally : Tally) (o : Outcome) (line : List ℕ) (rows : List ℤ) → line ≡ (lists_as s bits tally o line rows).line
unfolding lists_as stops_as
lists_line s bits tally (accepted m next) line rows = refl
lists_line s bits tally (idle holding) line rows = refl
lists_line s bits tally (refused r missing holding) line rows = refl

module _ (s : State) (line : List ℕ) (rows : List ℤ) (piece out : List ℕ) where
  -- by the work
  by_work : (w : Work) → s.work ≡ w → (result : Step) (after : List ℕ) (numbers : List ℤ) (text : List ℕ)
      → Made (step_by w s line rows piece) out result after numbers text → Made (step_of s line rows piece) out result after numbers text
  by_work w e result after numbers text it = subst (λ (x : Work). Made (step_by x s line rows piece) out result after numbers text) (sym e) it

  pub gathers_made : (filled : ℕ) → s.work ≡ Gathering filled → (g : Gathered) (after : List ℕ)
      → (g ≡ record { work = gathered (length line) filled piece; taken = up_to piece }) × (after ≡ kept_in line filled (take (up_to piece) piece))
      → Made (step_of s line rows piece) out (record { state = working s g.work; taken = g.taken; given = 0 }) after rows out
  unfolding step_by gathers
  gathers_made filled e g after told =
      by_work (Gathering filled) e _ _ _ _
      ((λ i. record { state = working s (told.0 i).work; taken = (told.0 i).taken; given = 0 }), (told.1, (refl, refl)))

  pub opens_made : (filled : ℕ) → s.work ≡ Whole filled → (result : Step) (after text : List ℕ)
      → Opens s (line_says (take filled line)) line out result after text → Made (step_of s line rows piece) out result after rows text
  unfolding step_by
  opens_made filled e result after text told =
      by_work (Whole filled) e _ _ _ _ (told.0 rows, (told.1.0 rows, (opens_rows s (line_says (take filled line)) line rows, told.1.1 rows)))

  pub lists_made : (bits : ℕ) (tally : Tally) → s.work ≡ Walking bits tally → (result : Step) (numbers : List ℤ) (text : List ℕ)
      → (result ≡ answered (listed_at s bits tally line rows)) × ((numbers ≡ (listed_at s bits tally line rows).rows) × (text ≡ sets out 0 (listed_at s bits tally line rows).text))
      → Made (step_of s line rows piece) out result line numbers text
  unfolding step_by
  lists_made bits tally e result numbers text told =
      by_work (Walking bits tally) e _ _ _ _ (told.0, (lists_line s bits tally _ line rows, told.1))

-- ---- what each is made under

module _ (s : State) (line : List ℕ) (rows : List ℤ) (good : Good s line rows) where
  pub gathers_under : (filled : ℕ) → s.work ≡ Gathering filled → filled ≤ length line
  unfolding GoodWork
  gathers_under filled e = subst (λ (w : Work). GoodWork w (length line)) e good.work

  pub opens_under : (filled : ℕ) → s.work ≡ Whole filled → filled ≤ length line
  unfolding GoodWork
  opens_under filled e = subst (λ (w : Work). GoodWork w (length line)) e good.work

  pub lists_under : (bits : ℕ) (tally : Tally) → s.work ≡ Walking bits tally → Stands line bits (stand_at s.holding tally rows)
  unfolding GoodWork
  lists_under bits tally e =
      let work : GoodWork (Walking bits tally) (length line) = subst (λ (w : Work). GoodWork w (length line)) e good.work in
      record {
        held = good.held;
        lent = omega (arith, work.0, good.room);
        limit = work.0;
        there = work.1;
        room = good.numbers;
        few = work.2;
        rows = work.3;
      }
