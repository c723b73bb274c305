-- A caller that makes steps one after another until nothing is left, with pieces of the input of any size.
use Rattle.std.specs.Prelude.{◌≡◌, List, [], ◌++◌, ℕ, ℤ, drop}
use Rattle.holding.specs.declared.Holding.{Holding}
use Rattle.lister.specs.declared.State.{State}
use Rattle.lister.specs.declared.Work.TheVariants.{Gathering}
use Rattle.lister.specs.Steps.{step_of}

-- before the first line
abbrev pub first : Holding → State
first holding = record { number = 1; work = Gathering 0; holding = holding }

-- From a state, with what the line and the row buffer hold, on an input: the text that all steps give together, and what is held then.
-- A step is handed some first bytes of the input that is left, and none only where none is left; what it does not take is handed to a later one.
pub data Run : State → List ℕ → List ℤ → List ℕ → List ℕ → Holding → Type 0 where
  rests : {s : State} {line : List ℕ} {rows : List ℤ} → s.work ≡ Gathering 0 → Run s line rows [] [] s.holding
  steps : {s : State} {line : List ℕ} {rows : List ℤ} (piece rest : List ℕ) {output : List ℕ} {after : Holding} → (piece ≡ [] → rest ≡ [])
      → Run (step_of s line rows piece).state (step_of s line rows piece).line (step_of s line rows piece).rows (drop (step_of s line rows piece).taken piece ++ rest) output after
      → Run s line rows (piece ++ rest) ((step_of s line rows piece).text ++ output) after
