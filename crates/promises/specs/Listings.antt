-- A caller that lists an input by the steps of `advance`: pieces of it go in, the text of each step comes out at the front of a lent buffer.
use Rattle.std.specs.Prelude.{◌≡◌, List, [], ◌++◌, ℕ, ◌≤◌, ℤ, length, take, drop}
use contract.Lifetimes.{Lfts}
use denote.Ref.{Bor, MutBor, at_last}
use Rattle.holding.specs.declared.Holding.{Holding}
use Rattle.lines.specs.Records.{message_room}
use Rattle.lister.specs.declared.State.{State}
use Rattle.lister.specs.declared.Step.{Step}
use Rattle.lister.specs.declared.Work.TheVariants.{Gathering}
use Rattle.lister.proofs as lister
use Rattle.promises.specs.Determination.{Allows}

-- a call as the contract of `advance` allows it, for slices of these contents, wherever they lie; what it leaves in them
pub record AdvanceCall (s : State) (line : List ℕ) (rows : List ℤ) (piece out : List ℕ) (result : Step) (left : List ℕ) (numbers : List ℤ) (text : List ℕ) : Type 0 where
  pub κs : Lfts 4
  pub line_lent : MutBor (List ℕ)
  pub rows_lent : MutBor (List ℤ)
  pub piece_lent : Bor (List ℕ)
  pub out_lent : MutBor (List ℕ)
  pub room : message_room ≤ length out
  pub allowed :
      Allows lister.advance.Kinds.ps lister.advance.Kinds.r lister.advance.Reads.Learnt κs
      (s, (at_last line_lent line, (at_last rows_lent rows, (record piece_lent { now = piece }, (at_last out_lent out, tt))))) result (tt, (left, (numbers, (tt, (text, tt)))))

-- Calls one after another, each with the state, the line and the row buffer that the one before left, until nothing is left: the texts put together, and what is
-- held then. A call is handed some first bytes of the input that is left, and none only where none is left.
pub data Listings : State → List ℕ → List ℤ → List ℕ → List ℕ → Holding → Type 0 where
  ends : {s : State} {line : List ℕ} {rows : List ℤ} → s.work ≡ Gathering 0 → Listings s line rows [] [] s.holding
  goes : {s : State} {line left : List ℕ} {rows numbers : List ℤ} (piece rest : List ℕ) {out text output : List ℕ} {result : Step} {after : Holding} → (piece ≡ [] → rest ≡ [])
      → AdvanceCall s line rows piece out result left numbers text
      → Listings result.state left numbers (drop result.taken piece ++ rest) output after
      → Listings s line rows (piece ++ rest) (take result.given text ++ output) after
