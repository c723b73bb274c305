-- What a whole line comes to, by what the code says that it says. Assumes nothing.
use mathlib.Core.Path.{◌≡◌, refl, ap, ◌∙◌}
use mathlib.Core.List.{List}
use Prim.Native.Nat.{ℕ, ◌+◌, ◌/◌}
use lib.IntN.{ℤ}
use lib.ListN.{length, take, drop}
use lib.Seq.{sets}
use Rattle.format.specs.Listing as Listing
use Rattle.format.specs.Text.{hex_bits}
use Rattle.lines.proofs.SaidStretches.{SaysSo, says_bytes}
use Rattle.lister.specs.declared.State.{State}
use Rattle.lister.specs.declared.Step.{Step}
use Rattle.lister.specs.declared.Work.TheVariants.{Walking}
use Rattle.lister.specs.Steps.{start, working, next_line, opens_as, answered}

-- the step is the one that the line makes
abbrev pub Opens : State → Listing.Line → List ℕ → List ℕ → Step → List ℕ → List ℕ → Type 0
Opens s t line out result left text =
    ((rows : List ℤ) → result ≡ answered (opens_as s t line rows))
    × (((rows : List ℤ) → left ≡ (opens_as s t line rows).line)
    × ((rows : List ℤ) → text ≡ sets out 0 (opens_as s t line rows).text))

module _ (s : State) (line out : List ℕ) where
  pub bad_opens : (t : Listing.Line) → t ≡ Listing.bad → (next : State) → next ≡ next_line s s.holding → (given : ℕ) (text : List ℕ)
      → (given ≡ length (Listing.bad_text s.number)) × (text ≡ sets out 0 (Listing.bad_text s.number))
      → Opens s t line out (record { state = next; taken = 0; given = given }) line text
  unfolding opens_as
  bad_opens t e next then given text told =
      rw e ((λ rows. λ i. record { state = then i; taken = 0; given = told.0 i }), ((λ rows. refl), λ rows. told.1))

  -- the digits from a place on, as bytes
  abbrev bytes_in : ℕ → ℕ → List ℕ
  bytes_in first n = Listing.bytes_said (take n (hex_bits (take ((n + 3) / 4) (drop first line))))

  pub says_opens : (filled bits first : ℕ) (it : SaysSo (Listing.line_says (take filled line)) bits first) (left : List ℕ) → left ≡ sets line 0 (bytes_in first bits)
      → Opens s (Listing.line_says (take filled line)) line out (record { state = working s (Walking bits start); taken = 0; given = 0 }) left out
  unfolding opens_as
  says_opens filled bits first it left e =
      rw it.same ((λ rows. λ i. record { state = working s (Walking (it.long i) start); taken = 0; given = 0 }), ((λ rows. e ∙ ap (sets line 0) (says_bytes line filled it)), λ rows. refl))
