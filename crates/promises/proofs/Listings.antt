-- The texts of all calls of `advance`, put together, are the listing, whatever the sizes of the pieces of input. Assumes nothing.
use mathlib.Core.Path.{◌≡◌, refl, sym, ap, subst, ◌∙◌}
use mathlib.Core.Bool.{true}
use mathlib.Core.List.{List, [], ◌++◌}
use Prim.Native.Nat.{ℕ, ◌+◌, ◌^◌, ◌≤◌, ◌<◌}
use native.Mathlib.Omega.{arith}
use lib.IntN.{ℤ}
use lib.ListN.{length, take, drop}
use lib.Seq.{sets, sets-eq, take_at}
use Rattle.format.specs.Listing.{listing}
use Rattle.format.specs.Reading.{row_room}
use Rattle.holding.specs.declared.Holding.{Holding}
use Rattle.holding.specs.Pictures.{mask_of, sound}
use Rattle.lister.specs.declared.State.{State}
use Rattle.lister.specs.declared.Step.{Step}
use Rattle.lister.specs.Runs.{first, Run, rests, steps}
use Rattle.lister.specs.Steps.{Done, step_of, line_room}
use Rattle.lister.proofs.RunsList.{runs_list}
use Rattle.promises.specs.Listings.{AdvanceCall, Listings, ends, goes}

-- a text that was stored at a buffer's front
front_text_lem : (out text : List ℕ) → length text ≤ length out → take (length text) (sets out 0 text) ≡ text
front_text_lem out text room = ap (take (length text)) (sets-eq text out 0 (omega arith)) ∙ take_at text _ (length text) refl

-- what a call gives is the step's text
module _ {s : State} {line left : List ℕ} {rows numbers : List ℤ} {piece out text : List ℕ} {result : Step} (c : AdvanceCall s line rows piece out result left numbers text) where
  abbrev d : Done
  d = step_of s line rows piece

  given_text : d.text ≡ take result.given text
  given_text =
      let e = c.allowed in
      let long : result.given ≡ length d.text = ap (λ (x : Step). x.given) e.0 in
      sym (ap (take result.given) e.1.1.1.0 ∙ ap (λ (n : ℕ). take n (sets out 0 d.text)) long ∙ front_text_lem out d.text (omega (arith, long, e.1.1.1.1, c.room)))

  -- so it is a step of a run
  one_step : (rest output : List ℕ) (after : Holding) → (piece ≡ [] → rest ≡ []) → Run result.state left numbers (drop result.taken piece ++ rest) output after
      → Run s line rows (piece ++ rest) (take result.given text ++ output) after
  one_step rest output after last run =
      let e = c.allowed in
      let a = subst (λ (x : Step). Run x.state left numbers (drop x.taken piece ++ rest) output after) e.0 run in
      let b = subst (λ (l : List ℕ). Run d.state l numbers (drop d.taken piece ++ rest) output after) e.1.0 a in
      let f = subst (λ (w : List ℤ). Run d.state d.line w (drop d.taken piece ++ rest) output after) e.1.1.0 b in
      subst (λ (t : List ℕ). Run s line rows (piece ++ rest) (t ++ output) after) given_text (steps piece rest last f)

-- calls are a run
pub calls_run : {s : State} {line : List ℕ} {rows : List ℤ} {input output : List ℕ} {after : Holding} → Listings s line rows input output after → Run s line rows input output after
calls_run (ends e) = rests e
calls_run (goes piece rest {output = output} {after = after} last call more) = one_step call rest output after last (calls_run more)

-- so what they give is the listing, from a sound holding on, with a line and a row buffer that are large enough
pub calls_list : (holding : Holding) → sound holding ≡ true → (line : List ℕ) (rows : List ℤ) → line_room ≤ length line → row_room ≤ length rows
    → (input : List ℕ) → 1 + length input < 2 ^ 64 → {output : List ℕ} {after : Holding} → Listings (first holding) line rows input output after
    → (output ≡ (listing (mask_of holding) input).text) × (mask_of after ≡ (listing (mask_of holding) input).held)
calls_list holding fine line rows large room input few calls = runs_list holding fine line rows large room input few (calls_run calls)
