-- What is handed of lines of text: of one that is loaded, and of one that says a stretch. Assumes nothing.
use mathlib.Core.Path.{◌≡◌, refl, sym, ap, ◌∙◌}
use mathlib.Core.Bool.{true}
use mathlib.Core.List.{List, ◌++◌, append-nil}
use Prim.Native.Nat.{ℕ, ◌+◌, ◌/◌, ◌≤◌, ◌<◌}
use native.Mathlib.Nat.{zero-add}
use native.Mathlib.Omega.{arith}
use lib.ListN.{length, take, drop, drop_of_length-le}
use lib.Seq.{sets, sets-eq, take-length}
use borrow.Author.Tests.{le-leb, lt-leb}
use Rattle.format.specs.declared.Refusal.TheVariants.{Room, Value}
use Rattle.format.specs.Answers.{number_of}
use Rattle.format.specs.Good.{good}
use Rattle.format.specs.Listing.{Line, line_says, says, bad, bytes_said}
use Rattle.format.specs.Masks.{nothing}
use Rattle.format.specs.Reading.{over}
use Rattle.format.specs.Saved as Saved
use Rattle.format.specs.Saved.{loaded, unloaded, load}
use Rattle.format.specs.Tests.{verdict}
use Rattle.format.specs.Text.{hex_bits}
use Rattle.format.proofs.SavedForm.{line_load}
use Rattle.holding.specs.declared.Holding.{Holding}
use Rattle.holding.specs.Pictures.{picture_of, sound}
use Rattle.holding.proofs.Pictured.{sound_picture}
use Rattle.holding.proofs.Sounds.{sounds}
use Rattle.host.specs.declared.texts.Loaded.{Loaded}
use Rattle.host.specs.Texts.{done_number, answer_loaded, loaded_to, taken, untaken, is_stretch, stretch_in, taking}
use Rattle.lines.specs.declared.Line as Said
use Rattle.std.specs.Prelude.{Some}
use Rattle.lines.specs.Saying.{line_for}
use Rattle.lines.proofs.SaidStretches.{SaysSo, says_so, says_bytes, length_said}
use Rattle.passing.specs.Passing.{size, bytes_of}
use Rattle.passing.proofs.Returns.{bytes_length}
use Rattle.saved.specs.declared.Loading.{Loading}
use Rattle.saved.specs.Loads.{loading_by}

-- ---- a line that is loaded

-- a holding fills bytes that are just enough for it
fills : (h : Holding) → sound h ≡ true → (old : List ℕ) → length old ≡ size → over (bytes_of h) old ≡ bytes_of h
unfolding over
fills h fine old few =
    let long : length (bytes_of h) ≡ size = bytes_length h (sounds h fine).shaped in
    ap (λ (l : List ℕ). bytes_of h ++ l) (drop_of_length-le old {i = length (bytes_of h)} (omega (arith, long))) ∙ append-nil (bytes_of h)

-- what is handed of an answer to loading
abbrev pub handing : List ℕ → Loading → Loaded
handing old l = record { answer = answer_loaded l.answer; holding = over (bytes_of l.holding) old }

-- its holding is sound, and what is handed is what the line comes to
pub record Hands (l : Saved.Loaded) : Type 0 where
  pub fine : sound (loading_by l).holding ≡ true
  pub same : (old : List ℕ) → length old ≡ size → handing old (loading_by l) ≡ loaded_to l

pub hands : (line : List ℕ) → Hands (load line)
unfolding loading_by answer_loaded loaded_to good
hands line = go (load line) refl
  where
    go : (l : Saved.Loaded) → load line ≡ l → Hands l
    go (loaded held) e =
        let f = sound_picture held (line_load line held e).1 in
        record { fine = f; same = λ old few. λ i. record { answer = done_number; holding = fills (picture_of held) f old few i } }
    go (unloaded r) e =
        let f = sound_picture nothing refl in
        record { fine = f; same = λ old few. λ i. record { answer = number_of r; holding = fills (picture_of nothing) f old few i } }

-- ---- a line that says a stretch, or none

pub none_taken : (t : Line) (buffer : List ℕ) → t ≡ bad → taking t buffer ≡ untaken Value
unfolding taking is_stretch stretch_in verdict
none_taken t buffer e = rw e

-- the code's answer to a whole line
pub says_whole : (line : List ℕ) {said : Said.Line} → line_for (line_says line) ≡ Some said → SaysSo (line_says (take (length line) line)) said.bits said.first
says_whole line e = says_so _ (ap (λ (l : List ℕ). line_for (line_says l)) (take-length line) ∙ e)

module _ (line : List ℕ) {n first : ℕ} (it : SaysSo (line_says (take (length line) line)) n first) (buffer : List ℕ) where
  same : line_says line ≡ says it.stretch
  same = ap line_says (sym (take-length line)) ∙ it.same

  pub no_room : length buffer < (n + 7) / 8 → taking (line_says line) buffer ≡ untaken Room
  unfolding taking is_stretch stretch_in verdict
  no_room short = rw (same, lt-leb ((length it.stretch + 7) / 8) (length buffer) (omega (arith, it.long)))

  -- where there is room
  module _ (room : (n + 7) / 8 ≤ length buffer) where
    pub stretch_taken : taking (line_says line) buffer ≡ taken it.stretch
    unfolding taking is_stretch stretch_in verdict
    stretch_taken = rw (same, le-leb ((length it.stretch + 7) / 8) (length buffer) (omega (arith, it.long)))

    pub stretch_over : {left : List ℕ} → left ≡ sets buffer 0 (bytes_said (take n (hex_bits (take ((n + 3) / 4) (drop first line))))) → left ≡ over (bytes_said it.stretch) buffer
    unfolding over
    stretch_over e =
        e ∙ ap (sets buffer 0) (says_bytes line (length line) it)
        ∙ sets-eq (bytes_said it.stretch) buffer 0 (omega (arith, length_said it.stretch, it.long)) ∙ rw zero-add
