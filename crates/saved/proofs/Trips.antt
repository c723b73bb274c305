-- Both trips, for any outcome that the contracts of `save` and `load` allow, wherever the line lies: what is saved loads back as the very holding, and what is
-- loaded saves back as the very line. Assumes nothing.
use mathlib.Core.Path.{◌≡◌, refl, sym, ap, ◌∙◌}
use mathlib.Core.Bool.{Bool, true, false, false≢true}
use mathlib.Core.List.{List, ◌++◌}
use Prim.Native.Nat.{ℕ, ◌≤◌}
use contract.Lifetimes.{Lfts}
use denote.Ref.{Bor, MutBor, at_last}
use denote.Triple.Clauses.{at_exit}
use borrow.Fn.Kinds.{ended_of}
use lib.ListN.{length, take, drop}
use Rattle.std.specs.Prelude.{Result, Ok, Err}
use Rattle.format.proofs.SavedForm.{line_load}
use Rattle.format.specs.declared.Refusal.{Refusal}
use Rattle.format.specs.declared.Refusal.TheVariants.{Value}
use Rattle.format.specs.Saved as Saved
use Rattle.format.specs.Saved.{line_of, loaded, unloaded, load, saved, unsaved, saving, buffer_after}
use Rattle.holding.proofs.Pictured.{mask_picture, sound_picture, picture_sound}
use Rattle.holding.specs.declared.Holding.{Holding}
use Rattle.holding.specs.Pictures.{mask_of, sound, lent_by}
use Rattle.saved.specs.declared.Loading.{Loading}
use Rattle.saved.specs.Loads.{loading_by}
use Rattle.saved.specs.Saves.{saving_by}
use Rattle.saved.proofs.SavedLines.{not_sound, finds_room, saved_loads}
use Rattle.saved.proofs.save.Kinds as save-kinds
use Rattle.saved.proofs.save.Reads as save-reads
use Rattle.saved.proofs.load.Kinds as load-kinds
use Rattle.saved.proofs.load.Reads as load-reads

-- ---- a call as its contract allows it

-- `save` of a holding into a buffer: what it answers, and what the buffer holds then
pub record SaveCall (h : Holding) (buffer : List ℕ) (answer : Result ℕ Refusal) (after : List ℕ) : Type 0 where
  pub κs : Lfts 1
  pub lent : MutBor (List ℕ)
  pub allowed :
      save-reads.Learnt κs (h, (at_last lent buffer, tt)) answer
      (at_exit (ended_of 1 save-kinds.ps save-kinds.r) κs (h, (at_last lent buffer, tt)) (tt, (after, tt)))

-- `load` of a line: what it answers
pub record LoadCall (line : List ℕ) (got : Loading) : Type 0 where
  pub κs : Lfts 1
  pub lies : ℕ × ℕ
  pub allowed : let lent : Bor (List ℕ) = record { ref_ptr = lies; now = line } in
      load-reads.Learnt κs (lent, tt) got (at_exit (ended_of 1 load-kinds.ps load-kinds.r) κs (lent, tt) (tt, tt))

answers : {h : Holding} {buffer : List ℕ} {answer : Result ℕ Refusal} {after : List ℕ} → SaveCall h buffer answer after → answer ≡ saving_by (saving (lent_by h) buffer)
answers c = c.allowed.0

leaves : {h : Holding} {buffer : List ℕ} {answer : Result ℕ Refusal} {after : List ℕ} → SaveCall h buffer answer after → after ≡ buffer_after (saving (lent_by h) buffer) (mask_of h) buffer
leaves c = c.allowed.1

loads : {line : List ℕ} {got : Loading} → LoadCall line got → got ≡ loading_by (load line)
loads c = c.allowed

-- ---- a holding, saved and loaded

never_saved : (r : Refusal) (n : ℕ) → ◌≡◌ {A = Result ℕ Refusal} (Err r) (Ok n) → ⊥
never_saved r n e = false≢true cc

-- an answer of a length is a saved line
is_saved : (s : Saved.Saved) (n : ℕ) → saving_by s ≡ Ok n → s ≡ saved n
unfolding saving_by
is_saved (saved m) n e = cc
is_saved (unsaved r) n e = absurd (never_saved r n e)

-- only a sound holding is saved
saved_sound : (h : Holding) (buffer : List ℕ) (n : ℕ) → saving (lent_by h) buffer ≡ saved n → sound h ≡ true
unfolding saving_by
saved_sound h buffer n e = go (sound h) refl
  where
    go : (b : Bool) → sound h ≡ b → sound h ≡ true
    go true on = on
    go false off = absurd (never_saved Value n (ap saving_by (sym (not_sound h buffer off) ∙ e)))

module _ {h : Holding} {buffer : List ℕ} {answer : Result ℕ Refusal} {after : List ℕ} (c : SaveCall h buffer answer after) where
  -- what is saved, cut at the length that was answered, loads back as the very holding
  pub saved_back : (n : ℕ) → answer ≡ Ok n → (got : Loading) → LoadCall (take n after) got → got ≡ record { answer = Ok tt; holding = h }
  unfolding loading_by
  saved_back n is got back =
      let e : saving (lent_by h) buffer ≡ saved n = is_saved (saving (lent_by h) buffer) n (sym (answers c) ∙ is) in
      let on = saved_sound h buffer n e in
      loads back
      ∙ ap (λ (l : List ℕ). loading_by (load (take n l))) (leaves c)
      ∙ ap loading_by (saved_loads h buffer n e)
      ∙ ap (λ (g : Holding). record { answer = Ok tt; holding = g }) (picture_sound h on).1

  -- and each sound holding is saved where there is room
  pub sound_saved : sound h ≡ true → length (line_of (mask_of h)) ≤ length buffer → answer ≡ Ok (length (line_of (mask_of h)))
  unfolding saving_by
  sound_saved on room = answers c ∙ ap saving_by (finds_room h buffer on room)

-- ---- a line, loaded and saved

never_loaded : (r : Refusal) → ◌≡◌ {A = Result (Unit {0}) Refusal} (Err r) (Ok tt) → ⊥
never_loaded r e = false≢true cc

-- what was loaded is the picture of a good holding whose line it is
record Own (line : List ℕ) (h : Holding) : Type 0 where
  pub fine : sound h ≡ true
  pub text : line_of (mask_of h) ≡ line

own_line : (line : List ℕ) (l : Saved.Loaded) → load line ≡ l → (loading_by l).answer ≡ Ok tt → Own line (loading_by l).holding
unfolding loading_by
own_line line (loaded held) e is =
    let parts = line_load line held e in
    record { fine = sound_picture held parts.1; text = ap line_of (mask_picture held parts.1) ∙ parts.0 }
own_line line (unloaded r) e is = absurd (never_loaded r is)

module _ {line : List ℕ} {got : Loading} (c : LoadCall line got) (is : got.answer ≡ Ok tt) where
  own : Own line got.holding
  own =
      rw (loads c) (own_line line (load line) refl (sym (ap (λ (l : Loading). l.answer) (loads c)) ∙ is))

  -- saved into a buffer that has room for it, it answers the line's length and leaves the line; later bytes stay
  pub loaded_back : {buffer : List ℕ} {answer : Result ℕ Refusal} {after : List ℕ} → SaveCall got.holding buffer answer after → length line ≤ length buffer
      → (answer ≡ Ok (length line)) × (after ≡ line ++ drop (length line) buffer)
  unfolding saving_by buffer_after
  loaded_back {buffer} s room =
      let h = got.holding in
      let long : length (line_of (mask_of h)) ≡ length line = ap length own.text in
      let e : saving (lent_by h) buffer ≡ saved (length (line_of (mask_of h))) = finds_room h buffer own.fine (rw long room) in
      (answers s ∙ ap saving_by e ∙ ap Ok long, leaves s ∙ rw (e, own.text))
