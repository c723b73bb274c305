-- Loading by its tests: how it ends, and what it says on paper. Assumes nothing.
use mathlib.Core.Path.{◌≡◌, refl, sym, ap, ◌∙◌}
use mathlib.Core.Bool.{Bool, true, false, cond, ◌&&◌, false≢true}
use mathlib.Core.List.{List, []}
use Prim.Native.Nat.{ℕ}
use lib.Dec.{eqb}
use lib.ListN.{replicate}
use borrow.Author.Tests.{eqb-true}
use Rattle.std.specs.Prelude.{Ok, Err}
use Rattle.format.proofs.Sames.{same_list_sound, same_list_refl, eqb_refl}
use Rattle.format.proofs.SavedForm.{load_line, line_load}
use Rattle.format.specs.declared.Refusal.TheVariants.{Value}
use Rattle.format.specs.Good.{good}
use Rattle.format.specs.Masks.{Held, nothing}
use Rattle.format.specs.Same.{same_list}
use Rattle.format.specs.Saved as Saved
use Rattle.format.specs.Saved.{line_of, held_from, loaded, unloaded, load, done_loading, held_loaded}
use Rattle.format.specs.Text.{fields_from}
use Rattle.holding.proofs.Pictured.{mask_picture, sound_picture, picture_sound}
use Rattle.holding.specs.declared.Holding.{Holding}
use Rattle.holding.specs.declared.Outline.{Outline}
use Rattle.holding.specs.Outlines.{outline_of}
use Rattle.holding.specs.Pictures.{picture_of, mask_of, sound}
use Rattle.saved.specs.Loads.{loading_of, loading_by, done_loaded}
use Rattle.saved.proofs.MasksSaid.{empty_whole}

-- a line that is loaded to nothing is refused with 12
not_loaded : (line : List ℕ) → ((held : Held) → load line ≡ loaded held → ⊥) → load line ≡ unloaded Value
unfolding load
not_loaded line never =
    let held = held_from (fields_from [] line) in
    go held (good held && same_list eqb (line_of held) line) never
  where
    go : (held : Held) (b : Bool) → ((g : Held) → cond b (loaded held) (unloaded Value) ≡ loaded g → ⊥) → cond b (loaded held) (unloaded Value) ≡ unloaded Value
    go held true other = absurd (other held refl)
    go held false other = refl

-- the holding that a line would say, if it is a good one's line
module _ (line : List ℕ) (h : Holding) (would : (held : Held) → good held ≡ true → line_of held ≡ line → h ≡ picture_of held) where
  -- a line that is loaded is this holding's own
  own_line : (held : Held) → load line ≡ loaded held → (sound h ≡ true) × (same_list eqb (line_of (mask_of h)) line ≡ true)
  own_line held e =
      let parts = line_load line held e in
      let is = would held parts.1 parts.0 in
      let text : line_of (mask_of h) ≡ line = ap (λ (g : Holding). line_of (mask_of g)) is ∙ ap line_of (mask_picture held parts.1) ∙ parts.0 in
      (ap sound is ∙ sound_picture held parts.1, rw text (same_list_refl eqb eqb_refl line))

  pub not_sound : sound h ≡ false → load line ≡ unloaded Value
  not_sound off = not_loaded line (λ held e. false≢true (sym off ∙ (own_line held e).0))

  pub not_own : same_list eqb (line_of (mask_of h)) line ≡ false → load line ≡ unloaded Value
  not_own off = not_loaded line (λ held e. false≢true (sym off ∙ (own_line held e).1))

  pub is_loaded : sound h ≡ true → same_list eqb (line_of (mask_of h)) line ≡ true → loading_by (load line) ≡ record { answer = Ok tt; holding = h }
  unfolding loading_by
  is_loaded on same =
      let sounds = picture_sound h on in
      let loads : load line ≡ loaded (mask_of h) = ap load (sym (same_list_sound eqb eqb-true (line_of (mask_of h)) line same)) ∙ load_line (mask_of h) sounds.0 in
      ap loading_by loads ∙ ap (λ (g : Holding). record { answer = Ok tt; holding = g }) sounds.1

-- the empty holding in parts beside a refusal
pub is_refused : (line : List ℕ) → load line ≡ unloaded Value → {o : Outline} → o ≡ outline_of (picture_of nothing)
    → loading_of (record { answer = Err Value; outline = o }) (replicate 5 0) (replicate 64 0) ≡ loading_by (load line)
unfolding loading_by
is_refused line off empty = ap (λ (h : Holding). record { answer = Err Value; holding = h }) (empty_whole empty) ∙ sym (ap loading_by off)

-- ---- what the code answers is the paper's answer

pub loading_said : (line : List ℕ) (l : Saved.Loaded) → (done_loaded line (loading_by l).answer ≡ done_loading line l) × ((loading_by l).holding ≡ picture_of (held_loaded l))
unfolding done_loaded loading_by done_loading held_loaded
loading_said line (loaded held) = (refl, refl)
loading_said line (unloaded r) = (refl, refl)
