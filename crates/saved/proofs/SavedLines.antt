-- Saving by its tests: how it ends, what the buffer holds then, and that what is saved loads back. Assumes nothing.
use mathlib.Core.Path.{◌≡◌, refl, sym, ap, ◌∙◌}
use mathlib.Core.Bool.{Bool, true, false, false≢true}
use mathlib.Core.List.{List, ◌++◌}
use Prim.Native.Nat.{ℕ, ◌≤◌, ◌<◌}
use native.Mathlib.Nat.{zero-add}
use lib.Dec.{leb}
use lib.ListN.{length, take, drop}
use lib.Seq.{sets, sets-eq, take-append_seam}
use borrow.Author.Tests.{le-leb, lt-leb, leb-true, leb-false}
use Rattle.format.proofs.SavedForm.{load_line}
use Rattle.format.specs.declared.Refusal.{Refusal}
use Rattle.format.specs.declared.Refusal.TheVariants.{Room, Value}
use Rattle.format.specs.Good.{good, is_holding}
use Rattle.format.specs.Masks.{held_in}
use Rattle.format.specs.Saved.{line_of, loaded, load, Saved, saved, unsaved, saving, done_saving, buffer_after}
use Rattle.format.specs.Tests.{verdict}
use Rattle.holding.proofs.Sounds.{sounds}
use Rattle.holding.specs.declared.Holding.{Holding}
use Rattle.holding.specs.Pictures.{mask_of, sound, lent_by}
use Rattle.saved.specs.Saves.{saving_by, done_by}

-- a text from the first byte on
pub text_over : (text buffer : List ℕ) → length text ≤ length buffer → sets buffer 0 text ≡ text ++ drop (length text) buffer
text_over text buffer long = sets-eq text buffer 0 (rw zero-add long) ∙ rw zero-add

module _ (h : Holding) (buffer : List ℕ) where
  abbrev line : List ℕ
  line = line_of (mask_of h)

  -- 12 before 1
  pub not_sound : sound h ≡ false → saving (lent_by h) buffer ≡ unsaved Value
  unfolding saving lent_by is_holding verdict
  not_sound off = rw off

  module _ (on : sound h ≡ true) where
    holds : good (mask_of h) ≡ true
    holds = (sounds h on).good_held

    pub no_room : length buffer < length line → saving (lent_by h) buffer ≡ unsaved Room
    unfolding saving lent_by is_holding held_in verdict
    no_room short = rw (on, holds, lt-leb (length line) (length buffer) short)

    pub finds_room : length line ≤ length buffer → saving (lent_by h) buffer ≡ saved (length line)
    unfolding saving lent_by is_holding held_in verdict
    finds_room long = rw (on, holds, le-leb (length line) (length buffer) long)

    loads : load (take (length line) (buffer_after (saved (length line)) (mask_of h) buffer)) ≡ loaded (mask_of h)
    unfolding buffer_after
    loads = ap load (take-append_seam line (drop (length line) buffer)) ∙ load_line (mask_of h) holds

-- ---- what is saved loads back

never : (r : Refusal) (n : ℕ) → unsaved r ≡ saved n → ⊥
never r n e = false≢true cc

same_size : (m n : ℕ) → saved m ≡ saved n → n ≡ m
same_size m n e = cc

-- from the first n bytes, where the answer was n
pub saved_loads : (h : Holding) (buffer : List ℕ) (n : ℕ) → saving (lent_by h) buffer ≡ saved n
    → load (take n (buffer_after (saving (lent_by h) buffer) (mask_of h) buffer)) ≡ loaded (mask_of h)
saved_loads h buffer n e = go (sound h) refl (leb (length (line_of (mask_of h))) (length buffer)) refl
  where
    go : (a : Bool) → sound h ≡ a → (b : Bool) → leb (length (line_of (mask_of h))) (length buffer) ≡ b
        → load (take n (buffer_after (saving (lent_by h) buffer) (mask_of h) buffer)) ≡ loaded (mask_of h)
    go false off b f = absurd (never Value n (sym (not_sound h buffer off) ∙ e))
    go true on false f = absurd (never Room n (sym (no_room h buffer on (leb-false _ _ f)) ∙ e))
    go true on true f =
        let is = finds_room h buffer on (leb-true _ _ f) in
        rw (is, same_size (length (line_of (mask_of h))) n (sym is ∙ e)) (loads h buffer on)

-- ---- what the code answers is the paper's answer

pub saving_said : (s : Saved) → done_by (saving_by s) ≡ done_saving s
unfolding done_by saving_by done_saving
saving_said (saved n) = refl
saving_said (unsaved r) = refl
