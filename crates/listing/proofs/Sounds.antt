-- What is loaded is sound, and what is saved lies within the buffer. Assumes nothing.
use mathlib.Core.Path.{◌≡◌, refl}
use mathlib.Core.Bool.{Bool, true, false}
use mathlib.Core.List.{List, [], ◌∷◌}
use Prim.Native.Nat.{ℕ, ◌≤◌}
use native.Mathlib.Omega.{arith}
use lib.Dec.{leb}
use lib.ListN.{length}
use borrow.Author.Tests.{leb-true}
use Rattle.std.specs.Prelude.{Ok}
use Rattle.format.specs.declared.Refusal.TheVariants.{Room, Value}
use Rattle.format.specs.Good.{good}
use Rattle.format.specs.Masks.{nothing, Lent, held_in}
use Rattle.format.specs.Saved.{Loaded, loaded, unloaded, load, saved, unsaved, saving, line_of}
use Rattle.format.specs.Tests.{verdict}
use Rattle.format.proofs.SavedForm.{line_load}
use Rattle.holding.specs.declared.Holding.{Holding}
use Rattle.holding.specs.Pictures.{picture_of, sound}
use Rattle.holding.proofs.Pictured.{sound_picture}
use Rattle.saved.specs.Loads.{loading_by}
use Rattle.saved.specs.Saves.{saving_by}

pub loading_sound : (line : List ℕ) → sound (loading_by (load line)).holding ≡ true
unfolding good loading_by
loading_sound line = go (load line) refl
  where
    go : (x : Loaded) → load line ≡ x → sound (loading_by x).holding ≡ true
    go (loaded held) e = sound_picture held (line_load line held e).1
    go (unloaded r) e = sound_picture nothing refl

-- and so is the empty holding
pub empty_sound : (h : Holding) → h ≡ picture_of nothing → sound h ≡ true
unfolding good
empty_sound h e = rw e (sound_picture nothing refl)

-- the line fits
fits : (size room n : ℕ) (h b : Bool) → leb size room ≡ b
    → saving_by (verdict unsaved (saved size) (record { holds = h; else = Value } ∷ record { holds = b; else = Room } ∷ [])) ≡ Ok n → n ≤ room
unfolding verdict saving_by
fits size room n true true e s = let same : size ≡ n = cc in omega (arith, leb-true size room e)
fits size room n true false e s = absurd (let z : ◌≡◌ {A = ℕ} 0 1 = cc in omega arith)
fits size room n false b e s = absurd (let z : ◌≡◌ {A = ℕ} 0 1 = cc in omega arith)

pub saved_fits : (holding : Lent) (buffer : List ℕ) (n : ℕ) → saving_by (saving holding buffer) ≡ Ok n → n ≤ length buffer
unfolding saving
saved_fits holding buffer n e = fits (length (line_of (held_in holding))) (length buffer) n _ _ refl e
