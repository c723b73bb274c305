-- What the types of the struct's fields say of its lists, and with it: the test of the code is that of the definitions. Assumes nothing.
use Rattle.bits.proofs.Words.{◌≡◌, refl, sym, ◌∙◌, Bool, true, false, List, [], ◌∷◌, map, ℕ, suc, ◌^◌}
use borrow.Author.Tests.{lt-ltb}
use denote.Struct.Laws.{u16-laws}
use lib.ListN.{get_or}
use mir.Syntax.{w16}
use mir.Val.{WTs, of_list, Fits}
use Rattle.format.proofs.Sames.{true_and}
use Rattle.holding.specs.declared.Holding.{Holding}
use Rattle.holding.specs.Bounds.{narrow, every}
use Rattle.holding.specs.Pictures.{sound}
use Rattle.holding.specs.Testing.{tested}
use Rattle.holding.proofs.SoundTested.{sound_tested}
use Rattle.holding.proofs.Sounds.{Shaped}
use Rattle.format.proofs.Sames.{same_test}
use Rattle.holding.proofs.TestedSound.{tested_sound}

-- 16 bits each, by their type
pub narrow_typed : (xs : List ℕ) → WTs (of_list (map u16-laws.val xs)) → narrow 16 xs ≡ true
unfolding every
narrow_typed [] w = refl
narrow_typed (x ∷ xs) w = true_and (lt-ltb x (2 ^ 16) w.0.fits) (narrow_typed xs w.1)

pub narrow_lent : (xs : List ℕ) → ((i : ℕ) → Fits w16 (get_or xs i 0)) → narrow 16 xs ≡ true
unfolding every
narrow_lent [] w = refl
narrow_lent (x ∷ xs) w = true_and (lt-ltb x (2 ^ 16) (w 0).fits) (narrow_lent xs (λ i. w (suc i)))

pub tested_is_sound : (h : Holding) → Shaped h → tested h ≡ sound h
tested_is_sound h shaped = same_test (tested h) (sound h) (tested_sound h shaped) (sound_tested h)

-- where one test fails, so does the other
off_both : (a b : Bool) → (a ≡ true → b ≡ true) → b ≡ false → a ≡ false
off_both false b f e = refl
off_both true b f e = sym (f refl) ∙ e

pub not_tested : (h : Holding) → tested h ≡ false → sound h ≡ false
not_tested h failed = off_both (sound h) (tested h) (sound_tested h) failed
