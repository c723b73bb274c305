-- Masks of one issue: of good ones the same line is the same mask, and what is held may stay. Assumes nothing.
use mathlib.Core.Path.{◌≡◌, refl, sym, ap, ◌∙◌}
use mathlib.Core.Bool.{Bool, true}
use lib.Dec.{eqb}
use borrow.Author.Tests.{eqb-true, eq-eqb}
use Rattle.format.specs.Good.{good}
use Rattle.format.specs.Masks.{Mask, Held, nothing, mask}
use Rattle.format.specs.Same.{same_held}
use Rattle.format.specs.Saved.{line_of}
use Rattle.format.specs.Steady.{same_line, steady}
use Rattle.format.proofs.Sames.{same_list_sound, same_list_refl, eqb_refl, same_held_sound, same_held_refl, same_test}
use Rattle.format.proofs.SavedForm.{line_injective}

-- a line is its own
line_itself : (h : Held) → same_line h h ≡ true
unfolding same_line
line_itself h = same_list_refl eqb eqb_refl (line_of h)

-- two good holdings with one line are one
pub line_one : (g h : Held) → good g ≡ true → good h ≡ true → same_line g h ≡ true → g ≡ h
unfolding same_line
line_one g h good-g good-h same = line_injective g h good-g good-h (same_list_sound eqb eqb-true (line_of g) (line_of h) same)

-- so a comparison of everything that is held is one of the lines
pub line_held : (g h : Held) → good g ≡ true → good h ≡ true → same_line g h ≡ same_held g h
line_held g h good-g good-h =
    same_test (same_line g h) (same_held g h)
    (λ same. ap (same_held g) (sym (line_one g h good-g good-h same)) ∙ same_held_refl g)
    (λ same. ap (same_line g) (sym (same_held_sound g h same)) ∙ line_itself g)

-- what is held may stay
pub steady_itself : (h : Held) → steady h h ≡ true
unfolding steady
steady_itself nothing = refl
steady_itself (mask m) = rw (eqb_refl m.iod) (line_itself (mask m))

-- and of one issue nothing else may come
pub steady_one : (m n : Mask) → good (mask m) ≡ true → good (mask n) ≡ true → steady (mask m) (mask n) ≡ true → n.iod ≡ m.iod → m ≡ n
unfolding steady
steady_one m n good-m good-n stays issue =
    let same : same_line (mask m) (mask n) ≡ true = rw (eq-eqb n.iod m.iod issue) at stays in
    let one : mask m ≡ mask n = line_one (mask m) (mask n) good-m good-n same in
    cc
