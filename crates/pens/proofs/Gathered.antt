-- Fields of fewer bits than one setting takes are all gathered, and their bits are the number's. Assumes nothing.
use Rattle.bits.proofs.Words.{◌≡◌, refl, sym, ap, ap₂, ◌∙◌, Bool, List, [], ◌∷◌, ◌++◌, ℕ, ◌+◌, ◌*◌, ◌%◌, ◌^◌, ◌≤◌, ◌<◌, arith, length}
use mathlib.Core.List.{append-nil, append_assoc}
use native.Mathlib.Nat.{mod-eq_of_lt}
use lib.Arith.{digits_lt}
use lib.ListN.{length-append}
use lib.Pow.{pow-add, shl-shr, shr_le}
use Rattle.bits.proofs.BitLists.{spell_append, length_spell}
use Rattle.bits.specs.BitLists.{spell}
use Rattle.format.specs.Lengths.{total}
use Rattle.pens.specs.declared.pen.Field.{Field}
use Rattle.pens.specs.declared.pen.Pen.{Pen}
use Rattle.pens.specs.Pens.{pushed, pen_after, spell_fields, Fines, more}
use Rattle.pens.proofs.Pens.{joined}

-- how many bits fields have
abbrev pub widths : List Field → ℕ
widths fs = total (λ f. f.width) fs

-- and the number that they make behind another
unfoldable pub joined_to : ℕ → List Field → ℕ
joined_to g [] = g
joined_to g (f ∷ fs) = joined_to (g * 2 ^ f.width + f.value) fs

-- they join, whatever their numbers
module _ (f : Field) (fs : List Field) (p : Pen) (few : p.width + (f.width + widths fs) < 64) where
  next_width : (pushed p f).width ≡ p.width + f.width
  next_width = ap (λ (q : Pen). q.width) (joined p f (omega arith))

  next_few : (pushed p f).width + widths fs < 64
  next_few = omega (arith, next_width)

pub all_place : (fs : List Field) (p : Pen) → p.width + widths fs < 64 → (pen_after p fs).place ≡ p.place
unfolding pen_after total
all_place [] p few = refl
all_place (f ∷ fs) p few = all_place fs (pushed p f) (next_few f fs p few) ∙ ap (λ (q : Pen). q.place) (joined p f (omega arith))

pub all_width : (fs : List Field) (p : Pen) → p.width + widths fs < 64 → (pen_after p fs).width ≡ p.width + widths fs
unfolding pen_after total
all_width [] p few = omega arith
all_width (f ∷ fs) p few =
    let rest : (pen_after (pushed p f) fs).width ≡ (pushed p f).width + widths fs = all_width fs (pushed p f) (next_few f fs p few) in
    rest ∙ omega (arith, next_width f fs p few)

-- the number does not become smaller
joined_grows : (fs : List Field) (g : ℕ) → g ≤ joined_to g fs
unfolding joined_to
joined_grows [] g = omega arith
joined_grows (f ∷ fs) g =
    omega (arith, joined_grows fs (g * 2 ^ f.width + f.value), shl-shr g f.width, shr_le (g * 2 ^ f.width) f.width)

-- where it is one of 64 bits, nothing is shifted out
pub all_join : (fs : List Field) (p : Pen) → p.width + widths fs < 64 → joined_to p.gathered fs < 2 ^ 64
    → pen_after p fs ≡ record { place = p.place; width = p.width + widths fs; gathered = joined_to p.gathered fs }
unfolding pen_after joined_to total
all_join [] p few small = λ i. record { place = p.place; width = same i; gathered = p.gathered }
  where
    same : p.width ≡ p.width + 0
    same = omega arith
all_join (f ∷ fs) p few small =
    let next : ℕ = p.gathered * 2 ^ f.width + f.value in
    let one : Pen = record { place = p.place; width = p.width + f.width; gathered = next } in
    let exact : p.gathered * 2 ^ f.width % 2 ^ 64 ≡ p.gathered * 2 ^ f.width = mod-eq_of_lt (omega (arith, joined_grows fs next, small)) in
    let here : pushed p f ≡ one =
    joined p f (omega arith) ∙ ap (λ (n : ℕ). record { place = p.place; width = p.width + f.width; gathered = n + f.value }) exact in
    let same : p.width + f.width + widths fs ≡ p.width + (f.width + widths fs) = omega arith in
    ap (λ (q : Pen). pen_after q fs) here ∙ all_join fs one (omega arith) small
    ∙ ap (λ (n : ℕ). record { place = p.place; width = n; gathered = joined_to next fs }) same

pub joined_small : (fs : List Field) (w g : ℕ) → g < 2 ^ w → Fines fs → joined_to g fs < 2 ^ (w + widths fs)
unfolding joined_to total
joined_small [] w g small fines =
    let same : w + 0 ≡ w = omega arith in
    rw same small
joined_small (f ∷ fs) w g small (more fine fines) =
    let regroup : w + (f.width + widths fs) ≡ w + f.width + widths fs = omega arith in
    rw regroup (joined_small fs (w + f.width) (g * 2 ^ f.width + f.value) (rw (pow-add 2 w f.width) (digits_lt small fine.small)) fines)

pub spell_joined : (fs : List Field) (w g : ℕ) → Fines fs → spell (w + widths fs) (joined_to g fs) ≡ spell w g ++ spell_fields fs
unfolding joined_to spell_fields total
spell_joined [] w g fines = ap (λ (n : ℕ). spell n g) (omega arith) ∙ sym (append-nil (spell w g))
spell_joined (f ∷ fs) w g (more fine fines) =
    let regroup : w + (f.width + widths fs) ≡ w + f.width + widths fs = omega arith in
    rw regroup
    (spell_joined fs (w + f.width) (g * 2 ^ f.width + f.value) fines
    ∙ ap (λ (l : List Bool). l ++ spell_fields fs) (spell_append w f.width g f.value fine.small)
    ∙ append_assoc (spell w g) (spell f.width f.value) (spell_fields fs))

-- how long their bits are
pub length_fields : (fs : List Field) → length (spell_fields fs) ≡ widths fs
unfolding spell_fields total
length_fields [] = refl
length_fields (f ∷ fs) = length-append (spell f.width f.value) (spell_fields fs) ∙ ap₂ ◌+◌ (length_spell f.width f.value) (length_fields fs)
