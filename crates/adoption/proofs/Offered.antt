-- A mask that is offered to what is held: all of its message is read. Assumes nothing.
use Rattle.bits.proofs.Words.{◌≡◌, sym, ap, ◌∙◌, Bool, true, false, cond, not, List, ℕ, eqb}
use borrow.Author.Tests.{eqb-true, not-false}
use Rattle.adoption.specs.Adoptions.{Made, keeping, made, dropped, settled_by, made_by}
use Rattle.adoption.specs.declared.Ending.{Ending}
use Rattle.adoption.specs.declared.Ending.TheVariants.{Behind}
use Rattle.adoption.specs.declared.settle.Offer.{Offer}
use Rattle.format.specs.declared.Head.{Head}
use Rattle.format.specs.Masks.{Mask, mask}
use Rattle.format.specs.Programs.{well}
use Rattle.holding.proofs.Compared.{steady_free, steady_other, steady_same, steady_picture}
use Rattle.holding.proofs.PicturedSame.{same_holding_sound}
use Rattle.holding.proofs.Sounds.{Sounds}
use Rattle.holding.specs.Comparing.{steady_by}
use Rattle.holding.specs.declared.Holding.{Holding}
use Rattle.holding.specs.declared.Outline.{Outline}
use Rattle.holding.specs.Outlines.{outline_of, whole_of}
use Rattle.holding.specs.Pictures.{picture_of, same_holding, sound}

-- the struct that pictures its mask is adopted just where that mask may follow
pub offered : (g : Holding) → sound g ≡ true → (m : Mask) {h : Holding} → Sounds (mask m) h → (head : Head) (next : ℕ) {o : Outline} → o ≡ outline_of h
    → settled_by g (record { next = next; outline = o }) h.satellites h.strips ≡ made_by g (well (record { head = head; made = m }) next)
unfolding settled_by made_by
offered g fine m {h} s head next is =
    let new : Holding → Made = λ x. cond (steady_by g x) (record { ending = Behind next; holding = x }) dropped in
    ap (λ (o : Outline). new (whole_of o h.satellites h.strips)) is
    ∙ ap new (sym s.picture)
    ∙ ap (λ (b : Bool). cond b (record { ending = Behind next; holding = picture_of (mask m) }) dropped) (steady_picture g m fine s.good_held)

-- ---- by what the code saw

module _ (held : Outline) (satellites strips : List ℕ) (offer : Offer) (masks cells : List ℕ) where
  abbrev g : Holding
  g = whole_of held satellites strips

  abbrev new : Holding
  new = whole_of offer.outline masks cells

  abbrev ending : Ending
  ending = Behind offer.next

  by_test : {b : Bool} → steady_by g new ≡ b → cond b (record { ending = ending; holding = new }) dropped ≡ settled_by g offer masks cells
  unfolding settled_by
  by_test e = ap (λ (b : Bool). cond b (record { ending = ending; holding = new }) dropped) (sym e)

  -- nothing is held, or a mask of another issue
  pub settles_free : held.held ≡ false → made held (record { ending = ending; kept = false; outline = offer.outline }) masks cells ≡ settled_by g offer masks cells
  settles_free none = by_test (steady_free g new none)

  pub settles_other : not (eqb offer.outline.iod held.iod) ≡ true → made held (record { ending = ending; kept = false; outline = offer.outline }) masks cells ≡ settled_by g offer masks cells
  settles_other differs = by_test (steady_other g new differs)

  -- the mask that is held, or another under its number
  module _ (some : held.held ≡ true) (issue : not (eqb offer.outline.iod held.iod) ≡ false) where
    abbrev tested : same_holding g new ≡ steady_by g new
    tested = steady_same g new some (eqb-true _ _ (not-false _ issue))

    pub settles_same : same_holding g new ≡ true → made held (keeping ending) satellites strips ≡ settled_by g offer masks cells
    settles_same same = ap (λ (h : Holding). record { ending = ending; holding = h }) (same_holding_sound g new same) ∙ by_test (sym tested ∙ same)

    pub settles_changed : same_holding g new ≡ false → dropped ≡ settled_by g offer masks cells
    settles_changed changed = by_test (sym tested ∙ changed)
