-- What a slot's rows told, with the selection of the satellites behind it. Assumes nothing.
use Rattle.bits.proofs.Words.{◌≡◌, refl, sym, ap, ◌∙◌, List, ℕ, ◌*◌, ◌%◌, ◌^◌, arith, length, ℤ}
use denote.Enum.Declared.{tag_of}
use Rattle.body.specs.Chosen.{chosen_lines}
use Rattle.format.specs.Rows.{Line}
use Rattle.matching.specs.declared.fits.Matched.{Matched}
use Rattle.matching.specs.declared.fits.Matched.TheVariants.{Not, To}
use Rattle.matching.specs.declared.fits.cells.Passed.{Passed as StripsPassed}
use Rattle.matching.specs.declared.fits.cells.Passed.TheVariants as Strips
use Rattle.matching.specs.declared.fits.satellites.Passed.{Passed}
use Rattle.matching.specs.declared.fits.satellites.Passed.TheVariants.{Stopped, On}
use Rattle.matching.specs.Matching.{matched_at, hand_on, passed_at, counted, strips_passed_at}
use Rattle.matching.specs.contracts.fits.cells.Passed as StripsDeclared
use Rattle.matching.specs.contracts.fits.satellites.Passed as Declared

on_matched : (marks : ℕ) (far : Matched) (k left : ℕ) → On k left ≡ hand_on marks far → (To k ≡ far) × (left ≡ marks)
unfolding hand_on
on_matched marks Not k left e = (cc, cc)
on_matched marks (To j) k left e = (cc, cc)

stopped_matched : (marks : ℕ) (far : Matched) (passed : Passed) → tag_of Declared.the_type passed ≡ 0 → passed ≡ hand_on marks far → Not ≡ far
unfolding hand_on
stopped_matched marks Not passed stop e = refl
stopped_matched marks (To j) Stopped stop e = cc
stopped_matched marks (To j) (On k left) stop e = absurd (omega arith)

on_counted : (n : ℕ) (passed : Passed) (k m left : ℕ) → Strips.On k m left ≡ counted n passed → (On k left ≡ passed) × (m ≡ n)
unfolding counted
on_counted n Stopped k m left e = (cc, cc)
on_counted n (On j marks) k m left e = (cc, cc)

stopped_counted : (n : ℕ) (passed : Passed) (strips : StripsPassed) → tag_of StripsDeclared.the_type strips ≡ 0 → strips ≡ counted n passed → Stopped ≡ passed
unfolding counted
stopped_counted n Stopped strips stop e = refl
stopped_counted n (On j marks) Strips.Stopped stop e = cc
stopped_counted n (On j marks) (Strips.On k m left) stop e = absurd (omega arith)

module _ (chosen : ℕ) (groups : List (List Line)) (numbers : List ℤ) (from : ℕ) where
  abbrev far : Matched
  far = matched_at (chosen_lines chosen groups) numbers from

  abbrev left : ℕ
  left = chosen * 2 ^ length groups % 2 ^ 64

  pub slot_on : {passed : Passed} {k marks : ℕ} → passed ≡ passed_at chosen groups numbers from → passed ≡ On k marks → (To k ≡ far) × (marks ≡ left)
  unfolding passed_at
  slot_on {passed} {k} {marks} told on = on_matched left far k marks (sym on ∙ told)

  pub slot_stopped : (passed : Passed) → passed ≡ passed_at chosen groups numbers from → tag_of Declared.the_type passed ≡ 0 → Not ≡ far
  unfolding passed_at
  slot_stopped passed told stop = stopped_matched left far passed stop told

  -- the other way round
  pub goes_on : {k marks : ℕ} → To k ≡ far → marks ≡ left → On k marks ≡ passed_at chosen groups numbers from
  unfolding passed_at hand_on
  goes_on {k} {marks} e moved = ap (hand_on marks) e ∙ ap (λ (m : ℕ). hand_on m far) moved

  pub stops : Not ≡ far → Stopped ≡ passed_at chosen groups numbers from
  unfolding passed_at hand_on
  stops e = ap (hand_on left) e

  -- with the strips that were passed
  pub strips_on : {strips : StripsPassed} {k n marks : ℕ} → strips ≡ strips_passed_at chosen groups numbers from → strips ≡ Strips.On k n marks → (To k ≡ far) × (n ≡ length groups) × (marks ≡ left)
  unfolding strips_passed_at
  strips_on {strips} {k} {n} {marks} told on =
      let on = on_counted (length groups) _ k n marks (sym on ∙ told) in
      let both = slot_on on.0 refl in
      (both.0, on.1, both.1)

  pub strips_stopped : (strips : StripsPassed) → strips ≡ strips_passed_at chosen groups numbers from → tag_of StripsDeclared.the_type strips ≡ 0 → Not ≡ far
  unfolding strips_passed_at
  strips_stopped strips told stop = slot_stopped Stopped (stopped_counted (length groups) _ strips stop told) refl

  pub strips_go_on : {k n marks : ℕ} → To k ≡ far → n ≡ length groups → marks ≡ left → Strips.On k n marks ≡ strips_passed_at chosen groups numbers from
  unfolding strips_passed_at counted
  strips_go_on {k} {n} {marks} e many moved = ap (counted n) (goes_on e moved) ∙ ap (λ (m : ℕ). counted m (passed_at chosen groups numbers from)) many

  pub strips_stop : Not ≡ far → Strips.Stopped ≡ strips_passed_at chosen groups numbers from
  unfolding strips_passed_at counted
  strips_stop e = ap (counted (length groups)) (stops e)
