-- The fronts of messages: pens that have gathered a head's numbers. Assumes nothing.
use Rattle.bits.proofs.Words.{◌≡◌, sym, ap, ap₂, ◌∙◌, true, false, List, [], ◌∷◌, ◌++◌, ℕ, ◌+◌, ◌*◌, ◌%◌, ◌^◌, ◌≤◌, ◌<◌, arith}
use lib.Pow.{shl_exact}
use Rattle.format.specs.declared.Head.{Head}
use Rattle.format.specs.Lengths.{total}
use Rattle.format.specs.Rows.{absent}
use Rattle.format.specs.Same.{sameℤ}
use Rattle.format.proofs.Sames.{and_true}
use Rattle.pens.specs.declared.pen.Field.{Field}
use Rattle.pens.specs.declared.pen.Pen.{Pen}
use Rattle.fitting.specs.FitHeads.{number_fits, common_fits}
use Rattle.writer.specs.Fronts.{pen_at, opening_field, last_field, front_fields, flag_fields}
use Rattle.pens.specs.Numbers.{word_of}
use Rattle.pens.specs.Pens.{pen_after}
use Rattle.pens.proofs.Gathered.{all_place, all_width}
use Rattle.pens.proofs.Numbers.{fits_small}
use Rattle.pens.proofs.Pens.{joined, pen_append}

-- ---- a head that fits

pub record Smalls (epochWidth : ℕ) (h : Head) : Type 0 where
  pub epoch : word_of h.epoch < 2 ^ epochWidth
  pub interval : word_of h.interval < 2 ^ 4
  pub indicator : word_of h.indicator < 2 ^ 1
  pub iod : word_of h.iod < 2 ^ 4

pub common_smalls : (epochWidth : ℕ) (h : Head) → common_fits epochWidth h ≡ true → Smalls epochWidth h
unfolding common_fits
common_smalls w h fits =
    let first = and_true (number_fits w h.epoch) _ fits in
    let second = and_true (number_fits 4 h.interval) _ first.1 in
    let third = and_true (number_fits 1 h.indicator) _ second.1 in
    record {
      epoch = fits_small w h.epoch first.0;
      interval = fits_small 4 h.interval second.0;
      indicator = fits_small 1 h.indicator third.0;
      iod = fits_small 4 h.iod third.1;
    }

-- ---- the flags behind the common head

module _ (start : ℕ) (h : Head) (q : Pen) (known : q ≡ pen_after (pen_at start) (front_fields 12 h)) (small : q.gathered < 2 ^ 55) where
  place : q.place ≡ start
  unfolding front_fields total opening_field last_field
  place = ap (λ (p : Pen). p.place) known ∙ all_place (front_fields 12 h) (pen_at start) (omega arith)

  width : q.width ≡ 37
  unfolding front_fields total opening_field last_field
  width = ap (λ (p : Pen). p.width) known ∙ all_width (front_fields 12 h) (pen_at start) (omega arith)

  -- one field more, which moves nothing out of the word
  of_flags : (f : Field) → f.width ≤ 8 → flag_fields h ≡ f ∷ []
      → record { place = start; width = 37 + f.width; gathered = q.gathered * 2 ^ f.width + f.value } ≡ pen_after (pen_at start) (front_fields 12 h ++ flag_fields h)
  unfolding pen_after
  of_flags f few flags =
      let exact : q.gathered * 2 ^ f.width % 2 ^ 64 ≡ q.gathered * 2 ^ f.width = shl_exact 55 f.width 64 small (omega arith) in
      sym
      (pen_append (front_fields 12 h) (flag_fields h) (pen_at start)
      ∙ ap₂ (λ (p : Pen) (fs : List Field). pen_after p fs) (sym known) flags
      ∙ joined q f (omega (arith, width))
      ∙ (λ i. record { place = place i; width = width i + f.width; gathered = exact i + f.value }))

  module _ (a b : ℕ) (first : a ≡ word_of h.a) (second : b ≡ word_of h.b) where
    pub flags_alone : sameℤ h.c absent ≡ true
        → record { place = start; width = 40; gathered = q.gathered * 8 + (a * 2 + b) * 2 } ≡ pen_after (pen_at start) (front_fields 12 h ++ flag_fields h)
    unfolding flag_fields
    flags_alone none =
        rw (first, second) (of_flags (record { width = 3; value = (word_of h.a * 2 + word_of h.b) * 2 }) (omega arith) (rw none))

    pub flags_network : sameℤ h.c absent ≡ false → (c : ℕ) → c ≡ word_of h.c
        → record { place = start; width = 45; gathered = q.gathered * 256 + ((a * 2 + b) * 2 + 1) * 32 + c } ≡ pen_after (pen_at start) (front_fields 12 h ++ flag_fields h)
    unfolding flag_fields
    flags_network some c third =
        let said : ℕ = ((word_of h.a * 2 + word_of h.b) * 2 + 1) * 32 + word_of h.c in
        let same : q.gathered * 256 + ((a * 2 + b) * 2 + 1) * 32 + c ≡ q.gathered * 256 + said = omega arith in
        rw same (of_flags (record { width = 8; value = said }) (omega arith) (rw some))
