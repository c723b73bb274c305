-- A mask message of what is held: its length, and that it can be put out. Assumes nothing.
use Rattle.bits.proofs.Words.{◌≡◌, refl, sym, ap, ap₂, ◌∙◌, Bool, true, List, ◌++◌, ℕ, ◌+◌, ◌*◌, ◌^◌, ◌≤◌, ◌<◌, arith, length, pos}
use mathlib.Core.List.{flat_map}
use borrow.Author.Tests.{lt-ltb}
use lib.ListN.{length-append}
use Rattle.bits.specs.BitLists.{spell}
use Rattle.format.proofs.Sames.{and_true, sameℤ_sound}
use Rattle.format.specs.declared.Head.{Head}
use Rattle.format.specs.Lengths.{total, mask_or}
use Rattle.format.specs.Same.{sameℤ}
use Rattle.format.specs.Spelling.{put_system}
use Rattle.holding.proofs.Sounds.{sounds}
use Rattle.holding.specs.declared.Holding.{Holding}
use Rattle.holding.specs.Pictures.{mask_of, sound}
use Rattle.pens.specs.declared.pen.Pen.{Pen}
use Rattle.fitting.specs.FitHeads.{number_fits, common_fits}
use Rattle.writer.specs.Fronts.{pen_at, opening_field, last_field, front_fields, mask_front}
use Rattle.putting.specs.MaskFields.{mask_fields}
use Rattle.pens.specs.Numbers.{word_of}
use Rattle.pens.specs.Pens.{pen_after, spell_fields, Fine, Fines, none, more, Begins}
use Rattle.writer.specs.Written.{mask_right, mask_spelled}
use Rattle.writer.proofs.FrontBits.{pen_bits, pen_place, pen_width, pen_fine, front_fines}
use Rattle.pens.proofs.Gathered.{widths, length_fields}
use Rattle.putting.proofs.MaskFields.{mask_fine, mask_spelled_lem}
use Rattle.pens.proofs.Numbers.{fits_small}
use Rattle.pens.proofs.Pens.{fines_append}

module _ (held : Holding) (on : sound held ≡ true) (h : Head) (count : ℕ) (typed : number_fits 4 h.subtype ≡ true) (right : mask_right h held.count count ≡ true) where
  pub right_common : common_fits 20 h ≡ true
  unfolding mask_right
  right_common = (and_true (common_fits 20 h) _ right).0

  -- as many systems as are held are a number of four bits
  pub right_count : number_fits 4 h.a ≡ true
  unfolding mask_right number_fits
  right_count =
      let many = (and_true (sameℤ h.a (pos held.count)) _ (and_true (common_fits 20 h) _ right).1).0 in
      ap (number_fits 4) (sameℤ_sound h.a (pos held.count) many) ∙ lt-ltb held.count 16 (omega (arith, (sounds held on).few_systems))

  front_fine : Fines (mask_front h)
  unfolding mask_front
  front_fine =
      let fine : Fine 4 (word_of h.a) = record { narrow = omega arith; small = fits_small 4 h.a right_count } in
      fines_append (front_fines h typed 20 (omega arith) right_common) (more fine none)

  few : widths (mask_front h) ≤ 56
  unfolding mask_front front_fields total opening_field last_field
  few = omega arith

  long_front : widths (mask_front h) ≡ 49
  unfolding mask_front front_fields total opening_field last_field
  long_front = refl

  abbrev systems : List Bool
  systems = flat_map put_system (mask_or (mask_of held)).systems

  pub mask_long : length (mask_spelled held h) ≡ 49 + length systems
  unfolding mask_spelled
  mask_long = length-append (spell_fields (mask_front h)) systems ∙ ap (λ (n : ℕ). n + length systems) (length_fields (mask_front h) ∙ long_front)

  module _ (start : ℕ) where
    abbrev pen : Pen
    pen = pen_after (pen_at start) (mask_front h)

    -- its bits are those gathered and those of its systems
    pub mask_parts : mask_spelled held h ≡ spell pen.width pen.gathered ++ spell_fields (mask_fields held)
    unfolding mask_spelled
    mask_parts = ap₂ ◌++◌ (sym (pen_bits (mask_front h) start front_fine few)) (sym (mask_spelled_lem held on))

    -- and there is room for them
    pub mask_begins : (bytes : List ℕ) → start + length (mask_spelled held h) ≤ 8 * length bytes → start + length (mask_spelled held h) < 2 ^ 32 → Begins pen (mask_fields held) bytes
    mask_begins bytes room near =
        let place = pen_place (mask_front h) start few in
        let width = pen_width (mask_front h) start few ∙ long_front in
        let last : length (spell_fields (mask_fields held)) ≡ length systems = ap length (mask_spelled_lem held on) in
        record { pen = pen_fine (mask_front h) start front_fine few; fields = mask_fine held on; room = omega (arith, place, width, last, mask_long); near = omega (arith, place, width, last, mask_long) }

    pub mask_place : pen.place ≡ start
    mask_place = pen_place (mask_front h) start few
