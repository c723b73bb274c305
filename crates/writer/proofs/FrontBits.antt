-- The bits of a message's front: what a head's numbers spell, gathered. Assumes nothing.
use Rattle.bits.proofs.Words.{◌≡◌, refl, sym, ap, ap₂, ◌∙◌, Bool, true, List, ◌++◌, ℕ, ◌+◌, ◌*◌, ◌^◌, ◌≤◌, ◌<◌, arith, ℤ, pos}
use mathlib.Core.Bool.{false≢true}
use mathlib.Core.List.{append-nil, append_assoc}
use native.Mathlib.Nat.{lt_of_lt_of_le}
use lib.IntN.{negsuc}
use lib.Pow.{pow_mono}
use Rattle.bits.proofs.BitLists.{spell_append}
use Rattle.bits.specs.BitLists.{spell}
use Rattle.bits.specs.Signed.{unsigned}
use Rattle.format.proofs.Sames.{and_true}
use Rattle.format.specs.declared.Head.{Head}
use Rattle.format.specs.Spelling.{put, put_common}
use Rattle.pens.specs.declared.pen.Field.{Field}
use Rattle.pens.specs.declared.pen.Pen.{Pen}
use Rattle.fitting.specs.FitHeads.{number_fits, common_fits}
use Rattle.writer.specs.Fronts.{pen_at, opening_field, last_field, front_fields}
use Rattle.pens.specs.Numbers.{word_of}
use Rattle.pens.specs.Pens.{pen_after, spell_fields, Fine, Fines, none, more}
use Rattle.writer.proofs.Fronts.{Smalls, common_smalls}
use Rattle.pens.proofs.Gathered.{widths, joined_to, all_place, all_width, all_join, joined_small, spell_joined}
use Rattle.pens.proofs.Numbers.{fits_small}

-- a number that fits is spelled by its bits
pub put_word : (w : ℕ) (z : ℤ) → number_fits w z ≡ true → put w z ≡ spell w (word_of z)
unfolding put unsigned word_of number_fits
put_word w (pos n) fits = refl
put_word w (negsuc n) fits = absurd (false≢true fits)

-- a pen that gathers fields from nothing stays at its place
module _ (fs : List Field) (start : ℕ) where
  pub pen_place : widths fs ≤ 56 → (pen_after (pen_at start) fs).place ≡ start
  pen_place few = all_place fs (pen_at start) (omega arith)

  pub pen_width : widths fs ≤ 56 → (pen_after (pen_at start) fs).width ≡ widths fs
  pen_width few = all_width fs (pen_at start) (omega arith) ∙ omega arith

  module _ (fines : Fines fs) (few : widths fs ≤ 56) where
    number_of : joined_to 0 fs < 2 ^ (0 + widths fs)
    number_of = joined_small fs 0 0 (omega arith) fines

    all : pen_after (pen_at start) fs ≡ record { place = start; width = 0 + widths fs; gathered = joined_to 0 fs }
    all = all_join fs (pen_at start) (omega arith) (lt_of_lt_of_le number_of (pow_mono {j = 64} (omega arith)))

    -- and has their bits
    pub pen_bits : let p = pen_after (pen_at start) fs in spell p.width p.gathered ≡ spell_fields fs
    unfolding spell
    pen_bits = ap (λ (p : Pen). spell p.width p.gathered) all ∙ spell_joined fs 0 0 fines

    -- as a number of so many
    pub pen_fine : let p = pen_after (pen_at start) fs in Fine p.width p.gathered
    pen_fine = rw all (record { narrow = omega arith; small = number_of })

-- ---- the common head

module _ (h : Head) (typed : number_fits 4 h.subtype ≡ true) where
  opening_small : word_of h.subtype < 2 ^ 4
  opening_small = fits_small 4 h.subtype typed

  pub opening_fine : Fine 16 (opening_field h).value
  unfolding opening_field
  opening_fine = record { narrow = omega arith; small = omega (arith, opening_small) }

  pub opening_bits : spell 16 (opening_field h).value ≡ spell 12 4073 ++ put 4 h.subtype
  unfolding opening_field
  opening_bits =
      spell_append 12 4 4073 (word_of h.subtype) opening_small ∙ ap (λ (l : List Bool). spell 12 4073 ++ l) (sym (put_word 4 h.subtype typed))

  module _ (epochWidth : ℕ) (narrow : epochWidth ≤ 56) (fits : common_fits epochWidth h ≡ true) where
    s : Smalls epochWidth h
    s = common_smalls epochWidth h fits

    last_fine : Fine 9 (last_field h).value
    unfolding last_field
    last_fine = record { narrow = omega arith; small = omega (arith, s.interval, s.indicator, s.iod) }

    pub front_fines : Fines (front_fields epochWidth h)
    unfolding front_fields opening_field last_field
    front_fines = more opening_fine (more (record { narrow = narrow; small = s.epoch }) (more last_fine none))

    last_bits_lem : spell 9 (last_field h).value ≡ spell 4 (word_of h.interval) ++ (spell 1 (word_of h.indicator) ++ spell 4 (word_of h.iod))
    unfolding last_field
    last_bits_lem =
        spell_append 5 4 (word_of h.interval * 2 + word_of h.indicator) (word_of h.iod) s.iod
        ∙ ap (λ (l : List Bool). l ++ spell 4 (word_of h.iod)) (spell_append 4 1 (word_of h.interval) (word_of h.indicator) s.indicator)
        ∙ append_assoc (spell 4 (word_of h.interval)) (spell 1 (word_of h.indicator)) (spell 4 (word_of h.iod))

    common_bits : put_common epochWidth h ≡ spell epochWidth (word_of h.epoch) ++ spell 9 (last_field h).value
    unfolding put_common common_fits
    common_bits =
        let first = and_true (number_fits epochWidth h.epoch) _ fits in
        let second = and_true (number_fits 4 h.interval) _ first.1 in
        let third = and_true (number_fits 1 h.indicator) _ second.1 in
        rw (put_word epochWidth h.epoch first.0, put_word 4 h.interval second.0, put_word 1 h.indicator third.0, put_word 4 h.iod third.1, last_bits_lem)

    -- number, sub type and common head, and whatever follows
    pub front_bits : (rest : List Bool) → spell 12 4073 ++ (put 4 h.subtype ++ (put_common epochWidth h ++ rest)) ≡ spell_fields (front_fields epochWidth h) ++ rest
    unfolding spell_fields front_fields opening_field last_field
    front_bits rest =
        let o : List Bool = spell 16 (opening_field h).value in
        let e : List Bool = spell epochWidth (word_of h.epoch) in
        let t : List Bool = spell 9 (last_field h).value in
        sym (append_assoc (spell 12 4073) (put 4 h.subtype) (put_common epochWidth h ++ rest))
        ∙ ap₂ (λ (l m : List Bool). l ++ (m ++ rest)) (sym opening_bits) common_bits
        ∙ ap (λ (l : List Bool). o ++ l) (append_assoc e t rest)
        ∙ sym (ap (λ (l : List Bool). (o ++ (e ++ l)) ++ rest) (append-nil t) ∙ append_assoc o (e ++ t) rest ∙ ap (λ (l : List Bool). o ++ l) (append_assoc e t rest))
