-- What a plan comes to behind flags, perhaps with a network and its selection. Assumes nothing.
use Rattle.bits.proofs.Words.{◌≡◌, refl, sym, ap, ap₂, ◌∙◌, Bool, true, false, cond, ◌&&◌, List, [], ◌∷◌, ◌++◌, ℕ, zero, suc, ◌+◌, ◌-◌, ◌*◌, ◌/◌, ◌≤◌, ◌<◌, ◌^◌, arith, eqb, ℤ, pos}
use mathlib.Core.Bool.{false≢true}
use mathlib.Core.List.{append_assoc, append-nil}
use borrow.Author.Tests.{ltb-true}
use lib.IntN.{negsuc}
use Rattle.bits.proofs.BitLists.{spell_append}
use Rattle.bits.specs.BitLists.{digit, spell}
use Rattle.bits.specs.Signed.{unsigned}
use Rattle.format.proofs.Sames.{and_true}
use Rattle.format.specs.declared.Head.{Head}
use Rattle.format.specs.Lengths.{total}
use Rattle.format.specs.Masks.{Mask, mask, Satellite, Sky, sky_of, pick}
use Rattle.format.specs.Messages.{lines_of}
use Rattle.format.specs.Rows.{absent, Line, spell_rows}
use Rattle.format.specs.Same.{sameℤ}
use Rattle.format.specs.Spelling.{put, rows_for, marks, put_selection, chosen_by, put_flagged, put_rows}
use Rattle.format.specs.Table.{spelled}
use Rattle.holding.specs.Held.{View, sky_in}
use Rattle.rows.specs.Table.{shape_at}
use Rattle.table.specs.declared.Layout.{Layout}
use Rattle.table.specs.Bodies.{lines_in}
use Rattle.table.specs.Kinds.{over_by, keys_by}
use Rattle.table.proofs.Overs.{chosen_lines_lem}
use Rattle.table.specs.Shapes.{shapes_from}
use Rattle.putting.specs.declared.marks.Selected.{Selected}
use Rattle.writer.specs.declared.plan.Plan.{Plan}
use Rattle.fitting.specs.Fits.{rows_fit}
use Rattle.fitting.specs.FitHeads.{number_fits, network_fits, common_fits, alone_fits, flagged_fits, fits}
use Rattle.writer.specs.Fronts.{opening_field, last_field, front_fields, flag_fields}
use Rattle.writer.specs.Kinds.{plan_bits}
use Rattle.pens.specs.Numbers.{word_of}
use Rattle.pens.specs.Pens.{spell_fields, Fine, Fines, none, more}
use Rattle.writer.specs.Plans.{flagged_head, flagged_plan}
use Rattle.writer.proofs.FrontBits.{put_word, front_fines, pen_bits}
use Rattle.pens.proofs.Gathered.{widths}
use Rattle.pens.proofs.Numbers.{fits_small}
use Rattle.pens.proofs.Pens.{spell_fields_append, fines_append}
use Rattle.writer.proofs.PlanBits.{Under, under_fits, under_type, under_bits, regroup}

-- the first n bits of a selection
abbrev pub selected : ℕ → ℕ → List Bool
selected n chosen = spell n (chosen / 2 ^ (64 - n))

no_selection : (chosen : ℕ) → selected 0 chosen ≡ []
unfolding spell
no_selection chosen = refl

-- ---- a flag

flag_digit : (z : ℤ) → number_fits 1 z ≡ true → digit (sameℤ z (pos 1)) ≡ word_of z
unfolding number_fits sameℤ word_of unsigned
flag_digit (pos n) fits = go n (ltb-true n 2 fits)
  where
    go : (k : ℕ) → k < 2 → digit (eqb k 1) ≡ k
    go zero small = refl
    go (suc zero) small = refl
    go (suc (suc k)) small = absurd (omega arith)
flag_digit (negsuc n) fits = absurd (false≢true fits)

-- ---- the head

module _ (h : Head) (head : flagged_head h ≡ true) where
  pub flagged_common : common_fits 12 h ≡ true
  unfolding flagged_head
  flagged_common = (and_true (common_fits 12 h) _ head).0

  first : number_fits 1 h.a ≡ true
  unfolding flagged_head
  first = (and_true (number_fits 1 h.a) _ (and_true (common_fits 12 h) _ head).1).0

  second : number_fits 1 h.b ≡ true
  unfolding flagged_head
  second = (and_true (number_fits 1 h.b) _ (and_true (number_fits 1 h.a) _ (and_true (common_fits 12 h) _ head).1).1).0

  network : network_fits h.c ≡ true
  unfolding flagged_head
  network = (and_true (number_fits 1 h.b) _ (and_true (number_fits 1 h.a) _ (and_true (common_fits 12 h) _ head).1).1).1

  abbrev a : ℕ
  a = word_of h.a

  abbrev b : ℕ
  b = word_of h.b

  pub a_small : a < 2 ^ 1
  a_small = fits_small 1 h.a first

  pub b_small : b < 2 ^ 1
  b_small = fits_small 1 h.b second

  -- where there is a network it has five bits
  some_small : sameℤ h.c absent ≡ false → number_fits 5 h.c ≡ true
  unfolding number_fits network_fits
  some_small some = five h.c some network
    where
      five : (z : ℤ) → sameℤ z absent ≡ false → network_fits z ≡ true → number_fits 5 z ≡ true
      five (pos zero) there known = refl
      five (pos (suc n)) there known = known
      five (negsuc n) there known = absurd (false≢true (sym there ∙ known))

  -- ---- the fields of its flags

  abbrev flags : ℕ
  flags = (a * 2 + b) * 2

  pub flags_fine : Fines (flag_fields h)
  unfolding flag_fields
  flags_fine = go (sameℤ h.c absent) refl
    where
      go : (none-there : Bool) → sameℤ h.c absent ≡ none-there
          → Fines (cond none-there (record { width = 3; value = flags } ∷ []) (record { width = 8; value = (flags + 1) * 32 + word_of h.c } ∷ []))
      go true e =
          let fine : Fine 3 flags = record { narrow = omega arith; small = omega (arith, a_small, b_small) } in
          more fine none
      go false e =
          let fine : Fine 8 ((flags + 1) * 32 + word_of h.c) = record { narrow = omega arith; small = omega (arith, a_small, b_small, fits_small 5 h.c (some_small e)) } in
          more fine none

  clear : spell 1 0 ≡ false ∷ []
  unfolding spell
  clear = refl

  set : spell 1 1 ≡ true ∷ []
  unfolding spell
  set = refl

  two_flags : spell 2 (a * 2 + b) ≡ put 1 h.a ++ put 1 h.b
  two_flags = spell_append 1 1 a b b_small ∙ ap₂ ◌++◌ (sym (put_word 1 h.a first)) (sym (put_word 1 h.b second))

  -- and their bits: the two flags, the third, and a network with its selection
  pub flags_bits : (own : Satellite → ℕ) (sats : List Satellite) (rows : List (List ℤ)) (chosen n : ℕ)
      → (sameℤ h.c absent ≡ false → selected n chosen ≡ marks own sats rows)
      → spell_fields (flag_fields h) ++ selected (cond (sameℤ h.c absent) 0 n) chosen ≡ put 1 h.a ++ (put 1 h.b ++ put_selection own sats h.c rows)
  unfolding flag_fields put_selection spell_fields
  flags_bits own sats rows chosen n marked = go (sameℤ h.c absent) refl
    where
      alone : spell 3 flags ≡ (put 1 h.a ++ put 1 h.b) ++ (false ∷ [])
      alone =
          let plain : flags ≡ (a * 2 + b) * 2 ^ 1 + 0 = omega arith in
          ap (spell 3) plain ∙ spell_append 2 1 (a * 2 + b) 0 (omega arith) ∙ ap₂ ◌++◌ two_flags clear

      networked : sameℤ h.c absent ≡ false → spell 8 ((flags + 1) * 32 + word_of h.c) ≡ (put 1 h.a ++ put 1 h.b) ++ (true ∷ put 5 h.c)
      networked e =
          spell_append 3 5 (flags + 1) (word_of h.c) (fits_small 5 h.c (some_small e))
          ∙ ap (λ (l : List Bool). l ++ spell 5 (word_of h.c)) (spell_append 2 1 (a * 2 + b) 1 (omega arith) ∙ ap₂ ◌++◌ two_flags set)
          ∙ append_assoc (put 1 h.a ++ put 1 h.b) (true ∷ []) (spell 5 (word_of h.c))
          ∙ ap (λ (l : List Bool). (put 1 h.a ++ put 1 h.b) ++ (true ∷ l)) (sym (put_word 5 h.c (some_small e)))

      go : (none-there : Bool) → sameℤ h.c absent ≡ none-there
          → spell_fields (cond none-there (record { width = 3; value = flags } ∷ []) (record { width = 8; value = (flags + 1) * 32 + word_of h.c } ∷ [])) ++ selected (cond none-there 0 n) chosen
          ≡ put 1 h.a ++ (put 1 h.b ++ cond none-there (false ∷ []) (true ∷ (put 5 h.c ++ marks own sats rows)))
      go true e =
          ap (λ (l : List Bool). (spell 3 flags ++ []) ++ l) (no_selection chosen) ∙ append-nil (spell 3 flags ++ []) ∙ append-nil (spell 3 flags) ∙ alone ∙ append_assoc (put 1 h.a) (put 1 h.b) (false ∷ [])
      go false e =
          ap₂ ◌++◌ (append-nil (spell 8 ((flags + 1) * 32 + word_of h.c)) ∙ networked e) (marked e)
          ∙ append_assoc (put 1 h.a ++ put 1 h.b) (true ∷ put 5 h.c) (marks own sats rows)
          ∙ append_assoc (put 1 h.a) (put 1 h.b) (true ∷ (put 5 h.c ++ marks own sats rows))

-- all of this is gathered at once
pub few_bits : (h : Head) → widths (front_fields 12 h ++ flag_fields h) ≤ 56
unfolding front_fields flag_fields total opening_field last_field
few_bits h = go (sameℤ h.c absent)
  where
    go : (none-there : Bool) → widths (front_fields 12 h ++ cond none-there (record { width = 3; value = (word_of h.a * 2 + word_of h.b) * 2 } ∷ [])
        (record { width = 8; value = ((word_of h.a * 2 + word_of h.b) * 2 + 1) * 32 + word_of h.c } ∷ [])) ≤ 56
    go true = omega arith
    go false = omega arith

-- ---- all of it

module _ {m : Mask} {v : View} {n : ℕ} {l : Layout} {h : Head} (u : Under m v n l h) (flagged : l.flagged ≡ true) (rows : List (List ℤ)) (start : ℕ) (sel : Selected) (many : ℕ)
    (choice : pick (spell 64 sel.word) v.satellites ≡ chosen_by (rows_for (keys_by l) (sky_in v)) v.satellites h.c rows) where
  abbrev plan : Plan
  plan = flagged_plan h l start sel many

  -- the satellites that rows choose under what is seen, and the bits by which they do
  abbrev chosen : Sky → List Satellite
  chosen sky = chosen_by (rows_for (keys_by l) sky) sky.satellites h.c rows

  abbrev marked_in : Sky → List Bool
  marked_in sky = marks (rows_for (keys_by l) sky) sky.satellites rows

  -- the lines that its test asks for
  abbrev lines_for : Sky → List Line
  lines_for sky = lines_of (keys_by l) (shapes_from l.shape (sameℤ h.a (pos 1)) (sameℤ h.b (pos 1))) sky (chosen sky)

  abbrev asked : List Line
  asked = lines_for (sky_of m)

  same_lines : flagged_head h ≡ true → lines_in v plan.body ≡ asked
  unfolding lines_in flagged_plan shapes_from sky_in
  same_lines head =
      let flags : l.shape + (word_of h.a * 2 + word_of h.b) ≡ l.shape + (digit (sameℤ h.a (pos 1)) * 2 + digit (sameℤ h.b (pos 1))) =
      ap₂ (λ (x y : ℕ). l.shape + (x * 2 + y)) (sym (flag_digit h.a (first h head))) (sym (flag_digit h.b (second h head))) in
      sym (chosen_lines_lem l v (l.shape + (word_of h.a * 2 + word_of h.b)) sel.word u.apart u.covered)
      ∙ ap₂ (λ (i : ℕ) (ss : List Satellite). lines_of (keys_by l) (shape_at i) (sky_in v) ss) flags choice
      ∙ ap lines_for u.sky

  fits_asked : fits (mask m) h rows ≡ (flagged_head h && rows_fit asked rows)
  unfolding flagged_head flagged_fits
  fits_asked =
      under_fits u rows ∙ ap (λ (x : Bool). common_fits 12 h && cond x (flagged_fits (keys_by l) (shapes_from l.shape)) (alone_fits (over_by l)) (sky_of m) h rows) flagged
      ∙ regroup (common_fits 12 h) (number_fits 1 h.a) (number_fits 1 h.b) (network_fits h.c) (rows_fit asked rows)

  pub flagged_unfit : flagged_head h ≡ false → fits (mask m) h rows ≡ false
  flagged_unfit bad = fits_asked ∙ ap (λ (x : Bool). x && rows_fit asked rows) bad

  module _ (head : flagged_head h ≡ true) where
    pub flagged_fits_lem : fits (mask m) h rows ≡ rows_fit (lines_in v plan.body) rows
    flagged_fits_lem = fits_asked ∙ ap (λ (x : Bool). x && rows_fit asked rows) head ∙ ap (λ (ls : List Line). rows_fit ls rows) (sym (same_lines head))

    pub flagged_fines : Fines (front_fields 12 h ++ flag_fields h)
    flagged_fines = fines_append (front_fines h (under_type u rows) 12 (omega arith) (flagged_common h head)) (flags_fine h head)

    pub flagged_bits_lem : (sameℤ h.c absent ≡ false → selected many sel.word ≡ marked_in (sky_in v)) → spelled (mask m) h rows ≡ plan_bits v plan rows
    unfolding plan_bits flagged_plan put_flagged front_fields flag_fields total opening_field last_field
    flagged_bits_lem marked =
        let front : List Bool = spell_fields (front_fields 12 h) in
        let flags : List Bool = spell_fields (flag_fields h) in
        let selection : List Bool = selected (cond (sameℤ h.c absent) 0 many) sel.word in
        let rest : List Bool = spell_rows asked rows in
        let whole : spell plan.pen.width plan.pen.gathered ≡ front ++ flags =
        pen_bits (front_fields 12 h ++ flag_fields h) start flagged_fines (few_bits h) ∙ spell_fields_append (front_fields 12 h) (flag_fields h) in
        let put-selection : List Bool = put_selection (rows_for (keys_by l) (sky_of m)) (sky_of m).satellites h.c rows in
        let both : flags ++ selection ≡ put 1 h.a ++ (put 1 h.b ++ put-selection) =
        flags_bits h head (rows_for (keys_by l) (sky_of m)) (sky_of m).satellites rows sel.word many (λ e. marked e ∙ ap marked_in u.sky) in
        under_bits u rows (flagged_common h head)
        ∙ ap (λ (x : Bool). front ++ cond x (put_flagged (keys_by l) (shapes_from l.shape)) (put_rows (over_by l)) (sky_of m) h rows) flagged
        ∙ ap (λ (k : List Bool). front ++ k)
        (sym (append_assoc (put 1 h.a) (put 1 h.b ++ put-selection) rest ∙ ap (λ (k : List Bool). put 1 h.a ++ k) (append_assoc (put 1 h.b) put-selection rest))
        ∙ ap (λ (k : List Bool). k ++ rest) (sym both) ∙ append_assoc flags selection rest)
        ∙ sym (append_assoc front flags (selection ++ rest))
        ∙ ap₂ (λ (k : List Bool) (ls : List Line). k ++ (selection ++ spell_rows ls rows)) (sym whole) (sym (same_lines head))
