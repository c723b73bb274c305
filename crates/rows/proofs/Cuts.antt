-- The values of a row, cut out of a window that was halved: one alone, those of a row of two or three columns, and those of a row of five with the last from
-- elsewhere, or out of their own field; and those of a row of gaps but for one column.
-- Assumes nothing.
use Rattle.bits.proofs.Words.{◌≡◌, refl, sym, ap, ap₂, ◌∙◌, List, [], ◌∷◌, ℕ, ◌+◌, ◌-◌, ◌*◌, ◌/◌, ◌%◌, ◌^◌, ◌≤◌, ◌<◌, arith, ℤ}
use mathlib.Core.Logic.{◌⊎◌, ⊎_elim}
use native.Mathlib.Nat.{mod-lt, div-one}
use lib.Pow.{pow_mono, shr_le, shr-shr, shl-shr, shl_exact, mod-pow-add, low, pow_pos}
use Rattle.bits.proofs.Fields.{field_lt}
use Rattle.bits.proofs.Windows.{in_field, in_window, shifted}
use Rattle.bits.specs.Places.{field}
use Rattle.format.specs.Rows.{Column, absent, value_of}
use Rattle.rows.specs.declared.shape.Column.{Column as CodeColumn}
use Rattle.rows.specs.declared.shape.Shape.{Shape}
use Rattle.rows.specs.At.{values_at}
use Rattle.rows.specs.Shapes.{column_of, columns_of, FormedShape, Narrow}
use Rattle.rows.proofs.Columns.{gap_of, width_of_lem}

-- what a column makes of a number whose low bits are its own
abbrev pub cut_by : CodeColumn → ℕ → ℤ
cut_by c x = value_of (column_of c) (x % 2 ^ c.width)

-- what it is at a place
abbrev pub column_at : CodeColumn → List ℕ → ℕ → ℤ
column_at c bs place = value_of (column_of c) (field bs place c.width)

-- one more value
values_cons :
    (c : CodeColumn) (cs : List Column) (bs : List ℕ) (at : ℕ) {z : ℤ} {zs : List ℤ}
    → z ≡ column_at c bs at → zs ≡ values_at cs bs (at + c.width) → z ∷ zs ≡ values_at (column_of c ∷ cs) bs at
unfolding values_at
values_cons c cs bs at here rest = rw (width_of_lem c) (ap₂ ◌∷◌ here rest)

mod_mod : (n u v : ℕ) → n % 2 ^ (u + v) % 2 ^ v ≡ n % 2 ^ v
mod_mod n u v = rw (mod-pow-add n u v) (low (n / 2 ^ v % 2 ^ u) v (mod-lt n (pow_pos v)))

-- the column at a place, with t bits below it, out of a field
field_cut : (bs : List ℕ) (at n : ℕ) {front : ℕ} → front ≡ field bs at n → (c : CodeColumn) (place t : ℕ) → at ≤ place → place + c.width + t ≡ at + n
    → cut_by c (front / 2 ^ t) ≡ column_at c bs place
field_cut bs at n there c place t after whole =
    let back : at + (place - at) ≡ place = omega arith in
    ap (λ (x : ℕ). cut_by c (x / 2 ^ t)) there ∙ ap (value_of (column_of c)) (in_field bs at n (place - at) c.width t (omega arith)) ∙ ap (column_at c bs) back

-- such a field and what is left of it below a column are small
module _ (bs : List ℕ) (at n : ℕ) {front : ℕ} (there : front ≡ field bs at n) (narrow : n ≤ 56) where
  pub front_lt : front < 2 ^ 63
  front_lt = omega (arith, there, field_lt bs at n, pow_mono narrow)

  pub rest_lt : (t : ℕ) → front / 2 ^ t < 2 ^ 63
  rest_lt t = omega (arith, front_lt, shr_le front t)

-- the window at the byte of a place
module _ (bs : List ℕ) (at : ℕ) {window : ℕ} (there : window ≡ field bs (8 * (at / 8)) 64) where
  pub half_lt : (s : ℕ) → window / 2 / 2 ^ s < 2 ^ 63
  half_lt s = omega (arith, shr_le (window / 2) s, field_lt bs (8 * (at / 8)) 64)

  pub moved_lt : (s k : ℕ) → window / 2 / 2 ^ s / 2 ^ k < 2 ^ 63
  moved_lt s k = omega (arith, half_lt s, shr_le (window / 2 / 2 ^ s) k)

  -- its front half, moved up to a place and down behind w bits
  pub front_cut : (w : ℕ) → w ≤ 15 → window / 2 ^ 32 * 2 ^ (at % 8) % 2 ^ 64 / 2 ^ (32 - w) ≡ window / 2 / 2 ^ (63 - at % 8 - w)
  front_cut w narrow =
      let up : ℕ = at % 8 in
      let down : ℕ = 32 - w - up in
      let front : ℕ = window / 2 ^ 32 in
      let small : front < 2 ^ 32 = omega (arith, field_lt bs (8 * (at / 8)) 64) in
      let e : 32 - w ≡ up + down = omega arith in
      let f : 32 + down ≡ 1 + (63 - up - w) = omega arith in
      rw (shl_exact 32 up 64 small (omega arith), e, ← (shr-shr (front * 2 ^ up) up down), shl-shr front up)
      (shr-shr window 32 down ∙ ap (λ (k : ℕ). window / 2 ^ k) f ∙ sym (shr-shr window 1 (63 - up - w)))

  -- the column at a place from there on, with s bits below it up to the window's last bit but one
  pub column_cut : (c : CodeColumn) (place s : ℕ) → at ≤ place → place + c.width + s ≡ 8 * (at / 8) + 63 → cut_by c (window / 2 / 2 ^ s) ≡ column_at c bs place
  column_cut c place s after whole =
      let first : ℕ = 8 * (at / 8) in
      let back : first + (place - first) ≡ place = omega arith in
      ap (λ (x : ℕ). cut_by c (x / 2 / 2 ^ s)) there
      ∙ ap (cut_by c) (shr-shr (field bs first 64) 1 s)
      ∙ ap (value_of (column_of c)) (in_window bs first (place - first) c.width (1 + s) (omega arith))
      ∙ ap (column_at c bs) back

  -- and where the half window was moved down before
  moved_cut : (c : CodeColumn) (place s k : ℕ) → at ≤ place → place + c.width + (s + k) ≡ 8 * (at / 8) + 63
      → cut_by c (window / 2 / 2 ^ s / 2 ^ k) ≡ column_at c bs place
  moved_cut c place s k after whole = ap (cut_by c) (shr-shr (window / 2) s k) ∙ column_cut c place (s + k) after whole

  -- ---- the window moved up to the place

  abbrev pub up : ℕ
  up = window * 2 ^ (at % 8) % 2 ^ 64

  -- and then down by one bit
  pub up_lt : (s : ℕ) → 1 ≤ s → up / 2 ^ s < 2 ^ 63
  up_lt s some =
      let e : up / 2 ^ s ≡ up / 2 / 2 ^ (s - 1) = ap (λ (k : ℕ). up / 2 ^ k) (omega arith) ∙ sym (shr-shr up 1 (s - 1)) in
      omega (arith, e, shr_le (up / 2) (s - 1), mod-lt (window * 2 ^ (at % 8)) (pow_pos 64))

  -- the column at a place from there on, with s bits below it
  up_cut : (c : CodeColumn) (place s : ℕ) → at ≤ place → 8 ≤ s → place + c.width + s ≡ at + 64 → cut_by c (up / 2 ^ s) ≡ column_at c bs place
  up_cut c place s after low whole =
      let first : ℕ = 8 * (at / 8) in
      let t : ℕ = s - at % 8 in
      let e : s ≡ at % 8 + t = omega arith in
      let w : 64 - s ≡ (64 - s - c.width) + c.width = omega arith in
      let back : first + (place - first) ≡ place = omega arith in
      ap (λ (k : ℕ). cut_by c (up / 2 ^ k)) e
      ∙ ap (cut_by c) (shifted window (at % 8) (64 - s) t 64 (omega arith) ∙ ap (λ (k : ℕ). window / 2 ^ t % 2 ^ k) w)
      ∙ ap (value_of (column_of c)) (mod_mod (window / 2 ^ t) (64 - s - c.width) c.width ∙ ap (λ (x : ℕ). x / 2 ^ t % 2 ^ c.width) there ∙ in_window bs first (place - first) c.width t (omega arith))
      ∙ ap (column_at c bs) back

  -- ---- the window moved down at once

  pub down_small : (s : ℕ) → 1 ≤ s → window / 2 ^ s < 2 ^ 63
  down_small s some =
      let e : window / 2 ^ s ≡ window / 2 / 2 ^ (s - 1) = ap (λ (j : ℕ). window / 2 ^ j) (omega arith) ∙ sym (shr-shr window 1 (s - 1)) in
      omega (arith, e, half_lt (s - 1))

  pub down_lt : (s k : ℕ) → 1 ≤ s → window / 2 ^ s / 2 ^ k < 2 ^ 63
  down_lt s k some = omega (arith, down_small s some, shr_le (window / 2 ^ s) k)

  -- the column at a place, with s and k bits below it up to the window's last
  down_cut : (c : CodeColumn) (place s k : ℕ) → at ≤ place → place + c.width + (s + k) ≡ 8 * (at / 8) + 64 → cut_by c (window / 2 ^ s / 2 ^ k) ≡ column_at c bs place
  down_cut c place s k after whole =
      let first : ℕ = 8 * (at / 8) in
      let back : first + (place - first) ≡ place = omega arith in
      ap (cut_by c) (shr-shr window s k)
      ∙ ap (λ (x : ℕ). cut_by c (x / 2 ^ (s + k))) there
      ∙ ap (value_of (column_of c)) (in_window bs first (place - first) c.width (s + k) (omega arith))
      ∙ ap (column_at c bs) back

-- the values of a row
module _ (bs : List ℕ) (at : ℕ) (h : Shape) where
  abbrev w1 : ℕ
  w1 = h.v1.width

  abbrev w2 : ℕ
  w2 = h.v2.width

  abbrev w3 : ℕ
  w3 = h.v3.width

  abbrev w4 : ℕ
  w4 = h.v4.width

  -- five values that are those of the columns at their places
  values_five : {a b c d e : ℤ}
      → a ≡ column_at h.v1 bs at
      → b ≡ column_at h.v2 bs (at + w1)
      → c ≡ column_at h.v3 bs (at + w1 + w2)
      → d ≡ column_at h.v4 bs (at + w1 + w2 + w3)
      → e ≡ column_at h.v5 bs (at + w1 + w2 + w3 + w4)
      → a ∷ b ∷ c ∷ d ∷ e ∷ [] ≡ values_at (columns_of h) bs at
  unfolding columns_of values_at
  values_five one two three four five =
      let c5 : List Column = column_of h.v5 ∷ [] in
      let c4 : List Column = column_of h.v4 ∷ c5 in
      let c3 : List Column = column_of h.v3 ∷ c4 in
      values_cons h.v1 (column_of h.v2 ∷ c3) bs at one
      (values_cons h.v2 c3 bs (at + w1) two
      (values_cons h.v3 c4 bs (at + w1 + w2) three
      (values_cons h.v4 c5 bs (at + w1 + w2 + w3) four (values_cons h.v5 [] bs (at + w1 + w2 + w3 + w4) five refl))))

  -- the first and the last, one of which is a gap, from the row's place
  pub values_ends : w2 + w3 ≡ 0 → w4 ≡ 0 → (h.v5.width ≡ 0) ⊎ (w1 + w2 + w3 ≡ 0) → {a e : ℤ} → a ≡ column_at h.v1 bs at → e ≡ column_at h.v5 bs at
      → a ∷ absent ∷ absent ∷ absent ∷ e ∷ [] ≡ values_at (columns_of h) bs at
  unfolding value_of
  values_ends none fourth others one five =
      values_five one (rw (gap_of h.v2 (omega arith))) (rw (gap_of h.v3 (omega arith))) (rw (gap_of h.v4 fourth))
      (five ∙ ⊎_elim (λ gone. rw (gap_of h.v5 gone)) (λ gone. ap (column_at h.v5 bs) (omega arith)) others)

  abbrev front : ℕ
  front = w1 + (w2 + (w3 + w4))

  -- four cut out of a number in whose low bits they stand, and one more, are the row's values
  abbrev Four : ℕ → Type 0
  Four four = (a b c d e : ℤ)
      → a ≡ cut_by h.v1 (four / 2 ^ (w2 + (w3 + w4)))
      → b ≡ cut_by h.v2 (four / 2 ^ (w3 + w4))
      → c ≡ cut_by h.v3 (four / 2 ^ w4)
      → d ≡ cut_by h.v4 four
      → e ≡ column_at h.v5 bs (at + front)
      → a ∷ b ∷ c ∷ d ∷ e ∷ [] ≡ values_at (columns_of h) bs at

  values_four : (four : ℕ) → ((c : CodeColumn) (place t : ℕ) → at ≤ place → place + c.width + t ≡ at + front → cut_by c (four / 2 ^ t) ≡ column_at c bs place) → Four four
  values_four four cut _ _ _ _ _ one two three last five =
      let behind : at + front ≡ at + w1 + w2 + w3 + w4 = omega arith in
      values_five (one ∙ cut h.v1 at (w2 + (w3 + w4)) (omega arith) (omega arith))
      (two ∙ cut h.v2 (at + w1) (w3 + w4) (omega arith) (omega arith))
      (three ∙ cut h.v3 (at + w1 + w2) w4 (omega arith) (omega arith))
      (last ∙ ap (cut_by h.v4) (sym (div-one four)) ∙ cut h.v4 (at + w1 + w2 + w3) 0 (omega arith) (omega arith))
      (five ∙ ap (column_at h.v5 bs) behind)

  -- out of their own field
  pub values_front : {four : ℕ} → four ≡ field bs at front → Four four
  values_front there = values_four _ (field_cut bs at front there)

  module _ {window : ℕ} (there : window ≡ field bs (8 * (at / 8)) 64) (formed : FormedShape h) where
    -- two from the window moved up
    pub values_pair : Narrow h → w3 ≡ 0 → {a b : ℤ}
        → a ≡ cut_by h.v1 (up bs at there / 2 ^ (64 - w1))
        → b ≡ cut_by h.v2 (up bs at there / 2 ^ (64 - w1 - w2))
        → a ∷ b ∷ absent ∷ absent ∷ absent ∷ [] ≡ values_at (columns_of h) bs at
    unfolding value_of
    values_pair narrow none one two =
        let room = formed.window in
        values_five (one ∙ up_cut bs at there h.v1 at (64 - w1) (omega arith) (omega arith) (omega arith))
        (two ∙ up_cut bs at there h.v2 (at + w1) (64 - w1 - w2) (omega arith) (omega arith) (omega arith))
        (rw (gap_of h.v3 none))
        (rw (gap_of h.v4 narrow.fourth))
        (rw (gap_of h.v5 narrow.fifth))

    -- three from the window moved down, so that s bits are left behind
    pub values_three : Narrow h → (s : ℕ) → s ≡ 64 - (w1 + (w2 + w3)) - at % 8 → {a b c : ℤ}
        → a ≡ cut_by h.v1 (window / 2 ^ s / 2 ^ (w2 + w3))
        → b ≡ cut_by h.v2 (window / 2 ^ s / 2 ^ w3)
        → c ≡ cut_by h.v3 (window / 2 ^ s)
        → a ∷ b ∷ c ∷ absent ∷ absent ∷ [] ≡ values_at (columns_of h) bs at
    unfolding value_of
    values_three narrow s below one two three =
        let room = formed.window in
        values_five (one ∙ down_cut bs at there h.v1 at s (w2 + w3) (omega arith) (omega arith))
        (two ∙ down_cut bs at there h.v2 (at + w1) s w3 (omega arith) (omega arith))
        (three ∙ ap (cut_by h.v3) (sym (div-one (window / 2 ^ s))) ∙ down_cut bs at there h.v3 (at + w1 + w2) s 0 (omega arith) (omega arith))
        (rw (gap_of h.v4 narrow.fourth))
        (rw (gap_of h.v5 narrow.fifth))

    -- four from the half window, moved down so that s bits are left behind
    pub values_wide : (s : ℕ) → s ≡ 63 - at % 8 - front → Four (window / 2 / 2 ^ s)
    values_wide s below =
        let room = formed.window in
        values_four (window / 2 / 2 ^ s) (λ c place t after whole. moved_cut bs at there c place s t after (omega arith))
