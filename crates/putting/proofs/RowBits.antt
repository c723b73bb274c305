-- Values joined to the bits of one field, one after the other. Assumes nothing.
use Rattle.bits.proofs.Words.{◌≡◌, refl, sym, ap, ap₂, ◌∙◌, true, Bool, List, [], ◌∷◌, ◌++◌, ℕ, ◌+◌, ◌-◌, ◌*◌, ◌^◌, ◌%◌, ◌≤◌, ◌<◌, arith, length, take, drop, get_or, ℤ, pos}
use mathlib.Core.Bool.{false≢true}
use mathlib.Core.List.{append_assoc, append-nil}
use native.Mathlib.Nat.{mod-eq_of_lt, lt_of_lt_of_le}
use lib.Arith.{digits_lt}
use lib.Pow.{pow-add, pow_mono, shl_exact}
use lib.Signed.{mag}
use mir.Facts.{to_z-of_z}
use mir.Syntax.{w32}
use mir.Val.{to_z, of_z}
use Rattle.bits.proofs.BitLists.{number_append, number_lt, number_spell, length_spell}
use Rattle.bits.proofs.Lists.{elements, taken}
use Rattle.bits.specs.BitLists.{number, spell}
use Rattle.bits.specs.Signed.{unsigned}
use Rattle.format.proofs.Sames.{and_true, true_and}
use Rattle.format.specs.Rows.{Column, width_of, shape_width, spell_values}
use Rattle.rows.proofs.Columns.{width_of_lem}
use Rattle.rows.specs.declared.shape.Column.{Column as CodeColumn}
use Rattle.rows.specs.declared.shape.Shape.{Shape}
use Rattle.rows.specs.Shapes.{column_of}
use Rattle.putting.proofs.ColumnBits.{unsigned_small, bits_small}
use Rattle.fitting.proofs.FitRows.{fit_width}
use Rattle.fitting.specs.Fits.{column_fits, values_fit}

-- ---- moved up and joined without a loss

module _ (bits w : ℕ) (few : bits < 2 ^ (56 - w)) (narrow : w ≤ 15) where
  moved_exact : bits * 2 ^ w % 2 ^ 64 ≡ bits * 2 ^ w
  moved_exact = shl_exact (56 - w) w 64 few (omega arith)

  pub sum_joined : {n last : ℕ} → last ≡ n → bits * 2 ^ w % 2 ^ 64 + last ≡ bits * 2 ^ w + n
  sum_joined e = ap₂ ◌+◌ moved_exact e

  pub sum_fits : {n last : ℕ} → last ≡ n → n < 2 ^ w → bits * 2 ^ w % 2 ^ 64 + last < 2 ^ 64
  sum_fits {n} e small =
      let whole : 56 - w + w ≡ 56 = omega arith in
      let low : bits * 2 ^ w + n < 2 ^ (56 - w + w) = rw (pow-add 2 (56 - w) w) (digits_lt few small) in
      omega (arith, ap (λ (k : ℕ). 2 ^ k) whole, sum_joined e)

-- ---- one value more

more_spelled : (cs : List Column) (vs : List ℤ) (c : Column) (v : ℤ) → values_fit cs vs ≡ true
    → spell_values (cs ++ (c ∷ [])) (vs ++ (v ∷ [])) ≡ spell_values cs vs ++ spell (width_of c) (unsigned (width_of c) v)
unfolding values_fit spell_values
more_spelled [] [] c v fits = append-nil (spell (width_of c) (unsigned (width_of c) v))
more_spelled [] (u ∷ us) c v fits = absurd (false≢true fits)
more_spelled (k ∷ ks) [] c v fits = absurd (false≢true fits)
more_spelled (k ∷ ks) (u ∷ us) c v fits =
    let b : List Bool = spell (width_of k) (unsigned (width_of k) u) in
    ap (λ (l : List Bool). b ++ l) (more_spelled ks us c v (and_true (column_fits k u) (values_fit ks us) fits).1)
    ∙ sym (append_assoc b (spell_values ks us) (spell (width_of c) (unsigned (width_of c) v)))

more_fits : (cs : List Column) (vs : List ℤ) (c : Column) (v : ℤ) → values_fit cs vs ≡ true → column_fits c v ≡ true → values_fit (cs ++ (c ∷ [])) (vs ++ (v ∷ [])) ≡ true
unfolding values_fit
more_fits [] [] c v fits one = true_and one refl
more_fits [] (u ∷ us) c v fits one = absurd (false≢true fits)
more_fits (k ∷ ks) [] c v fits one = absurd (false≢true fits)
more_fits (k ∷ ks) (u ∷ us) c v fits one = let both = and_true (column_fits k u) (values_fit ks us) fits in true_and both.0 (more_fits ks us c v both.1 one)

-- ---- the bits of values that fit

pub record Joined (cs : List Column) (vs : List ℤ) (bits : ℕ) : Type 0 where
  pub fits : values_fit cs vs ≡ true
  pub spelled : bits ≡ number (spell_values cs vs)

pub joined_none : Joined [] [] 0
unfolding values_fit spell_values number
joined_none = record { fits = refl; spelled = refl }

pub joined_more : {cs : List Column} {vs : List ℤ} {bits : ℕ} → Joined cs vs bits → (c : CodeColumn) (v : ℤ) → column_fits (column_of c) v ≡ true → {all : ℕ}
    → all ≡ bits * 2 ^ c.width + unsigned c.width v → Joined (cs ++ (column_of c ∷ [])) (vs ++ (v ∷ [])) all
joined_more {cs} {vs} {bits} j c v one {all} e =
    let k : Column = column_of c in
    let u : ℕ = unsigned (width_of k) v in
    let back : number (spell (width_of k) u) ≡ u = number_spell (width_of k) u ∙ mod-eq_of_lt (unsigned_small k v one) in
    let parts : number (spell_values cs vs ++ spell (width_of k) u) ≡ number (spell_values cs vs) * 2 ^ width_of k + u =
    number_append (spell_values cs vs) (spell (width_of k) u) ∙ rw (length_spell (width_of k) u, back) in
    let same : bits * 2 ^ c.width + unsigned c.width v ≡ number (spell_values cs vs) * 2 ^ width_of k + u =
    ap₂ (λ (b w : ℕ). b * 2 ^ w + unsigned w v) j.spelled (sym (width_of_lem c)) in
    record { fits = more_fits cs vs k v j.fits one; spelled = e ∙ same ∙ sym parts ∙ ap number (sym (more_spelled cs vs k v j.fits)) }

-- one alone
pub joined_one : (c : CodeColumn) (v : ℤ) → column_fits (column_of c) v ≡ true → {bits : ℕ} → bits ≡ unsigned c.width v → Joined (column_of c ∷ []) (v ∷ []) bits
joined_one c v one e = joined_more joined_none c v one (e ∙ omega arith)

-- a gap changes nothing
pub joined_gap : {cs : List Column} {vs : List ℤ} {bits : ℕ} → Joined cs vs bits → (c : CodeColumn) (v : ℤ) → column_fits (column_of c) v ≡ true → c.width ≡ 0
    → Joined (cs ++ (column_of c ∷ [])) (vs ++ (v ∷ [])) bits
joined_gap {bits = bits} j c v one gone =
    let small : unsigned c.width v < 2 ^ c.width = bits_small c v one in
    let none : unsigned c.width v ≡ 0 = omega (arith, ap (λ (w : ℕ). 2 ^ w) gone) in
    let same : bits * 2 ^ c.width ≡ bits = ap (λ (w : ℕ). bits * 2 ^ w) gone ∙ omega arith in
    joined_more j c v one (omega arith)

-- there is room for one more
pub joined_room : {cs : List Column} {vs : List ℤ} {bits : ℕ} → Joined cs vs bits → (w : ℕ) → shape_width cs + w ≤ 56 → bits < 2 ^ (56 - w)
joined_room {cs} {vs} j w room =
    let low : number (spell_values cs vs) < 2 ^ shape_width cs = rw (fit_width cs vs j.fits) at (number_lt (spell_values cs vs)) in
    let less : shape_width cs ≤ 56 - w = omega arith in
    rw j.spelled (lt_of_lt_of_le low (pow_mono less))

-- ---- the values of a row, one by one

-- the first four columns
abbrev pub four_columns : Shape → List Column
four_columns s = column_of s.v1 ∷ column_of s.v2 ∷ column_of s.v3 ∷ column_of s.v4 ∷ []

pub record FourFit (a b c d : Column) (p q r t : ℤ) : Type 0 where
  pub first : column_fits a p ≡ true
  pub second : column_fits b q ≡ true
  pub third : column_fits c r ≡ true
  pub fourth : column_fits d t ≡ true

-- the first four of a row of eight numbers
pub four_values : (row : List ℤ) → length row ≡ 8 → take 4 (drop 3 row) ≡ get_or row 3 (pos 0) ∷ get_or row 4 (pos 0) ∷ get_or row 5 (pos 0) ∷ get_or row 6 (pos 0) ∷ []
unfolding elements
four_values row eight = taken (pos 0) row 3 0 4 (omega arith)

pub four_fit : (row : List ℤ) → length row ≡ 8 → (a b c d : Column) → values_fit (a ∷ b ∷ c ∷ d ∷ []) (take 4 (drop 3 row)) ≡ true
    → FourFit a b c d (get_or row 3 (pos 0)) (get_or row 4 (pos 0)) (get_or row 5 (pos 0)) (get_or row 6 (pos 0))
unfolding values_fit
four_fit row eight a b c d fits =
    let one = and_true (column_fits a (get_or row 3 (pos 0))) _ (rw (four_values row eight) at fits) in
    let two = and_true (column_fits b (get_or row 4 (pos 0))) _ one.1 in
    let three = and_true (column_fits c (get_or row 5 (pos 0))) _ two.1 in
    record { first = one.0; second = two.0; third = three.0; fourth = (and_true (column_fits d (get_or row 6 (pos 0))) _ three.1).0 }

-- as code reads them
pub value_read : (v : ℤ) → mag v < 2 ^ 31 → to_z w32 (of_z w32 v) ≡ v
value_read v small = to_z-of_z {w = w32} (record { sfits = small })

pub fits_read : (v : ℤ) → mag v < 2 ^ 31 → (c : Column) → column_fits c v ≡ true → column_fits c (to_z w32 (of_z w32 v)) ≡ true
fits_read v small c fits = rw (value_read v small) fits
