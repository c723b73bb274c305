-- Rows fit their lines just where what they spell reads back to them.
-- Assumes nothing.
use mathlib.Core.Path.{◌≡◌, refl, sym, ap, ap₂, ◌∙◌}
use mathlib.Core.Bool.{Bool, true, false≢true}
use mathlib.Core.List.{List, [], ◌∷◌, ◌++◌, append_assoc}
use Prim.Native.Nat.{ℕ, suc, ◌+◌, ◌-◌, ◌*◌, ◌^◌, ◌≤◌, ◌<◌}
use native.Mathlib.Decide.{dec_lt}
use native.Mathlib.Nat.{mod-eq_of_lt}
use native.Mathlib.Omega.{arith}
use borrow.Author.Tests.{ltb-true, leb-true, lt-ltb, le-leb}
use lib.IntN.{ℤ, pos, negsuc}
use lib.ListN.{length, take, drop, length-append, length-drop, take-append-drop}
use lib.Seq.{take_at, drop_at, length-take-le}
use Rattle.bits.proofs.BitLists.{number_spell, length_spell}
use Rattle.bits.proofs.Complement.{signed_pos, signed_neg}
use Rattle.bits.specs.BitLists.{number, spell}
use Rattle.bits.specs.Signed.{signed, unsigned}
use Rattle.format.proofs.Bodies.{Threes, none, more}
use Rattle.format.proofs.Sames.{and_true, true_and, same_list_sound, same_list_refl, sameℤ_sound, sameℤ_refl}
use Rattle.format.proofs.Steps.{field_lt}
use Rattle.format.specs.Rows.{absent, Column, gap, plain, counts, Line, width_of, value_of, shape_width, values_of, body_width, rows_of, spell_values, spell_rows}
use Rattle.format.specs.Same.{same_list, sameℤ}
use Rattle.fitting.specs.Fits.{column_fits, values_fit, row_fits, rows_fit}

-- ---- what fits reads back

-- what a column makes of a value's bits
column_back : (c : Column) (v : ℤ) → column_fits c v ≡ true → value_of c (number (spell (width_of c) (unsigned (width_of c) v))) ≡ v
unfolding column_fits value_of width_of unsigned
column_back gap v fits = sym (sameℤ_sound v absent fits)
column_back (plain w) (pos n) fits = ap pos (number_spell w n ∙ mod-eq_of_lt (ltb-true n (2 ^ w) fits))
column_back (plain w) (negsuc n) fits = absurd (false≢true fits)
column_back (counts w) (pos n) fits =
    let half : n * 2 < 2 ^ w = ltb-true (n * 2) (2 ^ w) fits in
    ap (signed w) (number_spell w n ∙ mod-eq_of_lt (omega arith)) ∙ signed_pos w n half
column_back (counts w) (negsuc n) fits =
    let half : suc n * 2 ≤ 2 ^ w = leb-true (suc n * 2) (2 ^ w) fits in
    ap (signed w) (number_spell w (2 ^ w - suc n) ∙ mod-eq_of_lt (omega arith)) ∙ signed_neg w (2 ^ w - suc n) (omega arith) (omega arith) ∙ ap negsuc (omega arith)

pub fit_values : (cs : List Column) (vs : List ℤ) (more : List Bool) → values_fit cs vs ≡ true → values_of cs (spell_values cs vs ++ more) ≡ vs
unfolding values_fit values_of spell_values
fit_values [] [] rest fits = refl
fit_values [] (v ∷ vs) rest fits = absurd (false≢true fits)
fit_values (c ∷ cs) [] rest fits = absurd (false≢true fits)
fit_values (c ∷ cs) (v ∷ vs) rest fits =
    let w : ℕ = width_of c in
    let b : List Bool = spell w (unsigned w v) in
    let later : List Bool = spell_values cs vs ++ rest in
    let whole : length b ≡ w = length_spell w (unsigned w v) in
    let both = and_true (column_fits c v) (values_fit cs vs) fits in
    let first : take w ((b ++ spell_values cs vs) ++ rest) ≡ b = ap (take w) (append_assoc b (spell_values cs vs) rest) ∙ take_at b later w whole in
    let behind : drop w ((b ++ spell_values cs vs) ++ rest) ≡ later = ap (drop w) (append_assoc b (spell_values cs vs) rest) ∙ drop_at b later w whole in
    ap₂ ◌∷◌ (ap (λ (x : List Bool). value_of c (number x)) first ∙ column_back c v both.0)
    (ap (values_of cs) behind ∙ fit_values cs vs rest both.1)

-- and is as wide as its shape
pub fit_width : (cs : List Column) (vs : List ℤ) → values_fit cs vs ≡ true → length (spell_values cs vs) ≡ shape_width cs
unfolding values_fit spell_values shape_width
fit_width [] [] fits = refl
fit_width [] (v ∷ vs) fits = absurd (false≢true fits)
fit_width (c ∷ cs) [] fits = absurd (false≢true fits)
fit_width (c ∷ cs) (v ∷ vs) fits =
    let both = and_true (column_fits c v) (values_fit cs vs) fits in
    length-append (spell (width_of c) (unsigned (width_of c) v)) (spell_values cs vs)
    ∙ ap₂ ◌+◌ (length_spell (width_of c) (unsigned (width_of c) v)) (fit_width cs vs both.1)

-- one row's bits, whatever is behind them
row_back : (n : Line) (r : List ℤ) (more : List Bool) → row_fits n r ≡ true → n.keys ++ values_of n.shape (spell_values n.shape (drop 3 r) ++ more) ≡ r
unfolding row_fits
row_back n r rest fits =
    let both = and_true (same_list sameℤ (take 3 r) n.keys) (values_fit n.shape (drop 3 r)) fits in
    let front : n.keys ≡ take 3 r = sym (same_list_sound sameℤ sameℤ_sound (take 3 r) n.keys both.0) in
    ap₂ ◌++◌ front (fit_values n.shape (drop 3 r) rest both.1) ∙ take-append-drop 3 r

row_width : (n : Line) (r : List ℤ) → row_fits n r ≡ true → length (spell_values n.shape (drop 3 r)) ≡ shape_width n.shape
unfolding row_fits
row_width n r fits = fit_width n.shape (drop 3 r) (and_true (same_list sameℤ (take 3 r) n.keys) (values_fit n.shape (drop 3 r)) fits).1

pub fit_rows : (lines : List Line) (rows : List (List ℤ)) → rows_fit lines rows ≡ true
    → (rows_of lines (spell_rows lines rows) ≡ rows) × (length (spell_rows lines rows) ≡ body_width lines)
unfolding rows_fit rows_of spell_rows body_width
fit_rows [] [] fits = (refl, refl)
fit_rows [] (r ∷ rs) fits = absurd (false≢true fits)
fit_rows (n ∷ ns) [] fits = absurd (false≢true fits)
fit_rows (n ∷ ns) (r ∷ rs) fits =
    let both = and_true (row_fits n r) (rows_fit ns rs) fits in
    let b : List Bool = spell_values n.shape (drop 3 r) in
    let whole : length b ≡ shape_width n.shape = row_width n r both.0 in
    let others = fit_rows ns rs both.1 in
    let behind : drop (shape_width n.shape) (b ++ spell_rows ns rs) ≡ spell_rows ns rs = drop_at b (spell_rows ns rs) (shape_width n.shape) whole in
    let back : rows_of (n ∷ ns) (b ++ spell_rows ns rs) ≡ r ∷ rs = ap₂ ◌∷◌ (row_back n r (spell_rows ns rs) both.0) (ap (rows_of ns) behind ∙ others.0) in
    (back, length-append b (spell_rows ns rs) ∙ ap₂ ◌+◌ whole others.1)

-- as many rows as lines
pub fit_count : (lines : List Line) (rows : List (List ℤ)) → rows_fit lines rows ≡ true → length rows ≡ length lines
unfolding rows_fit
fit_count [] [] fits = refl
fit_count [] (r ∷ rs) fits = absurd (false≢true fits)
fit_count (n ∷ ns) [] fits = absurd (false≢true fits)
fit_count (n ∷ ns) (r ∷ rs) fits = ap suc (fit_count ns rs (and_true (row_fits n r) (rows_fit ns rs) fits).1)

-- ---- what is read fits

-- what w bits mean in two's complement
signed_fits : (w n : ℕ) → n < 2 ^ w → column_fits (counts w) (signed w n) ≡ true
unfolding column_fits
signed_fits w n small = go (dec_lt (n * 2) (2 ^ w))
  where
    go : Dec (n * 2 < 2 ^ w) → column_fits (counts w) (signed w n) ≡ true
    go (yes h) = rw (signed_pos w n h) (lt-ltb (n * 2) (2 ^ w) h)
    go (no h) = rw (signed_neg w n (omega arith) small) (le-leb (suc (2 ^ w - suc n) * 2) (2 ^ w) (omega arith))

column_fits_lem : (c : Column) (n : ℕ) → n < 2 ^ width_of c → column_fits c (value_of c n) ≡ true
unfolding column_fits value_of width_of
column_fits_lem gap n small = sameℤ_refl absent
column_fits_lem (plain w) n small = lt-ltb n (2 ^ w) small
column_fits_lem (counts w) n small = signed_fits w n small

pub values_fit_lem : (cs : List Column) (l : List Bool) → shape_width cs ≤ length l → values_fit cs (values_of cs l) ≡ true
unfolding shape_width values_of values_fit
values_fit_lem [] l room = refl
values_fit_lem (c ∷ cs) l room =
    let w : ℕ = width_of c in
    let whole : length (take w l) ≡ w = length-take-le w l (omega arith) in
    let rest : shape_width cs ≤ length (drop w l) = rw length-drop (omega arith) in
    true_and (column_fits_lem c (number (take w l)) (field_lt w (take w l) whole)) (values_fit_lem cs (drop w l) rest)

-- keys before values
row_fits_lem : (n : Line) (vs : List ℤ) → length n.keys ≡ 3 → values_fit n.shape vs ≡ true → row_fits n (n.keys ++ vs) ≡ true
unfolding row_fits
row_fits_lem n vs three fits = rw (take_at n.keys vs 3 three, drop_at n.keys vs 3 three) (true_and (same_list_refl sameℤ sameℤ_refl n.keys) fits)

pub rows_fit_lem : (lines : List Line) → Threes lines → (l : List Bool) → body_width lines ≤ length l → rows_fit lines (rows_of lines l) ≡ true
unfolding body_width rows_of rows_fit
rows_fit_lem [] none l room = refl
rows_fit_lem (n ∷ ns) (more three threes) l room =
    let w : ℕ = shape_width n.shape in
    let rest : body_width ns ≤ length (drop w l) = rw length-drop (omega arith) in
    true_and (row_fits_lem n (values_of n.shape l) three (values_fit_lem n.shape l (omega arith))) (rows_fit_lem ns threes (drop w l) rest)
