-- Bodies: what reading one makes, that its rows spell just its bits again, and that each row has its line's keys and values of its line's columns.
-- Assumes nothing.
use mathlib.Core.Path.{◌≡◌, refl, sym, ap, ap₂, ◌∙◌}
use mathlib.Core.Bool.{Bool, true, ◌&&◌, and-eq-true_iff}
use mathlib.Core.List.{List, [], ◌∷◌, ◌++◌, append-nil, map}
use Prim.Native.Nat.{ℕ, zero, suc, ◌+◌, ◌*◌, ◌^◌, ◌≤◌, ◌<◌}
use native.Mathlib.Nat.{le_of_suc-le-suc}
use native.Mathlib.Omega.{arith}
use borrow.Author.Tests.{leb-true}
use lib.Dec.{leb}
use lib.IntN.{ℤ, pos-ne-negsuc}
use lib.ListN.{length, take, drop, get_or, length-drop}
use lib.Pow.{pow_mono}
use lib.Seq.{take-add, drop_at, drop-drop, take_all, length-take-le}
use Rattle.bits.proofs.Complement.{unsigned_signed, signed_range}
use Rattle.bits.specs.BitLists.{number, spell}
use Rattle.bits.specs.Signed.{unsigned}
use Rattle.format.specs.Layouts.{numbers, line_at, column_at}
use Rattle.format.specs.Messages.{body, bodied, Heading, Content}
use Rattle.format.specs.Programs.{done, ◌>>=◌, taking, Program}
use Rattle.format.specs.Rows.{absent, Column, gap, plain, counts, Line, width_of, value_of, shape_width, values_of, body_width, rows_of, spell_values, spell_rows}
use Rattle.format.proofs.Steps.{field_spelled, field_lt, Gives, gives_done, gives_taking, gives_bind}

-- ---- what is read

-- all of the body's bits, and the rows that they make
pub body_gives : (lines : List Line) → Gives (body lines) (λ rows b. (length b ≡ body_width lines) × (rows ≡ rows_of lines b))
unfolding body taking ◌>>=◌
body_gives lines = gives_taking (body_width lines) (λ b. done (rows_of lines b)) λ b whole. gives_done (rw append-nil (whole, refl))

-- what a heading gives, its message gives, with the bits of the body behind
pub bodied_gives : {P : Heading → List Bool → Type 0} {Q : Content → List Bool → Type 0} {p : Program Heading} → Gives p P
    → ((d : Heading) (b l : List Bool) → P d b → length l ≡ body_width d.lines → Q (record { head = d.head; rows = rows_of d.lines l }) (b ++ l))
    → Gives (bodied p) Q
unfolding bodied
bodied_gives g h =
    gives_bind g λ d b it.
    gives_bind (body_gives d.lines) λ rows l whole.
    gives_done (rw (whole.1, append-nil) (h d b l it whole.0))

-- ---- the bits of what was read

-- what a column's bits mean, spelled in its width, is the bits
column_spelled : (c : Column) (b : List Bool) → length b ≡ width_of c → spell (width_of c) (unsigned (width_of c) (value_of c (number b))) ≡ b
unfolding width_of value_of spell unsigned
column_spelled gap [] e = refl
column_spelled gap (x ∷ b) e = absurd (omega arith)
column_spelled (plain w) b e = field_spelled w b e
column_spelled (counts w) b e = ap (spell w) (unsigned_signed w (number b) (field_lt w b e)) ∙ field_spelled w b e

values_spelled : (cs : List Column) (l : List Bool) → shape_width cs ≤ length l → spell_values cs (values_of cs l) ≡ take (shape_width cs) l
unfolding shape_width values_of spell_values
values_spelled [] l room = refl
values_spelled (c ∷ cs) l room =
    let rest : shape_width cs ≤ length (drop (width_of c) l) = rw length-drop (omega arith) in
    ap₂ ◌++◌ (column_spelled c (take (width_of c) l) (length-take-le (width_of c) l (omega arith))) (values_spelled cs (drop (width_of c) l) rest)
    ∙ sym (take-add (width_of c) (shape_width cs) l)

-- all of a list
pub data All {A : Type 0} (P : A → Type 0) : List A → Type 0 where
  none : All P []
  more : {x : A} {xs : List A} → P x → All P xs → All P (x ∷ xs)

pub all_map : {A B : Type 0} {P : B → Type 0} (f : A → B) (xs : List A) → ((x : A) → P (f x)) → All P (map f xs)
all_map f [] p = none
all_map f (x ∷ xs) p = more (p x) (all_map f xs p)

pub all_weaken : {A : Type 0} {P Q : A → Type 0} {xs : List A} → ((x : A) → P x → Q x) → All P xs → All Q xs
all_weaken f none = none
all_weaken f (more p ps) = more (f _ p) (all_weaken f ps)

pub all_append : {A : Type 0} {P : A → Type 0} {xs ys : List A} → All P xs → All P ys → All P (xs ++ ys)
all_append none qs = qs
all_append (more p ps) qs = more p (all_append ps qs)

-- every line has three keys
abbrev pub Threes : List Line → Type 0
Threes lines = All (λ n. length n.keys ≡ 3) lines

front_spelled : (lines : List Line) (l : List Bool) → Threes lines → body_width lines ≤ length l → spell_rows lines (rows_of lines l) ≡ take (body_width lines) l
unfolding body_width rows_of spell_rows
front_spelled [] l none room = refl
front_spelled (n ∷ ns) l (more three threes) room =
    let w : ℕ = shape_width n.shape in
    let rest : body_width ns ≤ length (drop w l) = rw length-drop (omega arith) in
    ap₂ ◌++◌ (ap (spell_values n.shape) (drop_at n.keys (values_of n.shape l) 3 three) ∙ values_spelled n.shape l (omega arith))
    (front_spelled ns (drop w l) threes rest)
    ∙ sym (take-add w (body_width ns) l)

pub rows_spelled : (lines : List Line) (l : List Bool) → Threes lines → length l ≡ body_width lines → spell_rows lines (rows_of lines l) ≡ l
rows_spelled lines l threes e = front_spelled lines l threes (omega arith) ∙ take_all (body_width lines) l (omega arith)

-- ---- the rows, one for each line

pub rows_count : (lines : List Line) (l : List Bool) → length (rows_of lines l) ≡ length lines
unfolding rows_of
rows_count [] l = refl
rows_count (n ∷ ns) l = ap suc (rows_count ns (drop (shape_width n.shape) l))

-- the k-th row has the k-th line's keys, and values from the bits behind the rows before it
pub row_at : (lines : List Line) (l : List Bool) (k : ℕ) → k < length lines
    → get_or (rows_of lines l) k [] ≡ (line_at lines k).keys ++ values_of (line_at lines k).shape (drop (body_width (take k lines)) l)
unfolding rows_of body_width
row_at [] l k h = absurd (omega arith)
row_at (n ∷ ns) l zero h = refl
row_at (n ∷ ns) l (suc k) h =
    row_at ns (drop (shape_width n.shape) l) k (le_of_suc-le-suc h)
    ∙ ap (λ (m : List Bool). (line_at ns k).keys ++ values_of (line_at ns k).shape m) (drop-drop (body_width (take k ns)) (shape_width n.shape) l)

-- these bits are the body's
pub row_inside : (lines : List Line) (k : ℕ) → body_width (take k lines) + shape_width (line_at lines k).shape ≤ body_width lines
unfolding body_width shape_width
row_inside [] zero = omega arith
row_inside [] (suc k) = omega arith
row_inside (n ∷ ns) zero = omega arith
row_inside (n ∷ ns) (suc k) = omega (arith, row_inside ns k)

-- the j-th value is what its column makes of the bits behind the columns before it
abbrev pub value_in : List Column → List Bool → ℕ → ℤ
value_in cs l j = value_of (column_at cs j) (number (take (width_of (column_at cs j)) (drop (shape_width (take j cs)) l)))

numbers_next : {A : Type 0} (f : ℕ → A) (k n : ℕ) → map f (numbers (suc k) n) ≡ map (λ j. f (suc j)) (numbers k n)
unfolding numbers
numbers_next f k zero = refl
numbers_next {A} f k (suc n) = ap (λ (l : List A). f (suc k) ∷ l) (numbers_next f (suc k) n)

pub values_at_lem : (cs : List Column) (l : List Bool) → values_of cs l ≡ map (value_in cs l) (numbers 0 (length cs))
unfolding values_of shape_width numbers
values_at_lem [] l = refl
values_at_lem (c ∷ cs) l =
    let behind : (j : ℕ) → value_in cs (drop (width_of c) l) j ≡ value_in (c ∷ cs) l (suc j) =
    λ j. ap (λ (m : List Bool). value_of (column_at cs j) (number (take (width_of (column_at cs j)) m))) (drop-drop (shape_width (take j cs)) (width_of c) l) in
    ap (λ (vs : List ℤ). value_of c (number (take (width_of c) l)) ∷ vs)
    (values_at_lem cs (drop (width_of c) l) ∙ (λ i. map (λ j. behind j i) (numbers 0 (length cs))) ∙ sym (numbers_next (value_in (c ∷ cs) l) 0 (length cs)))

-- these bits are the row's
pub value_inside : (cs : List Column) (j : ℕ) → shape_width (take j cs) + width_of (column_at cs j) ≤ shape_width cs
unfolding shape_width width_of
value_inside [] zero = omega arith
value_inside [] (suc j) = omega arith
value_inside (c ∷ cs) zero = omega arith
value_inside (c ∷ cs) (suc j) = omega (arith, value_inside cs j)

-- ---- what isn't there

-- columns with values that are never absent: numbers, two's complement of 15 bits at most
unfoldable pub sure : List Column → Bool
sure [] = true
sure (gap ∷ cs) = sure cs
sure (plain w ∷ cs) = sure cs
sure (counts w ∷ cs) = leb w 15 && sure cs

-- so what is absent is a gap
pub absent_gap : (cs : List Column) (j n : ℕ) → sure cs ≡ true → n < 2 ^ width_of (column_at cs j) → value_of (column_at cs j) n ≡ absent → column_at cs j ≡ gap
unfolding sure value_of width_of
absent_gap [] j n e small missing = refl
absent_gap (gap ∷ cs) zero n e small missing = refl
absent_gap (plain w ∷ cs) zero n e small missing = absurd (pos-ne-negsuc n 32767 missing)
absent_gap (counts w ∷ cs) zero n e small missing =
    let low : 32767 * 2 < 2 ^ w = rw missing at (signed_range w n small) in
    let high : 2 ^ w ≤ 2 ^ 15 = pow_mono (leb-true w 15 ((and-eq-true_iff (leb w 15) _).0 e).0) in
    absurd (omega arith)
absent_gap (gap ∷ cs) (suc j) n e small missing = absent_gap cs j n e small missing
absent_gap (plain w ∷ cs) (suc j) n e small missing = absent_gap cs j n e small missing
absent_gap (counts w ∷ cs) (suc j) n e small missing = absent_gap cs j n ((and-eq-true_iff (leb w 15) _).0 e).1 small missing
