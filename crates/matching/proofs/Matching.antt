-- How far rows fit lines: by the parts of the lines, and what it says of all rows together. And a loop that tests them line by line.
-- Assumes nothing.
use Rattle.bits.proofs.Words.{◌≡◌, refl, sym, ap, ◌∙◌, subst, Bool, true, false, cond, ◌&&◌, List, [], ◌∷◌, ◌++◌, ℕ, zero, suc, ◌+◌, ◌*◌, ◌≤◌, arith, eqb, leb, length, take, drop, ℤ}
use mathlib.Core.Bool.{false≢true}
use lib.Seq.{drop-drop, take-take, take-add, drop_at, length-take-le}
use lib.ListN.{length-drop}
use borrow.Author.Tests.{leb-true, leb-false, le-leb, lt-leb, eq-eqb, ne_eqb}
use Rattle.format.specs.Rows.{Line}
use Rattle.format.specs.Writing.{rows_in}
use Rattle.format.proofs.Sames.{and_true}
use Rattle.matching.specs.declared.fits.Matched.{Matched}
use Rattle.matching.specs.declared.fits.Matched.TheVariants.{Not, To}
use Rattle.fitting.specs.Fits.{row_fits, rows_fit}
use Rattle.matching.specs.Matching.{matched_at}

-- whether a row is there from the k-th number on, and fits a line
abbrev pub fits_at : Line → List ℤ → ℕ → Bool
fits_at n numbers k = leb (k + 8) (length numbers) && row_fits n (take 8 (drop k numbers))

row_there : (n : Line) (numbers : List ℤ) (k : ℕ) → fits_at n numbers k ≡ true → k + 8 ≤ length numbers
row_there n numbers k there = leb-true (k + 8) (length numbers) (and_true (leb (k + 8) (length numbers)) _ there).0

-- of the numbers from another one on
pub fits_behind : (n : Line) (numbers : List ℤ) (from k : ℕ) → from ≤ length numbers → fits_at n (drop from numbers) k ≡ fits_at n numbers (from + k)
fits_behind n numbers from k within =
    let far : leb (k + 8) (length (drop from numbers)) ≡ leb (from + k + 8) (length numbers) = leb_by (k + 8) (length (drop from numbers)) (from + k + 8) (length numbers) (omega (arith, length-drop from numbers)) in
    λ i. far i && row_fits n (take 8 (drop-drop k from numbers i))
  where
    leb_by : (a b x y : ℕ) → a + y ≡ x + b → leb a b ≡ leb x y
    leb_by a b x y e = go (leb a b) refl
      where
        go : (t : Bool) → leb a b ≡ t → t ≡ leb x y
        go true so = sym (le-leb x y (omega (arith, leb-true a b so)))
        go false so = sym (lt-leb x y (omega (arith, leb-false a b so)))

-- ---- the lines in two parts

-- from where the first part ends on
unfoldable onward : Matched → (ℕ → Matched) → Matched
onward Not more = Not
onward (To k) more = more k

parts : (some more : List Line) (numbers : List ℤ) (k : ℕ) → matched_at (some ++ more) numbers k ≡ onward (matched_at some numbers k) (matched_at more numbers)
unfolding matched_at onward
parts [] more numbers k = refl
parts (n ∷ ns) more numbers k = go (fits_at n numbers k) (parts ns more numbers (k + 8))
  where
    go : (b : Bool) → matched_at (ns ++ more) numbers (k + 8) ≡ onward (matched_at ns numbers (k + 8)) (matched_at more numbers)
        → cond b (matched_at (ns ++ more) numbers (k + 8)) Not ≡ onward (cond b (matched_at ns numbers (k + 8)) Not) (matched_at more numbers)
    go true e = e
    go false e = refl

-- where they end is within the numbers
inside : (lines : List Line) (numbers : List ℤ) (k j : ℕ) → k ≤ length numbers → To j ≡ matched_at lines numbers k → j ≤ length numbers
unfolding matched_at
inside [] numbers k j within e = let same : j ≡ k = cc in omega arith
inside (n ∷ ns) numbers k j within e = go (fits_at n numbers k) refl e (inside ns numbers (k + 8) j)
  where
    go : (b : Bool) → fits_at n numbers k ≡ b → To j ≡ cond b (matched_at ns numbers (k + 8)) Not
        → (k + 8 ≤ length numbers → To j ≡ matched_at ns numbers (k + 8) → j ≤ length numbers) → j ≤ length numbers
    go true there e rest = rest (row_there n numbers k there) e
    go false there e rest = absurd (false≢true cc)

-- ---- all rows

-- all lines have a row that fits, and behind the last one there is no number
unfoldable pub ended : ℕ → Matched → Bool
ended end Not = false
ended end (To k) = eqb k end

whole : (lines : List Line) (count k : ℕ) (numbers : List ℤ) → length numbers ≡ k + 8 * count → rows_fit lines (rows_in count (drop k numbers)) ≡ ended (length numbers) (matched_at lines numbers k)
unfolding rows_fit rows_in matched_at ended
whole [] zero k numbers long = sym (eq-eqb k (length numbers) (omega arith))
whole [] (suc count) k numbers long = sym (ne_eqb k (length numbers) (λ e. omega arith))
whole (n ∷ ns) zero k numbers long = rw (lt-leb (k + 8) (length numbers) (omega arith))
whole (n ∷ ns) (suc count) k numbers long =
    rw (le-leb (k + 8) (length numbers) (omega arith), drop-drop 8 k numbers) (go (row_fits n (take 8 (drop k numbers))) (whole ns count (k + 8) numbers (omega arith)))
  where
    go : (b : Bool) → rows_fit ns (rows_in count (drop (k + 8) numbers)) ≡ ended (length numbers) (matched_at ns numbers (k + 8))
        → (b && rows_fit ns (rows_in count (drop (k + 8) numbers))) ≡ ended (length numbers) (cond b (matched_at ns numbers (k + 8)) Not)
    go true e = e
    go false e = refl

-- the rows of the first numbers alone
front : (count : ℕ) (numbers : List ℤ) → 8 * count ≤ length numbers → rows_in count (take (8 * count) numbers) ≡ rows_in count numbers
unfolding rows_in
front zero numbers some = refl
front (suc count) numbers some =
    let more : 8 * suc count ≡ 8 + 8 * count = omega arith in
    let row : take 8 (take (8 * suc count) numbers) ≡ take 8 numbers = take-take 8 (8 * suc count) numbers (omega arith) in
    let rest : drop 8 (take (8 * suc count) numbers) ≡ take (8 * count) (drop 8 numbers) =
    ap (λ (n : ℕ). drop 8 (take n numbers)) more ∙ ap (drop 8) (take-add 8 (8 * count) numbers) ∙ drop_at (take 8 numbers) (take (8 * count) (drop 8 numbers)) 8 (length-take-le 8 numbers (omega arith)) in
    rw (row, rest) (ap (λ (rows : List (List ℤ)). take 8 numbers ∷ rows) (front count (drop 8 numbers) (rw length-drop (omega arith))))

pub all_rows : (lines : List Line) (count : ℕ) (numbers : List ℤ) → 8 * count ≤ length numbers
    → rows_fit lines (rows_in count numbers) ≡ ended (8 * count) (matched_at lines (take (8 * count) numbers) 0)
all_rows lines count numbers some =
    let long : length (take (8 * count) numbers) ≡ 8 * count = length-take-le (8 * count) numbers some in
    ap (rows_fit lines) (sym (front count numbers some)) ∙ whole lines count 0 (take (8 * count) numbers) (omega arith)
    ∙ ap (λ (n : ℕ). ended n (matched_at lines (take (8 * count) numbers) 0)) long

-- ---- a loop

-- from where it is, the lines that are left tell how far the rows fit all
pub record Tests (all : List Line) (numbers : List ℤ) (from : ℕ) (left : List Line) (k : ℕ) : Type 0 where
  pub same : matched_at left numbers k ≡ matched_at all numbers from
  pub within : k ≤ length numbers

pub tests_start : {all : List Line} {numbers : List ℤ} {from : ℕ} → from ≤ length numbers → Tests all numbers from all from
tests_start some = record { same = refl; within = some }

module _ {all : List Line} {numbers : List ℤ} {from : ℕ} {left : List Line} {k : ℕ} (t : Tests all numbers from left k) where
  -- the lines that are left, by another name
  pub tests_by : {others : List Line} → left ≡ others → Tests all numbers from others k
  tests_by e = record { same = ap (λ (l : List Line). matched_at l numbers k) (sym e) ∙ t.same; within = t.within }

  -- where it is, said in another way
  pub tests_at : (j : ℕ) → k ≡ j → Tests all numbers from left j
  tests_at j e = subst (Tests all numbers from left) e t

  -- one row
  module _ (n : Line) (ns : List Line) (e : left ≡ n ∷ ns) (b : Bool) (tested : b ≡ fits_at n numbers k) where
    pub row_fits_lem : b ≡ true → Tests all numbers from ns (k + 8)
    unfolding matched_at
    row_fits_lem well =
        let there : fits_at n numbers k ≡ true = sym tested ∙ well in
        let rest : matched_at left numbers k ≡ matched_at ns numbers (k + 8) = rw (e, there) in
        record { same = sym rest ∙ t.same; within = row_there n numbers k there }

    pub row_fails : b ≡ false → Not ≡ matched_at all numbers from
    unfolding matched_at
    row_fails badly =
        let there : fits_at n numbers k ≡ false = sym tested ∙ badly in
        let none : matched_at left numbers k ≡ Not = rw (e, there) in
        sym none ∙ t.same

  -- the lines of a call
  module _ (some more : List Line) (e : left ≡ some ++ more) (far : Matched) (told : far ≡ matched_at some numbers k) where
    together : onward far (matched_at more numbers) ≡ matched_at all numbers from
    together = ap (λ (m : Matched). onward m (matched_at more numbers)) told ∙ sym (parts some more numbers k) ∙ ap (λ (l : List Line). matched_at l numbers k) (sym e) ∙ t.same

    pub call_fits : (j : ℕ) → far ≡ To j → Tests all numbers from more j
    unfolding onward
    call_fits j to =
        record { same = ap (λ (m : Matched). onward m (matched_at more numbers)) (sym to) ∙ together; within = inside some numbers k j t.within (sym to ∙ told) }

    pub call_fails : far ≡ Not → Not ≡ matched_at all numbers from
    unfolding onward
    call_fails badly = ap (λ (m : Matched). onward m (matched_at more numbers)) (sym badly) ∙ together

  -- none is left
  pub tests_end : left ≡ [] → To k ≡ matched_at all numbers from
  unfolding matched_at
  tests_end none = ap (λ (l : List Line). matched_at l numbers k) (sym none) ∙ t.same
