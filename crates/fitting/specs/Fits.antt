-- Which rows fit their lines: a direct test of what a message can carry; document 01, "What is handed out", and refusal 12.
use Rattle.std.specs.Prelude.{Bool, true, false, ◌&&◌, List, [], ◌∷◌, suc, ◌*◌, ◌^◌, ltb, leb, ℤ, pos, negsuc, take, drop}
use Rattle.format.specs.Rows.{absent, Column, gap, plain, counts, Line}
use Rattle.format.specs.Same.{same_list, sameℤ}

-- a value that the bits of its column can mean: nothing, a number below 2 ^ w, two's complement from -2 ^ (w - 1) to 2 ^ (w - 1) - 1
-- (at width 0 this is 0 alone)
unfoldable pub column_fits : Column → ℤ → Bool
column_fits gap v = sameℤ v absent
column_fits (plain w) (pos n) = ltb n (2 ^ w)
column_fits (plain w) (negsuc n) = false
column_fits (counts w) (pos n) = ltb (n * 2) (2 ^ w)
column_fits (counts w) (negsuc n) = leb (suc n * 2) (2 ^ w)

-- as many values as columns, and each fits its column
unfoldable pub values_fit : List Column → List ℤ → Bool
values_fit [] [] = true
values_fit [] (v ∷ vs) = false
values_fit (c ∷ cs) [] = false
values_fit (c ∷ cs) (v ∷ vs) = column_fits c v && values_fit cs vs

-- a row: its line's three keys, then values that fit its line's shape
unfoldable pub row_fits : Line → List ℤ → Bool
row_fits n r = same_list sameℤ (take 3 r) n.keys && values_fit n.shape (drop 3 r)

-- as many rows as lines, and each fits its line
unfoldable pub rows_fit : List Line → List (List ℤ) → Bool
rows_fit [] [] = true
rows_fit [] (r ∷ rs) = false
rows_fit (n ∷ ns) [] = false
rows_fit (n ∷ ns) (r ∷ rs) = row_fits n r && rows_fit ns rs
