-- The lines of the rows of a row buffer, row by row. Assumes nothing.
use mathlib.Core.Path.{◌≡◌, refl, ap}
use mathlib.Core.List.{List, [], ◌++◌, flat_map}
use Prim.Native.Nat.{ℕ, zero, suc, ◌+◌, ◌*◌, ◌/◌, ◌≤◌, ◌<◌}
use native.Mathlib.Omega.{arith}
use lib.IntN.{ℤ}
use lib.ListN.{length, take, drop, length-append}
use lib.Seq.{take_at, drop_at, take-take, length-take-le}
use Rattle.std.proofs.lemmas.List.{drop-take}
use Rattle.format.specs.declared.Head.{Head}
use Rattle.format.specs.Listing.{record_text, letter_r, message_text}
use Rattle.format.specs.Writing.{rows_in}
use Rattle.lines.specs.Records.{opening_in, message_in}

-- the lines of n rows
unfoldable pub rows_text : ℕ → List ℤ → List ℕ
rows_text n rows = flat_map (record_text letter_r) (rows_in n rows)

pub all_rows : (n : ℕ) (rows : List ℤ) → flat_map (record_text letter_r) (rows_in n rows) ≡ rows_text n rows
unfolding rows_text
all_rows n rows = refl

-- of a buffer those of its front
pub front_rows : (n : ℕ) (rows front : List ℤ) → front ≡ take (8 * n) rows → 8 * n ≤ length rows → (length front / 8 ≡ n) × (rows_text (length front / 8) front ≡ rows_text n rows)
unfolding rows_text rows_in
front_rows n rows front same room =
    let count : length front / 8 ≡ n = omega (arith, ap length same, length-take-le (8 * n) rows room) in
    (count, rw (count, same, rows_front n rows))
  where
    rows_front : (n : ℕ) (rows : List ℤ) → rows_in n (take (8 * n) rows) ≡ rows_in n rows
    rows_front zero rows = refl
    rows_front (suc n) rows =
        let more : 8 * suc n ≡ 8 + 8 * n = omega arith in
        rw (more, take-take 8 (8 + 8 * n) rows (omega arith), drop-take 8 (8 * n) rows, rows_front n (drop 8 rows))

pub next_row : {all : List ℤ} (row rest : List ℤ) → all ≡ row ++ rest → length row ≡ 8
    → (length all / 8 ≡ suc (length rest / 8)) × (rows_text (length all / 8) all ≡ record_text letter_r row ++ rows_text (length rest / 8) rest)
unfolding rows_text rows_in flat_map
next_row {all} row rest same whole =
    let count : length all / 8 ≡ suc (length rest / 8) = omega (arith, ap length same, length-append row rest) in
    (count, rw (count, same, take_at row rest 8 whole, drop_at row rest 8 whole))

pub no_row : (rest : List ℤ) → length rest < 8 → rows_text (length rest / 8) rest ≡ []
unfolding rows_text rows_in flat_map
no_row rest few =
    let none : length rest / 8 ≡ 0 = omega arith in
    rw none

pub length_rows : (n : ℕ) (rows : List ℤ) → length (rows_in n rows) ≡ n
unfolding rows_in
length_rows zero rows = refl
length_rows (suc n) rows = ap suc (length_rows n (drop 8 rows))

-- a message in two parts
pub message_parts : (head : Head) (place next n : ℕ) (rows : List ℤ) → message_in head place next n rows ≡ opening_in head place next n ++ flat_map (record_text letter_r) (rows_in n rows)
unfolding message_text
message_parts head place next n rows = rw (length_rows n rows)
