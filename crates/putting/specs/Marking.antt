-- The selection of sub types 6 and 11 as a word of 64 bits, the first satellite's bit the highest; and how code tells it, satellite by satellite.
use Rattle.std.specs.Prelude.{◌≡◌, Bool, true, false, cond, ◌&&◌, List, [], ◌∷◌, map, ℕ, ◌+◌, ◌-◌, ◌*◌, ◌/◌, ◌%◌, ◌^◌, ◌≤◌, ◌<◌, min, ltb, ℤ, pos, length, get_or, take, drop}
use Rattle.std.specs.Int.Count.{ones, count_leading_zeros}
use Rattle.bits.specs.BitLists.{number}
use Rattle.format.specs.Lengths.{total}
use Rattle.format.specs.Masks.{Satellite, pick}
use Rattle.format.specs.Same.{sameℤ, same_list}
use Rattle.holding.specs.Pictures.{filled}
use Rattle.putting.specs.declared.marks.Selected.{Selected}
use Rattle.putting.specs.declared.marks.Told.{Told}
use Rattle.pens.specs.declared.pen.Field.{Field}

-- ---- by how many rows each satellite has that is selected, a number beside each satellite

-- as many as its strip has cells (document 02, Ask 1), or one
unfoldable pub owns_of : Bool → List ℕ → List Satellite → List ℕ
owns_of true strips sats = map ones (take (length sats) strips)
owns_of false strips sats = map (λ s. 1) sats

-- which satellites have rows, the rows standing in their order
unfoldable pub marks_by : List ℕ → List Satellite → List (List ℤ) → List Bool
marks_by owns [] rows = []
marks_by [] (s ∷ ss) rows = []
marks_by (n ∷ ns) (s ∷ ss) [] = false ∷ marks_by ns ss []
marks_by (n ∷ ns) (s ∷ ss) (r ∷ rs) =
    let here = ltb 0 n && same_list sameℤ (take 2 r) (pos s.system ∷ pos s.number ∷ []) in
    here ∷ cond here (marks_by ns ss (drop n (r ∷ rs))) (marks_by ns ss (r ∷ rs))

unfoldable pub marks_word : List ℕ → List Satellite → List (List ℤ) → ℕ
marks_word owns sats rows = number (filled 64 false (marks_by owns sats rows))

-- and eight numbers for each row that those have
unfoldable pub marked_by : List ℕ → List Satellite → List (List ℤ) → Selected
marked_by owns sats rows = record { word = marks_word owns sats rows; told = 8 * total (λ n. n) (pick (marks_by owns sats rows) owns) }

-- ---- satellite by satellite, over the numbers of the rows

-- it has rows, one is left at this place, and its first two keys are the satellite's
unfoldable pub has_row : List ℤ → ℕ → ℕ → Satellite → Bool
has_row numbers at own s =
    ltb 0 own && (ltb at (length numbers) && (sameℤ (get_or numbers at (pos 0)) (pos s.system) && sameℤ (get_or numbers (at + 1) (pos 0)) (pos s.number)))

-- one satellite more, which has so many rows or none
abbrev pub told_by : Bool → ℕ → Told → Told
told_by true own t = record { at = t.at + 8 * own; next = t.next / 2; word = t.word + t.next }
told_by false own t = record { at = t.at; next = t.next / 2; word = t.word }

unfoldable pub told_after : List ℤ → List ℕ → List Satellite → Told → Told
told_after numbers owns [] t = t
told_after numbers [] (s ∷ ss) t = t
told_after numbers (n ∷ ns) (s ∷ ss) t = told_after numbers ns ss (told_by (has_row numbers t.at n s) n t)

-- the next satellite's place among all, which its bit shows; how many rows it has; and how many those from it on have
abbrev pub nth : Told → ℕ
nth t = count_leading_zeros 64 t.next

unfoldable pub own_at : Bool → List ℕ → ℕ → ℕ
own_at true strips bit = ones (get_or strips (count_leading_zeros 64 bit) 0)
own_at false strips bit = 1

abbrev pub owns_from : Bool → List ℕ → Told → List Satellite → List ℕ
owns_from cells strips t sats = owns_of cells (drop (nth t) strips) sats

-- a bit and a strip for each satellite from here on
pub record Covers (strips : List ℕ) (t : Told) (sats : List Satellite) : Type 0 where
  pub few : nth t + length sats ≤ 64
  pub striped : nth t + length sats ≤ length strips

-- whole rows, and bits left for what is to be told
pub record Tells (numbers : List ℤ) (t : Told) : Type 0 where
  pub whole : length numbers % 8 ≡ 0
  pub place : t.at % 8 ≡ 0
  pub small : t.word < 2 ^ 64
  pub room : t.word + 2 * t.next ≤ 2 ^ 64

-- ---- its bits, put out

-- so many bits of half a word, from its highest on
abbrev pub top_field : ℕ → ℕ → Field
top_field half width = record { width = width; value = half / 2 ^ (32 - width) }

-- the first n bits of a word, in two fields
unfoldable pub selection_fields : ℕ → ℕ → List Field
selection_fields chosen n = top_field (chosen / 2 ^ 32) (min n 32) ∷ top_field (chosen % 2 ^ 32) (n - min n 32) ∷ []
