-- Lines of output, value by value and row by row. Assumes nothing.
use mathlib.Core.Path.{◌≡◌, refl, sym, ap, ap₂, ◌∙◌}
use mathlib.Core.List.{List, [], ◌∷◌, ◌++◌, map, flat_map, append_assoc, append-nil}
use Prim.Native.Nat.{ℕ, ◌+◌, ◌*◌, ◌^◌, ◌≤◌, ◌<◌}
use native.Mathlib.Numerals.{add-one}
use native.Mathlib.Omega.{arith}
use lib.IntN.{ℤ, pos}
use lib.ListN.{length, get_or, drop, length-append, drop_of_length-le}
use lib.Seq.{drop-cons, take_all}
use lib.Signed.{mag}
use borrow.Author.Tests.{eq-eqb, ne_eqb}
use mir.Facts.{to_z-of_z}
use mir.Syntax.{w32}
use mir.Val.{to_z, of_z}
use Rattle.bits.proofs.Lists.{elements, taken}
use Rattle.format.proofs.Bodies.{All, none, more}
use Rattle.format.specs.Answers.{number_of}
use Rattle.format.specs.Listing.{value_text, record_text, letter_r, letter_b, missing_value, bad_text}
use Rattle.format.specs.Same.{sameℤ}
use Rattle.format.specs.Text.{tab, line_feed, dash, decimal}
use Rattle.text.proofs.Values.{value_long}
use Rattle.lines.specs.Records.{values_text, record_long, row_long}

-- ---- the values from the i-th on

unfoldable pub values_from : List ℤ → ℕ → List ℕ
values_from vs i = flat_map (λ v. tab ∷ value_text v) (drop i vs)

pub all_values : (letter : ℕ) (vs : List ℤ) → values_text letter vs ≡ (letter ∷ []) ++ values_from vs 0
unfolding values_text values_from
all_values letter vs = refl

pub next_value : (vs : List ℤ) (i : ℕ) → i < length vs → values_from vs i ≡ (tab ∷ value_text (get_or vs i (pos 0))) ++ values_from vs (i + 1)
unfolding values_from flat_map
next_value vs i there = rw (add-one, drop-cons vs i (pos 0) there)

pub no_value : (vs : List ℤ) (i : ℕ) → length vs ≤ i → values_from vs i ≡ []
unfolding values_from flat_map
no_value vs i past = rw (drop_of_length-le vs past)

-- ---- a line in parts

pub record_parts : (letter : ℕ) (vs : List ℤ) → record_text letter vs ≡ values_text letter vs ++ (line_feed ∷ [])
unfolding record_text values_text
record_parts letter vs = refl

-- the last value by itself
values_more : (vs : List ℤ) (v : ℤ)
    → flat_map (λ x. tab ∷ value_text x) (vs ++ (v ∷ [])) ++ (line_feed ∷ []) ≡ flat_map (λ x. tab ∷ value_text x) vs ++ ((tab ∷ value_text v) ++ (line_feed ∷ []))
unfolding flat_map
values_more [] v = ap (λ (l : List ℕ). l ++ (line_feed ∷ [])) (append-nil (tab ∷ value_text v))
values_more (x ∷ vs) v =
    append_assoc (tab ∷ value_text x) (flat_map (λ x. tab ∷ value_text x) (vs ++ (v ∷ []))) (line_feed ∷ []) ∙ ap (λ (l : List ℕ). (tab ∷ value_text x) ++ l) (values_more vs v)
    ∙ sym (append_assoc (tab ∷ value_text x) (flat_map (λ x. tab ∷ value_text x) vs) ((tab ∷ value_text v) ++ (line_feed ∷ [])))

pub one_more : (letter : ℕ) (vs : List ℤ) (v : ℤ) → record_text letter (vs ++ (v ∷ [])) ≡ values_text letter vs ++ ((tab ∷ value_text v) ++ (line_feed ∷ []))
unfolding record_text values_text
one_more letter vs v = ap (◌∷◌ letter) (values_more vs v)

-- ---- a stop's last value

pub missing_said_lem : (number missing : ℕ) → number ≡ 3 → value_text (missing_value number missing) ≡ decimal missing
unfolding missing_value number_of value_text
missing_said_lem number missing e = rw (eq-eqb number 3 e)

pub missing_unsaid : (number missing : ℕ) → ¬ (number ≡ 3) → value_text (missing_value number missing) ≡ dash ∷ []
unfolding missing_value number_of value_text sameℤ
missing_unsaid number missing other = rw (ne_eqb number 3 other)

-- ---- how long a line is at most

-- a value of 32 bits
abbrev pub Small : ℤ → Type 0
Small v = mag v < 2 ^ 31

values_long : (vs : List ℤ) → All Small vs → length (flat_map (λ v. tab ∷ value_text v) vs) ≤ 12 * length vs
unfolding flat_map
values_long [] none = omega arith
values_long (v ∷ vs) (more small rest) =
    omega (arith, length-append (tab ∷ value_text v) (flat_map (λ v. tab ∷ value_text v) vs), value_long v small, values_long vs rest)

pub record_long_lem : (letter : ℕ) (vs : List ℤ) → All Small vs → length (record_text letter vs) ≤ record_long (length vs)
unfolding record_text values_text
record_long_lem letter vs small =
    omega (arith, length-append (flat_map (λ v. tab ∷ value_text v) vs) (line_feed ∷ []), values_long vs small)

-- and without its line feed
pub values_shorter : (letter : ℕ) (vs : List ℤ) → length (record_text letter vs) ≡ length (values_text letter vs) + 1
values_shorter letter vs = ap length (record_parts letter vs) ∙ length-append (values_text letter vs) (line_feed ∷ [])

-- ---- values as code has them

pub as_read : (vs : List ℤ) → All Small vs → map (λ v. to_z w32 (of_z w32 v)) vs ≡ vs
as_read [] none = refl
as_read (v ∷ vs) (more small rest) = ap₂ ◌∷◌ (to_z-of_z {w = w32} (record { sfits = small })) (as_read vs rest)

-- the eight of a row
abbrev pub eight : List ℤ → List ℤ
eight row =
    get_or row 0 (pos 0) ∷ get_or row 1 (pos 0) ∷ get_or row 2 (pos 0) ∷ get_or row 3 (pos 0)
    ∷ get_or row 4 (pos 0) ∷ get_or row 5 (pos 0) ∷ get_or row 6 (pos 0) ∷ get_or row 7 (pos 0) ∷ []

pub row_read : (row : List ℤ) → length row ≡ 8 → All Small (eight row)
    → (map (λ v. to_z w32 (of_z w32 v)) (eight row) ≡ row) × (length (record_text letter_r row) ≤ row_long)
unfolding elements
row_read row whole small =
    let same : eight row ≡ row = sym (taken (pos 0) row 0 0 8 (omega arith)) ∙ take_all 8 row (omega arith) in
    (as_read (eight row) small ∙ same, rw same at (record_long_lem letter_r (eight row) small))

-- ---- the line of one number

pub bad_parts : (k : ℕ) → bad_text k ≡ (letter_b ∷ []) ++ ((tab ∷ []) ++ (decimal k ++ (line_feed ∷ [])))
unfolding bad_text record_text flat_map value_text
bad_parts k = ap (λ (l : List ℕ). letter_b ∷ tab ∷ (l ++ (line_feed ∷ []))) (append-nil (decimal k))
