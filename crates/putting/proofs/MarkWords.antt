-- The marks of satellites that have rows, as a word of 64 bits: what code tells satellite by satellite is that word, and its first bits are the marks.
-- Assumes nothing.
use Rattle.bits.proofs.Words.{◌≡◌, refl, sym, ap, subst, ◌∙◌, Bool, true, false, cond, ◌&&◌, List, [], ◌∷◌, ◌++◌, map, ℕ, zero, suc, ◌+◌, ◌-◌, ◌*◌, ◌/◌, ◌%◌, ◌^◌, ◌≤◌, ◌<◌, add-one, arith, ltb, length, get_or, take, drop, ℤ, pos}
use mathlib.Core.Bool.{and-true, and-false}
use native.Mathlib.Decide.{dec_lt}
use native.Mathlib.Nat.{add-mul, mul_assoc, pow-suc, suc-add}
use borrow.Author.Tests.{lt-ltb, le-ltb}
use lib.Count.{ones}
use lib.ListN.{replicate, length-append, length-map, length-replicate, length-drop}
use lib.Pow.{pow-add, shl-shr}
use lib.Seq.{drop-cons, drop-drop, take-take, take-add, take_at, drop_at, length-take-le}
use Rattle.bits.proofs.BitLists.{number_lt, number_append, spell_number}
use Rattle.bits.specs.BitLists.{digit, number, spell}
use Rattle.format.proofs.Lengths.{total_same}
use Rattle.format.proofs.Picks.{pick_front}
use Rattle.format.specs.Lengths.{total}
use Rattle.format.specs.Masks.{Satellite, pick}
use Rattle.format.specs.Same.{same_list, sameℤ}
use Rattle.format.specs.Spelling.{marks}
use Rattle.format.specs.Writing.{rows_in}
use Rattle.holding.specs.Pictures.{filled}
use Rattle.putting.specs.declared.marks.Told.{Told}
use Rattle.putting.specs.Marking.{owns_of, marks_by, marks_word, marked_by, has_row, told_by, told_after, Tells}
use Rattle.putting.proofs.Marking.{tells_next, bit_next}

-- ---- how many rows each has, as a list

-- it is format's marks
pub marks_by_lem : (own : Satellite → ℕ) (sats : List Satellite) (rows : List (List ℤ)) → marks_by (map own sats) sats rows ≡ marks own sats rows
unfolding marks_by marks
marks_by_lem own [] rows = refl
marks_by_lem own (s ∷ ss) [] = ap (λ (l : List Bool). false ∷ l) (marks_by_lem own ss [])
marks_by_lem own (s ∷ ss) (r ∷ rs) = rw (marks_by_lem own ss (drop (own s) (r ∷ rs)), marks_by_lem own ss (r ∷ rs))

-- one for each satellite
pub owns_count : (cells : Bool) (strips : List ℕ) (sats : List Satellite) → length sats ≤ length strips → length (owns_of cells strips sats) ≡ length sats
unfolding owns_of
owns_count true strips sats striped = length-map (take (length sats) strips) ones ∙ length-take-le (length sats) strips striped
owns_count false strips sats striped = length-map sats _

-- and so a bit for each
pub marks_count : (owns : List ℕ) (sats : List Satellite) (rows : List (List ℤ)) → length owns ≡ length sats → length (marks_by owns sats rows) ≡ length sats
unfolding marks_by
marks_count owns [] rows each = refl
marks_count [] (s ∷ ss) rows each = absurd (omega arith)
marks_count (n ∷ ns) (s ∷ ss) [] each = ap suc (marks_count ns ss [] (omega arith))
marks_count (n ∷ ns) (s ∷ ss) (r ∷ rs) each =
    ap suc (go (ltb 0 n && same_list sameℤ (take 2 r) (pos s.system ∷ pos s.number ∷ [])) (marks_count ns ss (drop n (r ∷ rs)) (omega arith)) (marks_count ns ss (r ∷ rs) (omega arith)))
  where
    go : (here : Bool) → length (marks_by ns ss (drop n (r ∷ rs))) ≡ length ss → length (marks_by ns ss (r ∷ rs)) ≡ length ss
        → length (cond here (marks_by ns ss (drop n (r ∷ rs))) (marks_by ns ss (r ∷ rs))) ≡ length ss
    go true e f = e
    go false e f = f

-- eight numbers for each row of those that have rows
total_picked : (own : Satellite → ℕ) (bits : List Bool) (sats : List Satellite) → total (λ n. n) (pick bits (map own sats)) ≡ total own (pick bits sats)
unfolding pick total
total_picked own [] sats = refl
total_picked own (b ∷ bits) [] = refl
total_picked own (true ∷ bits) (s ∷ ss) = ap (λ (n : ℕ). own s + n) (total_picked own bits ss)
total_picked own (false ∷ bits) (s ∷ ss) = total_picked own bits ss

pub told_by_lem : (own : Satellite → ℕ) (sats : List Satellite) (rows : List (List ℤ)) → (marked_by (map own sats) sats rows).told ≡ 8 * total own (pick (marks own sats rows) sats)
unfolding marked_by
told_by_lem own sats rows =
    ap (λ (n : ℕ). 8 * n) (total_picked own (marks_by (map own sats) sats rows) sats ∙ ap (λ (l : List Bool). total own (pick l sats)) (marks_by_lem own sats rows))

-- and for each satellite, where each has one row
pub told_ones : (strips : List ℕ) (sats : List Satellite) (rows : List (List ℤ))
    → (marked_by (owns_of false strips sats) sats rows).told ≡ 8 * length (pick (marks (λ s. 1) sats rows) sats)
unfolding owns_of
told_ones strips sats rows =
    let chosen : List Satellite = pick (marks (λ s. 1) sats rows) sats in
    omega (arith, told_by_lem (λ s. 1) sats rows, total_same (λ s. 1) 1 chosen (λ s. refl))

-- ---- the marks by the place of the next row

-- the rows from a place on
unfoldable rows_from : List ℤ → ℕ → List (List ℤ)
rows_from numbers at = rows_in ((length numbers - at) / 8) (drop at numbers)

next_row : (numbers : List ℤ) (at : ℕ) → at + 8 ≤ length numbers → rows_from numbers at ≡ take 8 (drop at numbers) ∷ rows_from numbers (at + 8)
unfolding rows_from rows_in
next_row numbers at room =
    let left : (length numbers - at) / 8 ≡ suc ((length numbers - (at + 8)) / 8) = omega arith in
    rw (left, drop-drop 8 at numbers)

no_row : (numbers : List ℤ) (at : ℕ) → length numbers ≤ at → rows_from numbers at ≡ []
unfolding rows_from rows_in
no_row numbers at past =
    let none : (length numbers - at) / 8 ≡ 0 = omega arith in
    rw none

-- its first two keys
two_keys : (numbers : List ℤ) (at : ℕ) → at + 8 ≤ length numbers → take 2 (take 8 (drop at numbers)) ≡ get_or numbers at (pos 0) ∷ get_or numbers (at + 1) (pos 0) ∷ []
two_keys numbers at room =
    take-take 2 8 (drop at numbers) (omega arith)
    ∙ ap (take 2) (drop-cons numbers at (pos 0) (omega arith) ∙ ap (λ (l : List ℤ). get_or numbers at (pos 0) ∷ l) (drop-cons numbers (suc at) (pos 0) (omega arith)))
    ∙ ap (λ (i : ℕ). get_or numbers at (pos 0) ∷ get_or numbers i (pos 0) ∷ []) (sym (add-one at))

-- so many rows past
rows_past : (n : ℕ) (numbers : List ℤ) (at : ℕ) → length numbers % 8 ≡ 0 → at % 8 ≡ 0 → drop n (rows_from numbers at) ≡ rows_from numbers (at + 8 * n)
rows_past zero numbers at whole place = let same : at ≡ at + 8 * 0 = omega arith in ap (rows_from numbers) same
rows_past (suc n) numbers at whole place = go (dec_lt at (length numbers)) (rows_past n numbers (at + 8) whole (omega arith))
  where
    go : Dec (at < length numbers) → drop n (rows_from numbers (at + 8)) ≡ rows_from numbers (at + 8 + 8 * n) → drop (suc n) (rows_from numbers at) ≡ rows_from numbers (at + 8 * suc n)
    go (yes inside) past =
        let far : at + 8 + 8 * n ≡ at + 8 * suc n = omega arith in
        ap (drop (suc n)) (next_row numbers at (omega arith)) ∙ past ∙ ap (rows_from numbers) far
    go (no out) past =
        ap (drop (suc n)) (no_row numbers at (omega arith)) ∙ sym (no_row numbers (at + 8 * suc n) (omega arith))

module _ (numbers : List ℤ) (at own : ℕ) (s : Satellite) where
  has_none : length numbers ≤ at → has_row numbers at own s ≡ false
  unfolding has_row
  has_none past = rw (le-ltb at (length numbers) past) (and-false (ltb 0 own))

  has_keys : at + 8 ≤ length numbers → ltb 0 own && same_list sameℤ (take 2 (take 8 (drop at numbers))) (pos s.system ∷ pos s.number ∷ []) ≡ has_row numbers at own s
  unfolding has_row same_list
  has_keys room =
      let inside : at < length numbers = omega arith in
      rw (two_keys numbers at room, lt-ltb at (length numbers) inside, and-true (sameℤ (get_or numbers (at + 1) (pos 0)) (pos s.number)))

  -- one satellite's mark, and those of the satellites behind it
  marks_next : (ns : List ℕ) (ss : List Satellite) → length numbers % 8 ≡ 0 → at % 8 ≡ 0
      → let here = has_row numbers at own s in
      marks_by (own ∷ ns) (s ∷ ss) (rows_from numbers at) ≡ here ∷ cond here (marks_by ns ss (rows_from numbers (at + 8 * own))) (marks_by ns ss (rows_from numbers at))
  unfolding marks_by
  marks_next ns ss whole place = go (dec_lt at (length numbers))
    where
      on : List Bool
      on = marks_by ns ss (rows_from numbers (at + 8 * own))

      go : Dec (at < length numbers)
          → marks_by (own ∷ ns) (s ∷ ss) (rows_from numbers at) ≡ has_row numbers at own s ∷ cond (has_row numbers at own s) on (marks_by ns ss (rows_from numbers at))
      go (yes inside) =
          let room : at + 8 ≤ length numbers = omega arith in
          let rows : List (List ℤ) = take 8 (drop at numbers) ∷ rows_from numbers (at + 8) in
          let e : rows_from numbers at ≡ rows = next_row numbers at room in
          ap (marks_by (own ∷ ns) (s ∷ ss)) e
          ∙ ap (λ (b : Bool). b ∷ cond b (marks_by ns ss (drop own rows)) (marks_by ns ss rows)) (has_keys room)
          ∙ ap (λ (l : List (List ℤ)). has_row numbers at own s ∷ cond (has_row numbers at own s) (marks_by ns ss (drop own l)) (marks_by ns ss l)) (sym e)
          ∙ ap (λ (l : List (List ℤ)). has_row numbers at own s ∷ cond (has_row numbers at own s) (marks_by ns ss l) (marks_by ns ss (rows_from numbers at))) (rows_past own numbers at whole place)
      go (no out) =
          let past : length numbers ≤ at = omega arith in
          let e = no_row numbers at past in
          ap (marks_by (own ∷ ns) (s ∷ ss)) e
          ∙ ap (λ (l : List (List ℤ)). false ∷ marks_by ns ss l) (sym e)
          ∙ ap (λ (b : Bool). b ∷ cond b on (marks_by ns ss (rows_from numbers at))) (sym (has_none past))

-- ---- as a number

-- one bit more in front, z bits up
number_next : (b : Bool) (l : List Bool) (n z : ℕ) → length l ≡ n → number (b ∷ l) * 2 ^ z ≡ digit b * 2 ^ (n + z) + number l * 2 ^ z
unfolding number
number_next b l n z long =
    add-mul (digit b * 2 ^ length l) (number l) (2 ^ z)
    ∙ ap (λ (x : ℕ). x + number l * 2 ^ z) (mul_assoc (digit b) (2 ^ length l) (2 ^ z) ∙ ap (λ (x : ℕ). digit b * x) (sym (pow-add 2 (length l) z) ∙ ap (λ (k : ℕ). 2 ^ (k + z)) long))

-- its bit alone
top_bit : (n z : ℕ) → 2 ^ (suc n + z) / 2 ≡ 2 ^ (n + z)
top_bit n z =
    let twice : 2 ^ (suc n + z) ≡ 2 ^ (n + z) * 2 = ap (λ (k : ℕ). 2 ^ k) (suc-add n z) ∙ pow-suc 2 (n + z) in
    omega arith

-- what is told of satellites of whom the last one's bit is z bits up
told_marks : (numbers : List ℤ) (owns : List ℕ) (sats : List Satellite) (t : Told) (z : ℕ) → length owns ≡ length sats → Tells numbers t → t.next ≡ 2 ^ (length sats + z) / 2
    → (told_after numbers owns sats t).word ≡ t.word + number (marks_by owns sats (rows_from numbers t.at)) * 2 ^ z
unfolding told_after marks_by number
told_marks numbers owns [] t z each k bit = omega arith
told_marks numbers [] (s ∷ ss) t z each k bit = absurd (omega arith)
told_marks numbers (n ∷ ns) (s ∷ ss) t z each k bit =
    told_marks numbers ns ss _ z (omega arith) (tells_next (has_row numbers t.at n s) n k) (bit_next (has_row numbers t.at n s) n t ∙ ap (λ (x : ℕ). x / 2) here)
    ∙ go (has_row numbers t.at n s)
    ∙ ap (λ (l : List Bool). t.word + number l * 2 ^ z) (sym (marks_next numbers t.at n s ns ss k.whole k.place))
  where
    here : t.next ≡ 2 ^ (length ss + z)
    here = bit ∙ top_bit (length ss) z

    on : List Bool
    on = marks_by ns ss (rows_from numbers (t.at + 8 * n))

    past : List Bool
    past = marks_by ns ss (rows_from numbers t.at)

    go : (b : Bool)
        → (told_by b n t).word + number (marks_by ns ss (rows_from numbers (told_by b n t).at)) * 2 ^ z ≡ t.word + number (b ∷ cond b on past) * 2 ^ z
    go true = omega (arith, here, number_next true on (length ss) z (marks_count ns ss (rows_from numbers (t.at + 8 * n)) (omega arith)))
    go false = omega (arith, here, number_next false past (length ss) z (marks_count ns ss (rows_from numbers t.at) (omega arith)))

-- and how far: eight numbers for each row of those that have rows
told_far : (numbers : List ℤ) (owns : List ℕ) (sats : List Satellite) (t : Told) → length owns ≡ length sats → Tells numbers t
    → (told_after numbers owns sats t).at ≡ t.at + 8 * total (λ n. n) (pick (marks_by owns sats (rows_from numbers t.at)) owns)
unfolding told_after marks_by pick total
told_far numbers owns [] t each k = omega arith
told_far numbers [] (s ∷ ss) t each k = absurd (omega arith)
told_far numbers (n ∷ ns) (s ∷ ss) t each k =
    told_far numbers ns ss _ (omega arith) (tells_next (has_row numbers t.at n s) n k)
    ∙ go (has_row numbers t.at n s)
    ∙ ap (λ (l : List Bool). t.at + 8 * total (λ x. x) (pick l (n ∷ ns))) (sym (marks_next numbers t.at n s ns ss k.whole k.place))
  where
    go : (b : Bool)
        → (told_by b n t).at + 8 * total (λ x. x) (pick (marks_by ns ss (rows_from numbers (told_by b n t).at)) ns)
        ≡ t.at + 8 * total (λ x. x) (pick (b ∷ cond b (marks_by ns ss (rows_from numbers (t.at + 8 * n))) (marks_by ns ss (rows_from numbers t.at))) (n ∷ ns))
    go true = omega arith
    go false = refl

zeros : (n : ℕ) → number (replicate n false) ≡ 0
unfolding number
zeros zero = refl
zeros (suc n) = omega (arith, zeros n)

module _ (owns : List ℕ) (sats : List Satellite) (rows : List (List ℤ)) (each : length owns ≡ length sats) where
  word_number : marks_word owns sats rows ≡ number (marks_by owns sats rows) * 2 ^ (64 - length sats)
  unfolding marks_word filled
  word_number =
      let l : List Bool = marks_by owns sats rows in
      let more : ℕ = 64 - length l in
      number_append l (replicate more false)
      ∙ rw (zeros more, length-replicate more false, marks_count owns sats rows each) (omega arith)

  pub word_small : length sats ≤ 64 → marks_word owns sats rows < 2 ^ 64
  unfolding marks_word filled
  word_small few =
      let l : List Bool = marks_by owns sats rows in
      let more : List Bool = replicate (64 - length l) false in
      let long : length (l ++ more) ≡ 64 = omega (arith, length-append l more, length-replicate (64 - length l) false, marks_count owns sats rows each) in
      subst (λ (n : ℕ). number (l ++ more) < 2 ^ n) long (number_lt (l ++ more))

-- all of it, from the first satellite's bit on
pub told_marked : (numbers : List ℤ) (owns : List ℕ) (sats : List Satellite) (count : ℕ) → length owns ≡ length sats → length sats ≤ 64 → length numbers ≡ 8 * count
    → let t = told_after numbers owns sats (record { at = 0; next = 2 ^ 63; word = 0 }) in record { word = t.word; told = t.at } ≡ marked_by owns sats (rows_in count numbers)
unfolding rows_from marked_by
told_marked numbers owns sats count each few long =
    let z : ℕ = 64 - length sats in
    let first : Told = record { at = 0; next = 2 ^ 63; word = 0 } in
    let tells : Tells numbers first = record { whole = omega arith; place = refl; small = omega arith; room = omega arith } in
    let all : length sats + z ≡ 64 = omega arith in
    let counted : (length numbers - 0) / 8 ≡ count = omega arith in
    let word : (told_after numbers owns sats first).word ≡ marks_word owns sats (rows_in count numbers) =
    told_marks numbers owns sats first z each tells (rw all)
    ∙ ap (λ (n : ℕ). 0 + number (marks_by owns sats (rows_in n numbers)) * 2 ^ z) counted
    ∙ rw (word_number owns sats (rows_in count numbers) each) (omega arith) in
    let far : (told_after numbers owns sats first).at ≡ 0 + 8 * total (λ n. n) (pick (marks_by owns sats (rows_in count numbers)) owns) =
    told_far numbers owns sats first each tells ∙ ap (λ (n : ℕ). 0 + 8 * total (λ x. x) (pick (marks_by owns sats (rows_in n numbers)) owns)) counted in
    let told : (told_after numbers owns sats first).at ≡ 8 * total (λ n. n) (pick (marks_by owns sats (rows_in count numbers)) owns) = omega (arith, far) in
    λ i. record { word = word i; told = told i }

-- of rows in a buffer those that are counted
pub rows_counted : (count : ℕ) (numbers : List ℤ) → 8 * count ≤ length numbers → rows_in count (take (8 * count) numbers) ≡ rows_in count numbers
unfolding rows_in
rows_counted zero numbers room = refl
rows_counted (suc n) numbers room =
    let more : 8 * suc n ≡ 8 + 8 * n = omega arith in
    let first : length (take 8 numbers) ≡ 8 = length-take-le 8 numbers (omega arith) in
    let parts : take (8 * suc n) numbers ≡ take 8 numbers ++ take (8 * n) (drop 8 numbers) = ap (λ (k : ℕ). take k numbers) more ∙ take-add 8 (8 * n) numbers in
    ap (λ (l : List ℤ). take 8 l ∷ rows_in n (drop 8 l)) parts
    ∙ ap (λ (l : List ℤ). l ∷ rows_in n (drop 8 (take 8 numbers ++ take (8 * n) (drop 8 numbers)))) (take_at (take 8 numbers) _ 8 first)
    ∙ ap (λ (l : List ℤ). take 8 numbers ∷ rows_in n l) (drop_at (take 8 numbers) _ 8 first)
    ∙ ap (λ (ls : List (List ℤ)). take 8 numbers ∷ ls) (rows_counted n (drop 8 numbers) (omega (arith, length-drop 8 numbers)))

-- ---- what it picks, and its first bits

module _ (owns : List ℕ) (sats : List Satellite) (rows : List (List ℤ)) (each : length owns ≡ length sats) where
  marks_spelled : spell (length sats) (number (marks_by owns sats rows)) ≡ marks_by owns sats rows
  marks_spelled = ap (λ (n : ℕ). spell n (number (marks_by owns sats rows))) (sym (marks_count owns sats rows each)) ∙ spell_number (marks_by owns sats rows)

  pub word_picks : length sats ≤ 64 → pick (spell 64 (marks_word owns sats rows)) sats ≡ pick (marks_by owns sats rows) sats
  word_picks few =
      ap (λ (n : ℕ). pick (spell 64 n) sats) (word_number owns sats rows each)
      ∙ pick_front (length sats) (number (marks_by owns sats rows)) sats few
      ∙ ap (λ (l : List Bool). pick l sats) marks_spelled

  pub word_top : spell (length sats) (marks_word owns sats rows / 2 ^ (64 - length sats)) ≡ marks_by owns sats rows
  word_top =
      ap (λ (n : ℕ). spell (length sats) (n / 2 ^ (64 - length sats))) (word_number owns sats rows each)
      ∙ ap (spell (length sats)) (shl-shr (number (marks_by owns sats rows)) (64 - length sats))
      ∙ marks_spelled
