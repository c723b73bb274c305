-- The places that a mask names, from the number that holds the mask: how many, which, and none beyond the assigned ones. Assumes nothing.
use Rattle.bits.proofs.Words.{◌≡◌, refl, sym, ap, ◌∙◌, Bool, true, false, List, [], ◌∷◌, ◌++◌, ℕ, zero, suc, ◌+◌, ◌-◌, ◌*◌, ◌%◌, ◌^◌, ◌≤◌, ◌<◌, arith, eqb, length, drop}
use mathlib.Core.List.{append-nil}
use native.Mathlib.Nat.{zero-add, add-zero, add-suc, suc-add, zero-sub, sub-zero, suc-sub-suc, zero-div, div-eq_of_lt, mod-eq_of_lt, pow-suc}
use lib.Count.{ones, count_leading_zeros, ones_cat, leading_top}
use lib.Pow.{high, pow_pos}
use Rattle.bits.proofs.BitLists.{number_lt, length_spell, number_spell, spell_low, spell_append}
use Rattle.bits.specs.BitLists.{number, spell}
use Rattle.format.proofs.Placed.{blank_number}
use Rattle.format.specs.Assigned.{blank}
use Rattle.format.specs.Masks.{places_from}

-- ---- how many

-- a mask names as many places as its number has ones
pub ones_number : (l : List Bool) (k : ℕ) → ones (number l) ≡ length (places_from k l)
unfolding number places_from ones
ones_number [] k = refl
ones_number (true ∷ l) k = ones_cat (length l) 1 (number l) (number_lt l) ∙ rw (ones_number l (suc k)) (omega arith)
ones_number (false ∷ l) k = ones_cat (length l) 0 (number l) (number_lt l) ∙ rw (ones_number l (suc k)) (omega arith)

-- the same from the number
pub ones_places : (w n k : ℕ) → n < 2 ^ w → ones n ≡ length (places_from k (spell w n))
ones_places w n k small = ap ones (sym (number_spell w n ∙ mod-eq_of_lt small)) ∙ ones_number (spell w n) k

-- ---- which

-- the places of two masks one after the other
pub places_append : (l m : List Bool) (k : ℕ) → places_from k (l ++ m) ≡ places_from k l ++ places_from (k + length l) m
unfolding places_from
places_append [] m k = rw add-zero
places_append (true ∷ l) m k = rw (add-suc, ← (suc-add k (length l))) (ap (λ (ps : List ℕ). k ∷ ps) (places_append l m (suc k)))
places_append (false ∷ l) m k = rw (add-suc, ← (suc-add k (length l))) (places_append l m (suc k))

-- zero names no place
pub no_place : (w k : ℕ) → places_from k (spell w 0) ≡ []
unfolding places_from spell
no_place zero k = refl
no_place (suc w) k = rw zero-div (no_place w (suc k))

-- a mask moved up in a word of as many bits more, with zeros after it and no bit moved out, names the same places
pub places_shifted : (w z n : ℕ) → n * 2 ^ z < 2 ^ (w + z) → places_from 0 (spell (w + z) (n * 2 ^ z % 2 ^ (w + z))) ≡ places_from 0 (spell w n)
places_shifted w z n room =
    rw (mod-eq_of_lt room)
    (ap (λ (m : ℕ). places_from 0 (spell (w + z) m)) (sym (add-zero (n * 2 ^ z)))
    ∙ ap (places_from 0) (spell_append w z n 0 (pow_pos z))
    ∙ places_append (spell w n) (spell z 0) 0
    ∙ ap (λ (ps : List ℕ). places_from 0 (spell w n) ++ ps) (no_place z (0 + length (spell w n)))
    ∙ append-nil (places_from 0 (spell w n)))

-- p zeros above a number only move its places
places_down : (p w n k : ℕ) → n < 2 ^ w → places_from k (spell (p + w) n) ≡ places_from (k + p) (spell w n)
places_down p w n k small =
    let e : n ≡ 0 * 2 ^ w + n = omega arith in
    ap (λ (m : ℕ). places_from k (spell (p + w) m)) e
    ∙ ap (places_from k) (spell_append p w 0 n small)
    ∙ places_append (spell p 0) (spell w n) k
    ∙ rw (no_place p k, length_spell p 0)

-- a set highest bit is the first place
top_place : (w n k : ℕ) → n < 2 ^ w → places_from k (spell (suc w) (1 * 2 ^ w + n)) ≡ k ∷ places_from k (spell (suc w) n)
unfolding places_from spell
top_place w n k small = rw (high 1 w small, div-eq_of_lt small, spell_low w 1 n)

-- the same below p zeros: the first place is that of the highest bit, and the number without it names the rest
place_below : (p j x k : ℕ) → 2 ^ j ≤ x → x < 2 ^ suc j → places_from k (spell (p + suc j) x) ≡ (k + p) ∷ places_from k (spell (p + suc j) (x - 2 ^ j))
place_below p j x k least below =
    let parts : x ≡ 1 * 2 ^ j + (x - 2 ^ j) = omega arith in
    places_down p (suc j) x k below
    ∙ ap (λ (m : ℕ). places_from (k + p) (spell (suc j) m)) parts
    ∙ top_place j (x - 2 ^ j) (k + p) (omega (arith, pow-suc 2 j))
    ∙ ap (λ (ps : List ℕ). (k + p) ∷ ps) (sym (places_down p (suc j) (x - 2 ^ j) k (omega arith)))

-- the first place is as many as the leading zeros
pub first_place : (w x k : ℕ) → 0 < x → x < 2 ^ suc w
    → let p = count_leading_zeros (suc w) x in (p < suc w) × (2 ^ (w - p) ≤ x) × (places_from k (spell (suc w) x) ≡ (k + p) ∷ places_from k (spell (suc w) (x - 2 ^ (w - p))))
first_place w x k some small = found (count_leading_zeros (suc w) x) (leading_top (suc w) x some small)
  where
    found : (p : ℕ) → (j : ℕ) × (p + suc j ≡ suc w) × (2 ^ j ≤ x) × (x < 2 ^ suc j)
        → (p < suc w) × (2 ^ (w - p) ≤ x) × (places_from k (spell (suc w) x) ≡ (k + p) ∷ places_from k (spell (suc w) (x - 2 ^ (w - p))))
    found p (j, whole, least, below) =
        let e : w - p ≡ j = omega arith in
        (omega arith, rw e least, rw (e, ← whole) (place_below p j x k least below))

-- the same for the 64 bits of a mask's word
pub next_place : (x : ℕ) → 0 < x → x < 2 ^ 64
    → let p = count_leading_zeros 64 x in (p < 64) × (2 ^ (63 - p) ≤ x) × (places_from 0 (spell 64 x) ≡ p ∷ places_from 0 (spell 64 (x - 2 ^ (63 - p))))
next_place x some small = rw zero-add at (first_place 63 x 0 some small)

-- ---- none beyond the assigned ones

-- without its first i bits a spelling is a shorter one
pub drop_spell : (i w n : ℕ) → drop i (spell w n) ≡ spell (w - i) n
unfolding spell
drop_spell zero w n = rw sub-zero
drop_spell (suc i) zero n = rw zero-sub
drop_spell (suc i) (suc w) n = rw suc-sub-suc (drop_spell i w n)

-- no place behind the highest assigned one is set where the bits below it are 0
pub assigned_number : (w top n : ℕ) → top < w → n < 2 ^ w → blank (drop (suc top) (spell w n)) ≡ eqb (n % 2 ^ (w - suc top)) 0
assigned_number w top n inside small =
    ap blank (drop_spell (suc top) w n) ∙ blank_number (spell (w - suc top) n) ∙ ap (λ (m : ℕ). eqb m 0) (number_spell (w - suc top) n)
