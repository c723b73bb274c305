-- Bits at the places of a mask: spread and pick undo each other, and "no place that the other has not" is a test of the numbers. Assumes nothing.
use Rattle.bits.proofs.Words.{◌≡◌, refl, sym, ap, ◌∙◌, Bool, true, false, List, [], ◌∷◌, ℕ, zero, suc, ◌+◌, ◌*◌, ◌^◌, ◌≤◌, ◌<◌, arith, eqb, length, take}
use native.Mathlib.Nat.{suc_inj, zero-add, mod-eq_of_lt, suc-add, le_of_suc-le-suc}
use lib.Bits.{bit_and, and_block, and_le_l}
use lib.Dec.{eqb-suc-suc}
use lib.Pow.{pow_pos}
use borrow.Author.Tests.{ne_eqb}
use Rattle.bits.proofs.BitLists.{number_lt, length_spell, number_spell}
use Rattle.bits.specs.BitLists.{digit, number, spell}
use Rattle.format.specs.Masks.{places_from, pick}
use Rattle.holding.specs.Spread.{spread, within}
use Rattle.holding.proofs.Places.{ones_number}

-- ---- lengths

-- as many places whatever the first one's number
pub length_places : (l : List Bool) (j k : ℕ) → length (places_from j l) ≡ length (places_from k l)
length_places l j k = sym (ones_number l j) ∙ ones_number l k

-- one bit for each of the mask
pub length_spread : (places bits : List Bool) → length (spread places bits) ≡ length places
unfolding spread
length_spread [] bits = refl
length_spread (false ∷ places) bits = ap suc (length_spread places bits)
length_spread (true ∷ places) [] = ap suc (length_spread places [])
length_spread (true ∷ places) (b ∷ bits) = ap suc (length_spread places bits)

-- one for each place set
pub length_pick : {A : Type 0} (places : List Bool) (strip : List A) → length strip ≡ length places → length (pick places strip) ≡ length (places_from 0 places)
unfolding pick places_from
length_pick [] strip e = refl
length_pick (p ∷ places) [] e = absurd (omega arith)
length_pick (true ∷ places) (b ∷ strip) e = ap suc (length_pick places strip (suc_inj e) ∙ length_places places 0 1)
length_pick (false ∷ places) (b ∷ strip) e = length_pick places strip (suc_inj e) ∙ length_places places 0 1

-- ---- spread and pick

-- of bits spread over places as many as there are places are found again
pub pick_first : (places bits : List Bool) (k : ℕ) → length (places_from k places) ≤ length bits → pick places (spread places bits) ≡ take (length (places_from k places)) bits
unfolding pick spread places_from
pick_first [] bits k h = refl
pick_first (false ∷ places) bits k h = pick_first places bits (suc k) h
pick_first (true ∷ places) [] k h = absurd (omega arith)
pick_first (true ∷ places) (b ∷ bits) k h = ap (λ (l : List Bool). b ∷ l) (pick_first places bits (suc k) (le_of_suc-le-suc h))

-- a strip with no bit elsewhere is its picked bits, spread
pub spread_pick : (places strip : List Bool) → length strip ≡ length places → within strip places ≡ true → spread places (pick places strip) ≡ strip
unfolding pick spread within
spread_pick [] [] e h = refl
spread_pick [] (b ∷ strip) e h = absurd (omega arith)
spread_pick (p ∷ places) [] e h = absurd (omega arith)
spread_pick (true ∷ places) (true ∷ strip) e h = ap (λ (l : List Bool). true ∷ l) (spread_pick places strip (suc_inj e) h)
spread_pick (true ∷ places) (false ∷ strip) e h = ap (λ (l : List Bool). false ∷ l) (spread_pick places strip (suc_inj e) h)
spread_pick (false ∷ places) (true ∷ strip) e h = let z : ◌≡◌ {A = ℕ} 0 1 = cc in absurd (omega arith)
spread_pick (false ∷ places) (false ∷ strip) e h = ap (λ (l : List Bool). false ∷ l) (spread_pick places strip (suc_inj e) h)

-- the places of what was spread are those that the bits select
pub places_spread : (places bits : List Bool) (k : ℕ) → places_from k (spread places bits) ≡ pick bits (places_from k places)
unfolding pick spread places_from
places_spread [] [] k = refl
places_spread [] (b ∷ bits) k = refl
places_spread (false ∷ places) bits k = places_spread places bits (suc k)
places_spread (true ∷ places) [] k = places_spread places [] (suc k)
places_spread (true ∷ places) (true ∷ bits) k = ap (λ (ps : List ℕ). k ∷ ps) (places_spread places bits (suc k))
places_spread (true ∷ places) (false ∷ bits) k = places_spread places bits (suc k)

-- ---- no place set that the other list has not

-- what was spread sets only places of the mask
pub spread_within : (places bits : List Bool) → within (spread places bits) places ≡ true
unfolding spread within
spread_within [] bits = refl
spread_within (false ∷ places) bits = spread_within places bits
spread_within (true ∷ places) [] = spread_within places []
spread_within (true ∷ places) (true ∷ bits) = spread_within places bits
spread_within (true ∷ places) (false ∷ bits) = spread_within places bits

-- a test of two sums with the same part
eqb_add : (k a b : ℕ) → eqb (k + a) (k + b) ≡ eqb a b
eqb_add zero a b = rw (zero-add a, zero-add b)
eqb_add (suc k) a b = rw (suc-add k a, suc-add k b) (eqb-suc-suc (k + a) (k + b) ∙ eqb_add k a b)

-- the first bits and the rest are joined by `and` apart
and_number : (b c : Bool) (l m : List Bool) → length l ≡ length m
    → bit_and (number (b ∷ l)) (number (c ∷ m)) ≡ bit_and (digit b) (digit c) * 2 ^ length l + bit_and (number l) (number m)
unfolding number
and_number b c l m e =
    ap (λ (w : ℕ). bit_and (number (b ∷ l)) (digit c * 2 ^ w + number m)) (sym e)
    ∙ and_block (length l) (digit b) (digit c) (number l) (number m) (number_lt l) (rw e (number_lt m))

-- a list stands within another where `and` of the two numbers is its own
pub within_number : (l m : List Bool) → length l ≡ length m → within l m ≡ eqb (bit_and (number l) (number m)) (number l)
unfolding within number
within_number [] m e = refl
within_number (b ∷ l) [] e = absurd (omega arith)
within_number (false ∷ l) (c ∷ m) e =
    within_number l m (suc_inj e) ∙ sym (eqb_add (0 * 2 ^ length l) (bit_and (number l) (number m)) (number l))
    ∙ ap (λ (x : ℕ). eqb x (number (false ∷ l))) (sym (and_number false c l m (suc_inj e)))
within_number (true ∷ l) (true ∷ m) e =
    within_number l m (suc_inj e) ∙ sym (eqb_add (1 * 2 ^ length l) (bit_and (number l) (number m)) (number l))
    ∙ ap (λ (x : ℕ). eqb x (number (true ∷ l))) (sym (and_number true true l m (suc_inj e)))
within_number (true ∷ l) (false ∷ m) e =
    sym (ne_eqb _ (number (true ∷ l)) (λ h. omega (arith, pow_pos (length l), and_number true false l m (suc_inj e), and_le_l (number l) (number m))))

-- the same from the numbers
pub within_and : (w a b : ℕ) → a < 2 ^ w → b < 2 ^ w → within (spell w a) (spell w b) ≡ eqb (bit_and a b) a
within_and w a b small small' =
    rw (number_spell w a, number_spell w b, mod-eq_of_lt small, mod-eq_of_lt small') at
    (within_number (spell w a) (spell w b) (length_spell w a ∙ sym (length_spell w b)))
