-- The bridge between places and bit lists: the bit at a place, and w bits at a place.
-- Assumes nothing.
use Rattle.bits.proofs.Words.{◌≡◌, refl, sym, ap, ◌∙◌, Bool, false, List, [], ◌∷◌, ◌++◌, ℕ, zero, suc, ◌+◌, ◌-◌, ◌*◌, ◌/◌, ◌%◌, ◌^◌, ◌≤◌, ◌<◌, add-one, arith, eqb, length, get_or, take, drop}
use native.Mathlib.Nat.{mod-eq_of_lt, zero-add, zero-div}
use native.Mathlib.Decide.{dec_lt}
use lib.ListN.{length-drop, get_or-append}
use lib.Seq.{take-suc, get_or-drop, get_or-append-add}
use Rattle.bits.specs.Places.{bit_at, field}
use Rattle.bits.specs.BitLists.{number, spell, bits}
use Rattle.bits.proofs.Fields.{bit_lt, bit_in, bit_drop, field_lt}
use Rattle.bits.proofs.BitLists.{length_spell, spell_at, spell_append, number_spell, length_bits}

-- the bit at a place of the string is the one at that place of the list
pub bit_bits : (bs : List ℕ) (place : ℕ) → get_or (bits bs) place false ≡ eqb (bit_at bs place) 1
unfolding bits bit_at
bit_bits [] place = rw (zero-div (2 ^ (7 - place % 8)))
bit_bits (b ∷ bs) place = go (bit_bits bs (place - 8)) (dec_lt place 8)
  where
    go : get_or (bits bs) (place - 8) false ≡ eqb (bit_at bs (place - 8)) 1 → Dec (place < 8) → get_or (bits (b ∷ bs)) place false ≡ eqb (bit_at (b ∷ bs) place) 1
    go later (yes small) =
        let first : bit_at (b ∷ bs) place ≡ b / 2 ^ (7 - place) % 2 = rw zero-add at (bit_in (b ∷ bs) 0 place small) in
        get_or-append (spell 8 b) (bits bs) false place (omega (arith, length_spell 8 b)) ∙ spell_at 8 b place small ∙ ap (λ (x : ℕ). eqb x 1) (sym first)
    go later (no large) =
        let e : place ≡ 8 + (place - 8) = omega arith in
        let n : length (spell 8 b) + (place - 8) ≡ place = omega (arith, length_spell 8 b) in
        let next : bit_at bs (place - 8) ≡ bit_at (b ∷ bs) place = bit_drop (b ∷ bs) 1 (place - 8) ∙ ap (bit_at (b ∷ bs)) (sym e) in
        ap (λ (p : ℕ). get_or (spell 8 b ++ bits bs) p false) (sym n) ∙ get_or-append-add (spell 8 b) (bits bs) (place - 8) false ∙ later
        ∙ ap (λ (x : ℕ). eqb x 1) next

pub spell_bit : (x : ℕ) → x < 2 → spell 1 x ≡ eqb x 1 ∷ []
unfolding spell
spell_bit x small =
    let e : x / 1 % 2 ≡ x = omega arith in
    rw e

-- w bits at a place, as a list
pub spell_field : (bs : List ℕ) (place w : ℕ) → place + w ≤ 8 * length bs → spell w (field bs place w) ≡ take w (drop place (bits bs))
unfolding field spell
spell_field bs place zero room = refl
spell_field bs place (suc w) room =
    let l : List Bool = drop place (bits bs) in
    let inside : w < length l = simp (length-drop, length_bits) (omega arith) in
    let last : get_or l w false ≡ eqb (bit_at bs (place + w)) 1 = get_or-drop place (bits bs) w false ∙ bit_bits bs (place + w) in
    ap (λ (k : ℕ). spell k (field bs place w * 2 + bit_at bs (place + w))) (sym (add-one w))
    ∙ spell_append w 1 (field bs place w) (bit_at bs (place + w)) (bit_lt bs (place + w))
    ∙ rw (spell_field bs place w (omega arith), spell_bit (bit_at bs (place + w)) (bit_lt bs (place + w)), ← last) (sym (take-suc l w false inside))

-- the number in w bits at a place, as that of a list
pub field_number : (bs : List ℕ) (place w : ℕ) → place + w ≤ 8 * length bs → field bs place w ≡ number (take w (drop place (bits bs)))
field_number bs place w room =
    sym (mod-eq_of_lt (field_lt bs place w)) ∙ sym (number_spell w (field bs place w)) ∙ ap number (spell_field bs place w room)
