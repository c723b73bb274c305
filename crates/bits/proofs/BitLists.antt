-- Laws of bit lists: a number and its spelling, a byte string and its bits.
-- Assumes nothing.
use Rattle.bits.proofs.Words.{◌≡◌, refl, sym, ap, ap₂, ◌∙◌, Bool, true, false, List, [], ◌∷◌, ◌++◌, ℕ, zero, suc, ◌+◌, ◌-◌, ◌*◌, ◌/◌, ◌%◌, ◌^◌, ◌<◌, arith, eqb, length, get_or, take, drop}
use mathlib.Core.List.{append_assoc}
use native.Mathlib.Nat.{add-mul-div_right, zero-add, add-zero, suc-add, add_comm, add-mul, mul_assoc, pow-suc, mod-lt, mod-eq_of_lt, le_of_suc-le-suc}
use native.Mathlib.Numerals.{one-add}
use lib.ListN.{length-append, length-drop, take-append-drop}
use lib.Seq.{take_at, drop_at, length-take-le}
use lib.Pow.{high, split, pow_pos, pow-add, shr-shr, mod-pow-add}
use Rattle.bits.specs.BitLists.{digit, number, spell, bits, bytes}
use Rattle.bits.proofs.Windows.{Bytes}

-- ---- numbers and their spellings

pub number_lt : (l : List Bool) → number l < 2 ^ length l
unfolding number
number_lt [] = omega arith
number_lt (true ∷ l) = rw pow-suc (omega (arith, number_lt l))
number_lt (false ∷ l) = rw pow-suc (omega (arith, number_lt l))

pub number_append : (l m : List Bool) → number (l ++ m) ≡ number l * 2 ^ length m + number m
unfolding number
number_append [] m = omega arith
number_append (b ∷ l) m =
    rw (number_append l m, length-append l m, pow-add 2 (length l) (length m), add-mul (digit b * 2 ^ length l) (number l) (2 ^ length m), mul_assoc (digit b) (2 ^ length l) (2 ^ length m))
    (omega arith)

pub length_spell : (w n : ℕ) → length (spell w n) ≡ w
unfolding spell
length_spell zero n = refl
length_spell (suc w) n = ap suc (length_spell w n)

-- what stands for a bit's number
pub digit_eqb : (x : ℕ) → x < 2 → digit (eqb x 1) ≡ x
digit_eqb zero h = refl
digit_eqb (suc zero) h = refl
digit_eqb (suc (suc x)) h = absurd (omega arith)

pub number_spell : (w n : ℕ) → number (spell w n) ≡ n % 2 ^ w
unfolding number spell
number_spell zero n = omega arith
number_spell (suc w) n =
    rw (length_spell w n, number_spell w n, digit_eqb (n / 2 ^ w % 2) (mod-lt _ (omega arith)))
    (sym (ap (λ (k : ℕ). n % 2 ^ k) (sym (one-add w)) ∙ mod-pow-add n 1 w))

-- a bit, found again above the bits after it
eqb_digit : (b : Bool) → eqb (digit b % 2) 1 ≡ b
eqb_digit true = refl
eqb_digit false = refl

-- the bit at w of a number is not touched by what stands above it
bit_below : (w j h n : ℕ) → (h * 2 ^ (w + suc j) + n) / 2 ^ w % 2 ≡ n / 2 ^ w % 2
bit_below w j h n =
    let above : h * 2 ^ (w + suc j) ≡ (h * 2 ^ j * 2) * 2 ^ w =
    rw (add_comm w (suc j), pow-add 2 (suc j) w, pow-suc, ← (mul_assoc h (2 ^ j * 2) (2 ^ w)), ← (mul_assoc h (2 ^ j) 2)) in
    rw (above, add_comm (h * 2 ^ j * 2 * 2 ^ w) n, add-mul-div_right n (h * 2 ^ j * 2) (pow_pos w)) (omega arith)

spell_below : (w k h n : ℕ) → spell w (h * 2 ^ (w + k) + n) ≡ spell w n
unfolding spell
spell_below zero k h n = refl
spell_below (suc w) k h n =
    let e : suc w + k ≡ w + suc k = omega arith in
    rw e (ap₂ ◌∷◌ (ap (λ (x : ℕ). eqb x 1) (bit_below w k h n)) (spell_below w (suc k) h n))

-- what stands above the w low bits is not spelled
pub spell_low : (w h n : ℕ) → spell w (h * 2 ^ w + n) ≡ spell w n
spell_low w h n = rw add-zero at (spell_below w 0 h n)

-- so a number cut to as many bits, or to more, is spelled alike
pub spell_cut : (w k n : ℕ) → spell w (n % 2 ^ (w + k)) ≡ spell w n
spell_cut w k n = sym (spell_below w k (n / 2 ^ (w + k)) (n % 2 ^ (w + k))) ∙ ap (spell w) (split n (w + k))

pub spell_mod : (w n : ℕ) → spell w (n % 2 ^ w) ≡ spell w n
spell_mod w n = rw add-zero at (spell_cut w 0 n)

pub spell_number : (l : List Bool) → spell (length l) (number l) ≡ l
unfolding number spell
spell_number [] = refl
spell_number (b ∷ l) =
    ap₂ ◌∷◌ (rw (high (digit b) (length l) (number_lt l)) (eqb_digit b)) (spell_low (length l) (digit b) (number l) ∙ spell_number l)

pub spell_append : (u w h n : ℕ) → n < 2 ^ w → spell (u + w) (h * 2 ^ w + n) ≡ spell u h ++ spell w n
unfolding spell
spell_append zero w h n small = rw zero-add (spell_low w h n)
spell_append (suc u) w h n small =
    let top : (h * 2 ^ w + n) / 2 ^ (u + w) ≡ h / 2 ^ u =
    rw (add_comm u w, ← (shr-shr (h * 2 ^ w + n) w u), high h w small) in
    rw (suc-add u w) (ap₂ ◌∷◌ (ap (λ (x : ℕ). eqb (x % 2) 1) top) (spell_append u w h n small))

-- a spelling in two parts
pub spell_split : (u w n : ℕ) → spell (u + w) n ≡ spell u (n / 2 ^ w) ++ spell w n
spell_split u w n =
    ap (spell (u + w)) (sym (split n w)) ∙ spell_append u w (n / 2 ^ w) (n % 2 ^ w) (mod-lt n (pow_pos w))
    ∙ ap (λ (l : List Bool). spell u (n / 2 ^ w) ++ l) (spell_mod w n)

-- the bit at k of a spelling
pub spell_at : (w n k : ℕ) → k < w → get_or (spell w n) k false ≡ eqb (n / 2 ^ (w - 1 - k) % 2) 1
unfolding spell
spell_at zero n k h = absurd (omega arith)
spell_at (suc w) n zero h =
    let e : suc w - 1 - 0 ≡ w = omega arith in
    rw e
spell_at (suc w) n (suc k) h =
    let e : suc w - 1 - suc k ≡ w - 1 - k = omega arith in
    rw e (spell_at w n k (le_of_suc-le-suc h))

-- ---- byte strings and their bits

pub length_bits : (bs : List ℕ) → length (bits bs) ≡ 8 * length bs
unfolding bits
length_bits [] = refl
length_bits (b ∷ bs) = length-append (spell 8 b) (bits bs) ∙ rw (length_spell 8 b, length_bits bs) (omega arith)

pub bits_append : (bs cs : List ℕ) → bits (bs ++ cs) ≡ bits bs ++ bits cs
unfolding bits
bits_append [] cs = refl
bits_append (b ∷ bs) cs = ap (λ (l : List Bool). spell 8 b ++ l) (bits_append bs cs) ∙ sym (append_assoc (spell 8 b) (bits bs) (bits cs))

pub length_bytes : (count : ℕ) (l : List Bool) → length (bytes count l) ≡ count
unfolding bytes
length_bytes zero l = refl
length_bytes (suc count) l = ap suc (length_bytes count (drop 8 l))

pub bits_bytes : (count : ℕ) (l : List Bool) → length l ≡ 8 * count → bits (bytes count l) ≡ l
unfolding bits bytes
bits_bytes zero [] e = refl
bits_bytes zero (b ∷ l) e = absurd (omega arith)
bits_bytes (suc count) l e =
    let whole : length (take 8 l) ≡ 8 = length-take-le 8 l (omega arith) in
    rw (bits_bytes count (drop 8 l) (length-drop 8 l ∙ omega arith))
    (ap (λ (m : List Bool). m ++ drop 8 l) (rw whole at (spell_number (take 8 l))) ∙ take-append-drop 8 l)

pub bytes_bits : (bs : List ℕ) → Bytes bs → bytes (length bs) (bits bs) ≡ bs
unfolding bits bytes
bytes_bits [] small = refl
bytes_bits (b ∷ bs) small =
    ap₂ ◌∷◌ (ap number (take_at (spell 8 b) (bits bs) 8 (length_spell 8 b)) ∙ number_spell 8 b ∙ mod-eq_of_lt (small 0))
    (ap (bytes (length bs)) (drop_at (spell 8 b) (bits bs) 8 (length_spell 8 b)) ∙ bytes_bits bs (λ k. small (suc k)))
