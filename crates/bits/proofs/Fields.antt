-- Laws of fields by place: a field's bound, a field cut in two, a byte as a field of 8, a field of the string from a byte on.
-- Assumes nothing.
use Rattle.bits.proofs.Words.{◌≡◌, refl, sym, ap, ◌∙◌, List, ℕ, zero, suc, ◌+◌, ◌-◌, ◌*◌, ◌/◌, ◌%◌, ◌^◌, ◌≤◌, ◌<◌, arith, length, get_or, drop}
use native.Mathlib.Nat.{zero-mul, zero-div, add-zero, add-suc, add_assoc, pow-zero, pow-suc, mod-lt, mul_assoc}
use lib.ListN.{get_or-eq_default}
use lib.Seq.{get_or-drop}
use lib.Pow.{shr-shr, shl-shr}
use Rattle.bits.specs.Places.{bit_at, field}

pub bit_lt : (bs : List ℕ) (place : ℕ) → bit_at bs place < 2
unfolding bit_at
bit_lt bs place = mod-lt _ (omega arith)

pub field_lt : (bs : List ℕ) (place w : ℕ) → field bs place w < 2 ^ w
unfolding field
field_lt bs place zero = omega arith
field_lt bs place (suc w) = rw pow-suc (omega (arith, field_lt bs place w, bit_lt bs (place + w)))

-- the first u bits, then the w bits after them
pub field_add : (bs : List ℕ) (place u w : ℕ) → field bs place (u + w) ≡ field bs place u * 2 ^ w + field bs (place + u) w
unfolding field
field_add bs place u zero = rw (add-zero u, pow-zero) (omega arith)
field_add bs place u (suc w) =
    rw (add-suc u w, pow-suc, ← mul_assoc)
    (omega (arith, field_add bs place u w, ap (bit_at bs) (add_assoc place u w)))

-- the bit at k of the byte at i
pub bit_in : (bs : List ℕ) (i k : ℕ) → k < 8 → bit_at bs (8 * i + k) ≡ get_or bs i 0 / 2 ^ (7 - k) % 2
unfolding bit_at
bit_in bs i k small =
    let q : (8 * i + k) / 8 ≡ i = omega arith in
    let r : (8 * i + k) % 8 ≡ k = omega arith in
    rw (q, r)

halves : (x t : ℕ) → x / 2 ^ (t + 1) * 2 + x / 2 ^ t % 2 ≡ x / 2 ^ t
halves x t = rw (← (shr-shr x t 1)) (omega arith)

-- the w high bits of a byte
pub top : (bs : List ℕ) (i w t : ℕ) → get_or bs i 0 < 256 → w + t ≡ 8 → field bs (8 * i) w ≡ get_or bs i 0 / 2 ^ t
unfolding field
top bs i zero t small e =
    let u : t ≡ 8 = omega arith in
    rw u (omega arith)
top bs i (suc w) t small e =
    let u : 7 - w ≡ t = omega arith in
    rw (top bs i w (t + 1) small (omega arith), bit_in bs i w (omega arith), u) (halves (get_or bs i 0) t)

pub field_byte : (bs : List ℕ) (i : ℕ) → get_or bs i 0 < 256 → field bs (8 * i) 8 ≡ get_or bs i 0
field_byte bs i small = top bs i 8 0 small (omega arith) ∙ omega arith

-- places counted from a byte on
pub bit_drop : (bs : List ℕ) (i place : ℕ) → bit_at (drop i bs) place ≡ bit_at bs (8 * i + place)
unfolding bit_at
bit_drop bs i place =
    let q : (8 * i + place) / 8 ≡ i + place / 8 = omega arith in
    let r : (8 * i + place) % 8 ≡ place % 8 = omega arith in
    rw (q, r, get_or-drop)

pub field_drop : (bs : List ℕ) (i place w : ℕ) → field (drop i bs) place w ≡ field bs (8 * i + place) w
unfolding field
field_drop bs i place zero = refl
field_drop bs i place (suc w) =
    rw (field_drop bs i place w, bit_drop bs i (place + w), ← (add_assoc (8 * i) place w))

-- past the last byte there is nothing
bit_past : (bs : List ℕ) (place : ℕ) → 8 * length bs ≤ place → bit_at bs place ≡ 0
unfolding bit_at
bit_past bs place past = rw (get_or-eq_default bs 0 {n = place / 8} (omega arith), zero-div (2 ^ (7 - place % 8)))

pub field_past : (bs : List ℕ) (place w : ℕ) → 8 * length bs ≤ place → field bs place w ≡ 0
unfolding field
field_past bs place zero past = refl
field_past bs place (suc w) past = rw (field_past bs place w past, bit_past bs (place + w) (omega arith))

-- ---- all zero

-- bits from a place on that are all zero, and after them more such bits
pub zero_more : (bs : List ℕ) (place at w : ℕ) → place ≤ at → field bs place (at - place) ≡ 0 → field bs at w ≡ 0 → field bs place (at + w - place) ≡ 0
zero_more bs place at w order first next =
    let here : place + (at - place) ≡ at = omega arith in
    let all : at + w - place ≡ (at - place) + w = omega arith in
    rw (all, field_add bs place (at - place) w, here, first, next, zero-mul (2 ^ w))

high_zero : (n k r : ℕ) → n * 2 ^ k + r ≡ 0 → n ≡ 0
high_zero n k r e =
    let z : n * 2 ^ k ≡ 0 = omega arith in
    sym (shl-shr n k) ∙ rw (z, zero-div (2 ^ k))

-- where bits from a place to the end are all zero, so are those of a part
pub zero_part : (bs : List ℕ) (place end at w : ℕ) → place ≤ at → at + w ≤ end → field bs place (end - place) ≡ 0 → field bs at w ≡ 0
zero_part bs place end at w order inside e =
    let here : place + (at - place) ≡ at = omega arith in
    let all : end - place ≡ (at - place) + (w + (end - at - w)) = omega arith in
    let cut : field bs (place + (at - place)) (w + (end - at - w)) ≡ 0 =
    omega (arith, field_add bs place (at - place) (w + (end - at - w)), ap (field bs place) all) in
    let tail : field bs at (w + (end - at - w)) ≡ 0 = rw here at cut in
    high_zero (field bs at w) (end - at - w) (field bs (at + w) (end - at - w)) (sym (field_add bs at w (end - at - w)) ∙ tail)
