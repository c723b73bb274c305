-- A mask from its last place on: what bits spread over it, and the mask without that place.
-- Assumes nothing.
use Rattle.bits.proofs.Words.{◌≡◌, refl, sym, ap, ◌∙◌, Bool, true, false, List, [], ◌∷◌, ◌++◌, ℕ, zero, suc, ◌+◌, ◌-◌, ◌*◌, ◌/◌, ◌%◌, ◌^◌, ◌≤◌, ◌<◌, add-one, arith, length, get_or, drop}
use mathlib.Core.List.{append-nil}
use native.Mathlib.Nat.{add-zero, zero-add, suc_inj, pow-suc, mul_assoc, mul_comm}
use lib.Bits.{bit_and, and_step, and_self, and_le_l}
use lib.Count.{ones, ones_step}
use Rattle.adoption.specs.Spreading.{without_last, ByFour}
use Rattle.bits.proofs.BitLists.{number_lt, number_append, length_spell, spell_append}
use Rattle.bits.specs.BitLists.{number, spell}
use Rattle.format.specs.Masks.{places_from}
use Rattle.holding.proofs.Places.{ones_places}
use Rattle.holding.proofs.Spreads.{length_spread}
use Rattle.holding.specs.Spread.{spread}

-- the strip that the low bits of a number make over a mask of w bits
unfoldable pub spread_of : ℕ → ℕ → ℕ → ℕ
spread_of w mask bits = number (spread (spell w mask) (spell (ones mask) bits))

-- spread over two masks one after the other
pub spread_append : (p q x y : List Bool) (k : ℕ) → length x ≡ length (places_from k p) → spread (p ++ q) (x ++ y) ≡ spread p x ++ spread q y
unfolding spread places_from
spread_append [] q [] y k e = refl
spread_append [] q (b ∷ x) y k e = absurd (omega arith)
spread_append (false ∷ p) q x y k e = ap (λ (l : List Bool). false ∷ l) (spread_append p q x y (suc k) e)
spread_append (true ∷ p) q [] y k e = absurd (omega arith)
spread_append (true ∷ p) q (b ∷ x) y k e = ap (λ (l : List Bool). b ∷ l) (spread_append p q x y (suc k) (suc_inj e))

-- with a last place, set or not
spread_last : (w mask d : ℕ) (x y : List Bool) → mask < 2 ^ w → d < 2 → length x ≡ ones mask
    → number (spread (spell (suc w) (mask * 2 + d)) (x ++ y)) ≡ number (spread (spell w mask) x) * 2 + number (spread (spell 1 d) y)
spread_last w mask d x y small bit e =
    let last : length (spread (spell 1 d) y) ≡ 1 = length_spread (spell 1 d) y ∙ length_spell 1 d in
    ap (λ (n : ℕ). number (spread (spell n (mask * 2 + d)) (x ++ y))) (sym (add-one w))
    ∙ ap (λ (l : List Bool). number (spread l (x ++ y))) (spell_append w 1 mask d bit)
    ∙ ap number (spread_append (spell w mask) (spell 1 d) x y 0 (e ∙ ones_places w mask 0 small))
    ∙ number_append (spread (spell w mask) x) (spread (spell 1 d) y)
    ∙ rw last

-- what stands at the last place
last_none : number (spread (spell 1 0) []) ≡ 0
unfolding number spread spell
last_none = refl

last_bit : (b : ℕ) → b < 2 → number (spread (spell 1 1) (spell 1 b)) ≡ b
unfolding number spread spell
last_bit zero h = refl
last_bit (suc zero) h = refl
last_bit (suc (suc b)) h = absurd (omega arith)

-- the ones of a mask with a last place
ones_last : (mask d : ℕ) → d < 2 → ones (mask * 2 + d) ≡ ones mask + d
ones_last mask d bit =
    let half : (mask * 2 + d) / 2 ≡ mask = omega arith in
    let rest : (mask * 2 + d) % 2 ≡ d = omega arith in
    ones_step (mask * 2 + d) ∙ rw (half, rest) (omega arith)

-- not set: the strip is doubled
spread_even : (w mask bits : ℕ) → mask < 2 ^ w → spread_of (suc w) (mask * 2 + 0) bits ≡ spread_of w mask bits * 2
unfolding spread_of
spread_even w mask bits small =
    let strip : List Bool → ℕ = λ (x : List Bool). number (spread (spell (suc w) (mask * 2 + 0)) x) in
    ap (λ (n : ℕ). strip (spell n bits)) (ones_last mask 0 (omega arith) ∙ add-zero (ones mask))
    ∙ ap strip (sym (append-nil (spell (ones mask) bits)))
    ∙ spread_last w mask 0 (spell (ones mask) bits) [] small (omega arith) (length_spell (ones mask) bits)
    ∙ omega (arith, last_none)

-- set: it takes the last bit
spread_odd : (w mask bits : ℕ) → mask < 2 ^ w → spread_of (suc w) (mask * 2 + 1) bits ≡ spread_of w mask (bits / 2) * 2 + bits % 2
unfolding spread_of
spread_odd w mask bits small =
    let strip : List Bool → ℕ = λ (x : List Bool). number (spread (spell (suc w) (mask * 2 + 1)) x) in
    let parts : bits ≡ bits / 2 * 2 + bits % 2 = omega arith in
    let bit : bits % 2 < 2 = omega arith in
    ap (λ (n : ℕ). strip (spell n bits)) (ones_last mask 1 (omega arith))
    ∙ ap (λ (n : ℕ). strip (spell (ones mask + 1) n)) parts
    ∙ ap strip (spell_append (ones mask) 1 (bits / 2) (bits % 2) bit)
    ∙ spread_last w mask 1 (spell (ones mask) (bits / 2)) (spell 1 (bits % 2)) small (omega arith) (length_spell (ones mask) (bits / 2))
    ∙ ap (λ (n : ℕ). number (spread (spell w mask) (spell (ones mask) (bits / 2))) * 2 + n) (last_bit (bits % 2) bit)

-- it has no more bits than the mask
pub spread_lt : (w mask bits : ℕ) → spread_of w mask bits < 2 ^ w
unfolding spread_of
spread_lt w mask bits =
    let strip = spread (spell w mask) (spell (ones mask) bits) in
    rw (length_spread (spell w mask) (spell (ones mask) bits) ∙ length_spell w mask) at (number_lt strip)

-- no place set: no strip
pub spread_none : (bits : ℕ) → spread_of 16 0 bits ≡ 0
unfolding spread_of number spread spell ones
spread_none bits = refl

-- the mask without its last place, and the strip without the last bit
pub record Next (w mask bits : ℕ) : Type 0 where
  pub less : bit_and mask (mask - 1) < mask
  pub strip : spread_of w mask bits ≡ spread_of w (bit_and mask (mask - 1)) (bits / 2) + (mask - bit_and mask (mask - 1)) * (bits % 2)

-- by the mask's last place
next_even : (w mask bits : ℕ) → 0 < mask → mask < 2 ^ w → Next w mask bits → Next (suc w) (mask * 2 + 0) bits
next_even w mask bits some small n =
    let rest = bit_and mask (mask - 1) in
    let a = mask * 2 + 0 in
    let half : a / 2 ≡ mask = omega arith in
    let half' : (a - 1) / 2 ≡ mask - 1 = omega arith in
    let digit : a % 2 ≡ 0 = omega arith in
    let digit' : (a - 1) % 2 ≡ 1 = omega arith in
    let and : bit_and a (a - 1) ≡ rest * 2 + 0 = and_step a (a - 1) ∙ rw (half, half', digit, digit') in
    let up = spread_even w mask bits small in
    let up' = spread_even w rest (bits / 2) (omega (arith, n.less)) in
    let low = doubled mask rest (bits % 2) in
    record { less = rw and (omega (arith, n.less)); strip = rw and (omega (arith, up, up', low, n.strip)) }
  where
    doubled : (x y d : ℕ) → (x * 2 + 0 - (y * 2 + 0)) * d ≡ (x - y) * d * 2
    doubled x y d =
        let e : x * 2 + 0 - (y * 2 + 0) ≡ (x - y) * 2 = omega arith in
        rw (e, mul_assoc, mul_comm 2 d, mul_assoc)

next_odd : (w mask bits : ℕ) → mask < 2 ^ w → Next (suc w) (mask * 2 + 1) bits
next_odd w mask bits small =
    let a = mask * 2 + 1 in
    let half : a / 2 ≡ mask = omega arith in
    let half' : (a - 1) / 2 ≡ mask = omega arith in
    let digit : a % 2 ≡ 1 = omega arith in
    let digit' : (a - 1) % 2 ≡ 0 = omega arith in
    let and : bit_and a (a - 1) ≡ mask * 2 + 0 = and_step a (a - 1) ∙ rw (half, half', digit, digit', and_self mask) in
    let low : a - (mask * 2 + 0) ≡ 1 = omega arith in
    record { less = rw and (omega arith); strip = rw (and, low) (omega (arith, spread_odd w mask bits small, spread_even w mask (bits / 2) small)) }

pub next : (w mask bits : ℕ) → 0 < mask → mask < 2 ^ w → Next w mask bits
next zero mask bits some small = absurd (omega arith)
next (suc w) mask bits some small =
    let parts : mask / 2 * 2 + mask % 2 ≡ mask = omega arith in
    let fewer : mask / 2 < 2 ^ w = omega (arith, pow-suc 2 w) in
    rw parts at (by (mask % 2) (omega arith) (omega arith) fewer (λ left. next w (mask / 2) bits left fewer))
  where
    by : (d : ℕ) → d < 2 → 0 < mask / 2 * 2 + d → mask / 2 < 2 ^ w → (0 < mask / 2 → Next w (mask / 2) bits) → Next (suc w) (mask / 2 * 2 + d) bits
    by zero bit some fewer more = next_even w (mask / 2) bits (omega arith) fewer (more (omega arith))
    by (suc zero) bit some fewer more = next_odd w (mask / 2) bits fewer
    by (suc (suc d)) bit some fewer more = absurd (omega arith)

-- ---- four places at once

-- the last place taken away, also where there is none
last_out : (mask rest bits : ℕ) → rest ≡ without_last mask → mask < 2 ^ 16 → (rest ≤ mask) × (spread_of 16 mask bits ≡ spread_of 16 rest (bits / 2) + (mask - rest) * (bits % 2))
last_out zero rest bits e small =
    let none : rest ≡ 0 = omega (arith, e, and_le_l 0 (0 - 1)) in
    rw none (omega arith, omega (arith, spread_none bits, spread_none (bits / 2)))
last_out (suc m) rest bits e small = let it = next 16 (suc m) bits (omega arith) small in rw e (omega (arith, it.less), it.strip)

-- what four bits add up to, and the sums by the number that the bits are
abbrev four_of : ℕ → ℕ → ℕ → ℕ → ℕ → ℕ
four_of a b c d bits = a * (bits % 2) + b * (bits / 2 % 2) + c * (bits / 2 / 2 % 2) + d * (bits / 2 / 2 / 2 % 2)

abbrev sums : ℕ → ℕ → ℕ → ℕ → List ℕ
sums a b c d =
    0 ∷ a ∷ b ∷ (a + b) ∷ c ∷ (a + c) ∷ (b + c) ∷ (a + b + c) ∷ d ∷ (a + d) ∷ (b + d) ∷ (a + b + d) ∷ (c + d) ∷ (a + (c + d)) ∷ (b + (c + d)) ∷ (a + b + (c + d)) ∷ []

-- numbers that a law gives, from the k-th on
unfoldable Lawful : (ℕ → ℕ) → ℕ → List ℕ → Type 0
Lawful f k [] = Unit {0}
Lawful f k (x ∷ xs) = (x ≡ f k) × Lawful f (suc k) xs

lawful_at : (f : ℕ → ℕ) (k : ℕ) (xs : List ℕ) (n : ℕ) → Lawful f k xs → n < length xs → get_or xs n 0 ≡ f (k + n)
unfolding Lawful
lawful_at f k [] n laws inside = absurd (omega arith)
lawful_at f k (x ∷ xs) zero laws inside = laws.0 ∙ ap f (sym (add-zero k))
lawful_at f k (x ∷ xs) (suc n) laws inside = lawful_at f (suc k) xs n laws.1 (omega arith) ∙ ap f (omega arith)

sum_at : (a b c d n : ℕ) → n < 16 → get_or (sums a b c d) n 0 ≡ four_of a b c d n
unfolding Lawful
sum_at a b c d n small =
    let with-d : Lawful (four_of a b c d) 8 (drop 8 (sums a b c d)) = (omega arith, (omega arith, (omega arith, (omega arith, (omega arith, (omega arith, (omega arith, (omega arith, tt {0})))))))) in
    let all : Lawful (four_of a b c d) 0 (sums a b c d) = (omega arith, (omega arith, (omega arith, (omega arith, (omega arith, (omega arith, (omega arith, (omega arith, with-d)))))))) in
    lawful_at (four_of a b c d) 0 (sums a b c d) n all small ∙ ap (four_of a b c d) (zero-add n)

pub four_out : (mask second third fourth rest : ℕ) → mask < 2 ^ 16 → second ≡ without_last mask → third ≡ without_last second → fourth ≡ without_last third → rest ≡ without_last fourth
    → ByFour mask (sums (mask - second) (second - third) (third - fourth) (fourth - rest)) rest
unfolding spread_of
four_out mask second third fourth rest small e e' e'' e''' = record { apart = apart }
  where
    gather : (t p q r u : ℕ) {s s' s'' s''' : ℕ} → s ≡ s' + p → s' ≡ s'' + q → s'' ≡ s''' + r → s''' ≡ t + u → s ≡ t + (p + q + r + u)
    gather t p q r u e e' e'' e''' = omega arith

    apart : (bits : ℕ) → spread_of 16 mask bits ≡ spread_of 16 rest (bits / 16) + get_or (sums (mask - second) (second - third) (third - fourth) (fourth - rest)) (bits % 16) 0
    apart bits =
        let it = last_out mask second bits e small in
        let it' = last_out second third (bits / 2) e' (omega (arith, it)) in
        let it'' = last_out third fourth (bits / 2 / 2) e'' (omega (arith, it, it')) in
        let it''' = last_out fourth rest (bits / 2 / 2 / 2) e''' (omega (arith, it, it', it'')) in
        let half : bits / 2 ≡ bits / 16 * 8 + bits % 16 / 2 = omega arith in
        let quarter : bits / 2 / 2 ≡ bits / 16 * 4 + bits % 16 / 2 / 2 = omega (arith, half) in
        let eighth : bits / 2 / 2 / 2 ≡ bits / 16 * 2 + bits % 16 / 2 / 2 / 2 = omega (arith, quarter) in
        let down : bits / 16 ≡ bits / 2 / 2 / 2 / 2 = omega (arith, eighth) in
        let bit : bits % 16 % 2 ≡ bits % 2 = omega arith in
        let bit' : bits % 16 / 2 % 2 ≡ bits / 2 % 2 = omega (arith, half) in
        let bit'' : bits % 16 / 2 / 2 % 2 ≡ bits / 2 / 2 % 2 = omega (arith, quarter) in
        let bit''' : bits % 16 / 2 / 2 / 2 % 2 ≡ bits / 2 / 2 / 2 % 2 = omega (arith, eighth) in
        rw (sum_at _ _ _ _ (bits % 16) (omega arith), down, bit, bit', bit'', bit''') (gather _ _ _ _ _ it.1 it'.1 it''.1 it'''.1)
