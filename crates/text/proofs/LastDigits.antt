-- The last digits of a number: how many there are, the store of one, and that a number's own digits are its last. Assumes nothing.
use mathlib.Core.Path.{◌≡◌, refl, sym, ap, ◌∙◌}
use mathlib.Core.List.{List, [], ◌∷◌, ◌++◌}
use Prim.Native.Nat.{ℕ, zero, suc, ◌+◌, ◌*◌, ◌/◌, ◌%◌, ◌^◌, ◌≤◌, ◌<◌}
use native.Mathlib.Nat.{pow-suc, one-le-pow}
use native.Mathlib.Omega.{arith}
use lib.ListN.{length, set, length-append}
use lib.Seq.{sets}
use Rattle.format.specs.Text.{digit_char, decimal}
use Rattle.format.proofs.Texts.{by_digits, decimal_one, decimal_more}
use Rattle.text.specs.Digits.{last_digits}
use Rattle.text.proofs.Stores.{sets_append, sets_behind}

pub length_digits : (base k n : ℕ) → length (last_digits base k n) ≡ k
unfolding last_digits
length_digits base zero n = refl
length_digits base (suc k) n = length-append (last_digits base k (n / base)) (digit_char (n % base) ∷ []) ∙ omega (arith, length_digits base k (n / base))

-- the last one is stored first
pub one_digit : (l : List ℕ) (at base k n : ℕ) → sets l at (last_digits base (suc k) n) ≡ sets (set l (at + k) (digit_char (n % base))) at (last_digits base k (n / base))
unfolding last_digits
one_digit l at base k n =
    let long = length_digits base k (n / base) in
    sets_append l at (last_digits base k (n / base)) (digit_char (n % base) ∷ [])
    ∙ rw long (sym (sets_behind l at (last_digits base k (n / base)) (at + k) (digit_char (n % base)) (omega (arith, long))))

-- a number's own digits
pub own_digits : (n : ℕ) → decimal n ≡ last_digits 10 (length (decimal n)) n
unfolding last_digits
own_digits =
    by_digits (λ n l. l ≡ last_digits 10 (length l) n)
    (λ n small. let same : n % 10 ≡ n = omega arith in rw same)
    (λ n l it.
    let long : length (l ++ (digit_char (n % 10) ∷ [])) ≡ suc (length l) = length-append l (digit_char (n % 10) ∷ []) ∙ omega arith in
    rw long (ap (λ (m : List ℕ). m ++ (digit_char (n % 10) ∷ [])) it))

-- how many digits a number has
pub short : (n : ℕ) → n < 10 → length (decimal n) ≡ 1
short n small = ap length (decimal_one n small)

pub longer : (n : ℕ) → 10 ≤ n → length (decimal n) ≡ length (decimal (n / 10)) + 1
longer n large = ap length (decimal_more n large) ∙ length-append (decimal (n / 10)) (digit_char (n % 10) ∷ [])

pub width : (k n : ℕ) → 10 ^ k ≤ n → n < 10 * 10 ^ k → length (decimal n) ≡ k + 1
width zero n low high = short n (omega arith)
width (suc k) n low high =
    let least : 10 ^ k * 10 ≤ n = rw pow-suc at low in
    let most : n < 10 * (10 ^ k * 10) = rw pow-suc at high in
    omega (arith, longer n (omega (arith, one-le-pow k 10 (omega arith))), width k (n / 10) (omega arith) (omega arith))
