-- Numbers of bytes, the least byte first, in std's words. Assumes nothing.
use Rattle.std.proofs.Common.{◌≡◌, refl, sym, ap, ap₂, ◌∙◌, List, [], ◌∷◌, ℕ, zero, suc, ◌+◌, ◌*◌, ◌/◌, ◌%◌, ◌^◌, ◌<◌, arith, length, get_or, take, drop}
use native.Mathlib.Nat.{div-div-eq-div-mul, mul_comm, pow-succ'}
use lib.Seq.{get_or-drop, drop-drop}
use Rattle.std.specs.Int.{sum_through, byte_worth, bytes_low_first}
use Rattle.passing.specs.Bytes.{little, littles, parts}

-- a byte more, behind the others
little_more : (k : ℕ) (bs : List ℕ) → little (suc k) bs ≡ little k bs + get_or bs k 0 * 256 ^ k
unfolding little
little_more zero bs = omega arith
little_more (suc k) bs =
    let next : 1 + k ≡ suc k = omega arith in
    rw (little_more k (drop 1 bs), get_or-drop 1 bs k 0, next, pow-succ' 256 k) (omega arith)

-- only these bytes are read
little_take : (k : ℕ) (bs : List ℕ) → little k (take k bs) ≡ little k bs
unfolding little
little_take zero bs = refl
little_take (suc k) [] = refl
little_take (suc k) (b ∷ bs) = rw (little_take k bs)

-- what `from_le_bytes` sums up
worth : (k : ℕ) (bs : List ℕ) → sum_through (λ i. byte_worth i (get_or bs i 0)) k ≡ little (suc k) bs
unfolding little
worth zero bs = omega arith
worth (suc k) bs = rw (worth k bs, little_more (suc k) bs) refl

pub little_worth : (k : ℕ) (bs : List ℕ) → sum_through (λ i. byte_worth i (get_or (take (suc k) bs) i 0)) k ≡ little (suc k) bs
little_worth k bs = worth k (take (suc k) bs) ∙ little_take (suc k) bs

-- ---- some numbers

pub littles_length : (k n : ℕ) (bs : List ℕ) → length (littles k n bs) ≡ n
unfolding littles
littles_length k zero bs = refl
littles_length k (suc n) bs = ap suc (littles_length k n (drop k bs))

pub littles_at : (k n i from : ℕ) (bs : List ℕ) → i < n → little k (drop (from + k * i) bs) ≡ get_or (littles k n (drop from bs)) i 0
unfolding littles
littles_at k zero i from bs inside = elim inside [ ]
littles_at k (suc n) zero from bs inside =
    let here : from + k * 0 ≡ from = omega arith in
    rw here refl
littles_at k (suc n) (suc i) from bs inside =
    let there : from + k * suc i ≡ from + k + k * i = omega arith in
    rw (there, drop-drop k from bs) (littles_at k n i (from + k) bs (omega arith))

-- each is what `from_le_bytes` sums up of the bytes that it has
pub number_there : (k n i from : ℕ) (bs : List ℕ) → i < length (littles (suc k) n (drop from bs))
    → get_or (littles (suc k) n (drop from bs)) i 0 ≡ sum_through (λ j. byte_worth j (get_or (take (suc k) (drop (from + suc k * i) bs)) j 0)) k
number_there k n i from bs inside =
    sym (littles_at (suc k) n i from bs (omega (arith, littles_length (suc k) n (drop from bs)))) ∙ sym (little_worth k (drop (from + suc k * i) bs))

-- what `to_le_bytes` gives
low : (i k n : ℕ) → bytes_low_first i k n ≡ parts k (n / 256 ^ i)
unfolding parts
low i zero n = refl
low zero (suc k) n =
    let first : n % 256 ≡ n / 1 % 256 = omega arith in
    let next : n / 256 ^ 1 ≡ n / 1 / 256 = omega arith in
    ap₂ ◌∷◌ first (low 1 k n ∙ ap (parts k) next)
low (suc i) (suc k) n =
    let next : n / 256 ^ suc (suc i) ≡ n / 256 ^ suc i / 256 = rw (div-div-eq-div-mul n (256 ^ suc i) 256) (ap (λ (d : ℕ). n / d) (pow-succ' 256 (suc i) ∙ mul_comm 256 (256 ^ suc i))) in
    ap (λ (l : List ℕ). n / 256 ^ suc i % 256 ∷ l) (low (suc (suc i)) k n ∙ ap (parts k) next)

pub low_first : (k n : ℕ) → bytes_low_first 0 k n ≡ parts k n
low_first k n = low 0 k n ∙ ap (parts k) (omega arith)
