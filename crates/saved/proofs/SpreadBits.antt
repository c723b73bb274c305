-- Bits put at the places of a mask one after the other, from the first place on. Assumes nothing.
use mathlib.Core.Path.{◌≡◌, refl, sym, ap, ◌∙◌}
use mathlib.Core.Bool.{Bool, true, false}
use mathlib.Core.List.{List, [], ◌∷◌}
use Prim.Native.Nat.{ℕ, suc, ◌+◌, ◌-◌, ◌*◌, ◌/◌, ◌%◌, ◌^◌, ◌≤◌, ◌<◌}
use native.Mathlib.Nat.{pow-suc, add-zero}
use native.Mathlib.Omega.{arith}
use lib.ListN.{length, get_or, drop}
use lib.Pow.{pow_mono}
use lib.Seq.{get_or-drop, drop-drop}
use borrow.Author.Tests.{eq-eqb, ne_eqb}
use Rattle.bits.specs.BitLists.{digit, number, spell}
use Rattle.bits.proofs.BitLists.{number_lt, length_spell}
use Rattle.holding.proofs.Spreads.{length_spread}
use Rattle.holding.specs.Spread.{spread}
use Rattle.saved.proofs.Gathers.{bit_in}

-- at a place that is set stands the next bit, zero where there is none
next_bit : (places bits : List Bool) → spread (true ∷ places) bits ≡ get_or bits 0 false ∷ spread places (drop 1 bits)
unfolding spread
next_bit places [] = refl
next_bit places (b ∷ bits) = refl

-- those of a list from the n-th on, at the last i places of a mask
abbrev pub last_spread : List Bool → ℕ → ℕ → ℕ → List Bool
last_spread bits places i n = spread (spell i places) (drop n bits)

length_last : (bits : List Bool) (places i n : ℕ) → length (last_spread bits places i n) ≡ i
length_last bits places i n = length_spread (spell i places) (drop n bits) ∙ length_spell i places

-- a number of as many bits
pub spread_lt : (bits : List Bool) (places w n : ℕ) → number (last_spread bits places w n) < 2 ^ w
spread_lt bits places w n = rw (length_last bits places w n) at (number_lt (last_spread bits places w n))

module _ (bits : List Bool) (places j n : ℕ) where
  place_in : places / 2 ^ j % 2 ≡ 1 → number (last_spread bits places (suc j) n) ≡ digit (get_or bits n false) * 2 ^ j + number (last_spread bits places j (n + 1))
  unfolding spell number
  place_in set =
      rw (eq-eqb (places / 2 ^ j % 2) 1 set, next_bit (spell j places) (drop n bits), get_or-drop n bits 0 false, add-zero n, drop-drop 1 n bits, length_last bits places j (n + 1))

  place_out : (places / 2 ^ j % 2 ≡ 1 → ⊥) → number (last_spread bits places (suc j) n) ≡ number (last_spread bits places j n)
  unfolding spell spread number
  place_out unset = rw (ne_eqb (places / 2 ^ j % 2) 1 unset) (omega arith)

pub bit_few : (b : Bool) → digit b ≤ 1
bit_few true = omega arith
bit_few false = omega arith

-- what is put, and the last i places that are left, with the bits from the next on
pub record Spreading (bits : List Bool) (places w first word next i : ℕ) : Type 0 where
  pub left : i ≤ w
  pub near : next + i ≤ first + w
  pub few : word < 2 ^ (w - i)
  pub all : number (last_spread bits places w first) ≡ word * 2 ^ i + number (last_spread bits places i next)

pub none_spread : (bits : List Bool) (places w first : ℕ) → Spreading bits places w first 0 first w
none_spread bits places w first =
    let none : w - w ≡ 0 = omega arith in
    record { left = omega arith; near = omega arith; few = rw none (omega arith); all = omega arith }

module _ {bits : List Bool} {places w first word next i : ℕ} (s : Spreading bits places w first word next i) (some : 0 < i) where
  wider : 2 ^ (w - (i - 1)) ≡ 2 ^ (w - i) * 2
  wider =
      let e : w - (i - 1) ≡ suc (w - i) = omega (arith, s.left) in
      ap (λ (k : ℕ). 2 ^ k) e ∙ pow-suc 2 (w - i)

  parts : i ≡ suc (i - 1)
  parts = omega arith

  -- with a place more, and a bit more where it is set
  pub one_spread : places / 2 ^ (i - 1) % 2 ≡ 1 → {b : ℕ} → b ≡ digit (get_or bits next false) → Spreading bits places w first (word * 2 + b) (next + 1) (i - 1)
  one_spread set {b} is =
      let d = digit (get_or bits next false) in
      let rest = number (last_spread bits places (i - 1) (next + 1)) in
      let first_bit : number (last_spread bits places i next) ≡ d * 2 ^ (i - 1) + rest = ap (λ (k : ℕ). number (last_spread bits places k next)) parts ∙ place_in bits places (i - 1) next set in
      let twice : 2 ^ i ≡ 2 ^ (i - 1) * 2 = ap (λ (k : ℕ). 2 ^ k) parts ∙ pow-suc 2 (i - 1) in
      record {
        left = omega (arith, s.left);
        near = omega (arith, s.near);
        few = rw (wider, is) (omega (arith, s.few, bit_few (get_or bits next false)));
        all = s.all ∙ rw (first_bit, twice, is) (bit_in word d (2 ^ (i - 1)) rest);
      }

  pub none_here : (places / 2 ^ (i - 1) % 2 ≡ 1 → ⊥) → Spreading bits places w first (word * 2) next (i - 1)
  none_here unset =
      let rest = number (last_spread bits places (i - 1) next) in
      let same : number (last_spread bits places i next) ≡ rest = ap (λ (k : ℕ). number (last_spread bits places k next)) parts ∙ place_out bits places (i - 1) next unset in
      let twice : 2 ^ i ≡ 2 ^ (i - 1) * 2 = ap (λ (k : ℕ). 2 ^ k) parts ∙ pow-suc 2 (i - 1) in
      let join : word * (2 ^ (i - 1) * 2) + rest ≡ word * 2 * 2 ^ (i - 1) + rest = omega (arith, bit_in word 0 (2 ^ (i - 1)) rest) in
      record { left = omega (arith, s.left); near = omega (arith, s.near); few = rw wider (omega (arith, s.few)); all = s.all ∙ rw (same, twice) join }

-- it is a number of few bits
pub spread_few : {bits : List Bool} {places w first word next i : ℕ} → Spreading bits places w first word next i → w ≤ 40 → word < 2 ^ 40
spread_few {w = w} {i = i} s thin =
    let narrow : w - i ≤ 40 = omega arith in
    omega (arith, s.few, pow_mono narrow)

-- no place left
pub all_spread : {bits : List Bool} {places w first word next i : ℕ} → Spreading bits places w first word next i → i ≡ 0 → word ≡ number (last_spread bits places w first)
unfolding spell spread number
all_spread s none = sym (rw none at s.all ∙ omega arith)
