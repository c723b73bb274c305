-- The bits of a strip at the places of the signal mask, gathered from the first place on. Assumes nothing.
use mathlib.Core.Path.{◌≡◌, sym, ap, ◌∙◌}
use mathlib.Core.Bool.{Bool}
use mathlib.Core.List.{List, [], ◌∷◌, ◌++◌, flat_map}
use Prim.Native.Nat.{ℕ, suc, ◌+◌, ◌-◌, ◌*◌, ◌/◌, ◌%◌, ◌^◌, ◌≤◌, ◌<◌}
use native.Mathlib.Nat.{mul_assoc, mul_comm, add-mul, pow-suc, mod-lt}
use native.Mathlib.Numerals.{add-one}
use native.Mathlib.Omega.{arith}
use lib.Count.{ones}
use lib.Dec.{eqb}
use lib.ListN.{length, get_or, drop, drop_of_length-le}
use lib.Pow.{pow_mono}
use lib.Seq.{drop-cons}
use borrow.Author.Tests.{eq-eqb, ne_eqb}
use Rattle.bits.proofs.BitLists.{digit_eqb, length_spell}
use Rattle.bits.specs.BitLists.{number, spell}
use Rattle.format.specs.Masks.{pick}
use Rattle.holding.proofs.Places.{ones_places}
use Rattle.holding.proofs.Spreads.{length_pick}
use Rattle.saved.specs.Gathering.{strip_bits, cell_bits}

-- as many as the mask has places
pub length_strip : (signals strip : ℕ) → signals < 2 ^ 16 → length (strip_bits signals strip) ≡ ones signals
length_strip signals strip small =
    length_pick (spell 16 signals) (spell 16 strip) (length_spell 16 strip ∙ sym (length_spell 16 signals)) ∙ sym (ones_places 16 signals 0 small)

-- those at the last i places
abbrev last_bits : ℕ → ℕ → ℕ → List Bool
last_bits i signals strip = pick (spell i signals) (spell i strip)

module _ (signals strip j : ℕ) where
  place_in : signals / 2 ^ j % 2 ≡ 1 → last_bits (suc j) signals strip ≡ eqb (strip / 2 ^ j % 2) 1 ∷ last_bits j signals strip
  unfolding pick spell
  place_in set = rw (eq-eqb (signals / 2 ^ j % 2) 1 set)

  place_out : (signals / 2 ^ j % 2 ≡ 1 → ⊥) → last_bits (suc j) signals strip ≡ last_bits j signals strip
  unfolding pick spell
  place_out unset = rw (ne_eqb (signals / 2 ^ j % 2) 1 unset)

-- what is gathered, and the last i places that are left
pub record Gathered (signals strip bits i : ℕ) : Type 0 where
  pub left : i ≤ 16
  pub few : bits < 2 ^ (16 - i)
  pub all : number (strip_bits signals strip) ≡ bits * 2 ^ length (last_bits i signals strip) + number (last_bits i signals strip)

pub none_gathered : (signals strip : ℕ) → Gathered signals strip 0 16
none_gathered signals strip = record { left = omega arith; few = omega arith; all = omega arith }

pub bit_in : (bits d p n : ℕ) → bits * (p * 2) + (d * p + n) ≡ (bits * 2 + d) * p + n
bit_in bits d p n = rw (mul_comm p 2, ← (mul_assoc bits 2 p), add-mul (bits * 2) d p) (omega arith)

-- a place more, set or not
module _ {signals strip bits i : ℕ} (g : Gathered signals strip bits i) (some : 0 < i) where
  wider : 2 ^ (16 - (i - 1)) ≡ 2 ^ (16 - i) * 2
  wider =
      let e : 16 - (i - 1) ≡ suc (16 - i) = omega (arith, g.left) in
      ap (λ (k : ℕ). 2 ^ k) e ∙ pow-suc 2 (16 - i)

  next : i ≡ suc (i - 1)
  next = omega arith

  pub one_gathered : signals / 2 ^ (i - 1) % 2 ≡ 1 → Gathered signals strip (bits * 2 + strip / 2 ^ (i - 1) % 2) (i - 1)
  unfolding number
  one_gathered set =
      let d = strip / 2 ^ (i - 1) % 2 in
      let bit : d < 2 = mod-lt _ (omega arith) in
      let rest = last_bits (i - 1) signals strip in
      let first : last_bits i signals strip ≡ eqb d 1 ∷ rest = ap (λ (k : ℕ). last_bits k signals strip) next ∙ place_in signals strip (i - 1) set in
      record {
        left = omega (arith, g.left);
        few = rw wider (omega (arith, g.few));
        all = g.all ∙ rw (first, pow-suc 2 (length rest), digit_eqb d bit) (bit_in bits d (2 ^ length rest) (number rest));
      }

  pub none_more : (signals / 2 ^ (i - 1) % 2 ≡ 1 → ⊥) → Gathered signals strip bits (i - 1)
  none_more unset =
      let same : last_bits i signals strip ≡ last_bits (i - 1) signals strip = ap (λ (k : ℕ). last_bits k signals strip) next ∙ place_out signals strip (i - 1) unset in
      record { left = omega (arith, g.left); few = rw wider (omega (arith, g.few)); all = g.all ∙ rw same }

-- it fits 16 bits
pub gathered_few : {signals strip bits i : ℕ} → Gathered signals strip bits i → bits < 2 ^ 16
gathered_few {i = i} g =
    let narrow : 16 - i ≤ 16 = omega arith in
    omega (arith, g.few, pow_mono narrow)

-- no place left
pub all_gathered : {signals strip bits i : ℕ} → Gathered signals strip bits i → i ≡ 0 → bits ≡ number (strip_bits signals strip)
unfolding number pick spell
all_gathered {signals} {strip} {bits} g none = sym (rw none at g.all ∙ omega arith)

-- ---- satellite by satellite

-- the next one's bits come first
pub next_strip : (signals : ℕ) (strips : List ℕ) (i : ℕ) → i < length strips
    → cell_bits signals (drop i strips) ≡ strip_bits signals (get_or strips i 0) ++ cell_bits signals (drop (i + 1) strips)
unfolding flat_map
next_strip signals strips i more = rw (drop-cons strips i 0 more, add-one i)

-- none is left
pub no_strip : (signals : ℕ) (strips : List ℕ) (i : ℕ) → length strips ≤ i → cell_bits signals (drop i strips) ≡ []
unfolding flat_map
no_strip signals strips i all = rw (drop_of_length-le strips all)
