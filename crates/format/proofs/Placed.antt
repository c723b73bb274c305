-- A start in a stretch, and the bits of a byte string from a place on. Assumes nothing.
use mathlib.Core.Path.{◌≡◌, refl, sym, ap, ◌∙◌}
use mathlib.Core.Bool.{Bool, true, false, and-eq-true_iff}
use mathlib.Core.List.{List, [], ◌∷◌}
use Prim.Native.Nat.{ℕ, ◌+◌, ◌-◌, ◌*◌, ◌^◌, ◌≤◌}
use native.Mathlib.Nat.{le_refl, mod-eq_of_lt}
use native.Mathlib.Omega.{arith}
use lib.Dec.{eqb, leb}
use lib.ListN.{length, take, drop, length-drop}
use lib.Pow.{pow_pos}
use lib.Seq.{drop-drop, take_all, take-take, length-take-le}
use borrow.Author.Tests.{ne_eqb, leb-true, le-leb}
use Rattle.bits.specs.BitLists.{number, spell, bits}
use Rattle.bits.specs.Places.{field}
use Rattle.bits.proofs.BitLists.{length_bits, number_spell}
use Rattle.bits.proofs.Bridge.{spell_field}
use Rattle.bits.proofs.Fields.{field_lt}
use Rattle.format.specs.Assigned.{blank}
use Rattle.format.specs.Reading.{stretch_limit, placed, bits_from}
use Rattle.format.proofs.Runs.{drop_take}

-- ---- a start in a stretch

-- what the test of them says
pub record Inside (bs : List ℕ) (end start : ℕ) : Type 0 where
  pub limit : end ≤ stretch_limit
  pub lent : end ≤ 8 * length bs
  pub there : start ≤ end

pub inside : (bs : List ℕ) (end start : ℕ) → placed bs end start ≡ true → Inside bs end start
unfolding placed
inside bs end start e =
    let first = (and-eq-true_iff (leb end stretch_limit) _).0 e in
    let second = (and-eq-true_iff (leb end (8 * length bs)) _).0 first.1 in
    record { limit = leb-true _ _ first.0; lent = leb-true _ _ second.0; there = leb-true _ _ second.1 }

-- and back
pub is_placed : (bs : List ℕ) (end start : ℕ) → Inside bs end start → placed bs end start ≡ true
unfolding placed
is_placed bs end start i = rw (le-leb _ _ i.limit, le-leb _ _ i.lent, le-leb _ _ i.there)

-- ---- the bits there

module _ (bs : List ℕ) (end : ℕ) (there : end ≤ 8 * length bs) where
  whole : length (take end (bits bs)) ≡ end
  whole = length-take-le end (bits bs) (rw (length_bits bs) there)

  pub length_from : (place : ℕ) → length (bits_from bs end place) ≡ end - place
  unfolding bits_from
  length_from place = length-drop place (take end (bits bs)) ∙ ap (λ (n : ℕ). n - place) whole

  -- w bits there
  pub take_from : (place w : ℕ) → place + w ≤ end → take w (bits_from bs end place) ≡ spell w (field bs place w)
  unfolding bits_from
  take_from place w room =
      let long : place ≤ length (bits bs) = rw length_bits (omega arith) in
      let e : place + (end - place) ≡ end = omega arith in
      ap (λ (n : ℕ). take w (drop place (take n (bits bs)))) (sym e) ∙ ap (take w) (drop_take place (end - place) (bits bs) long)
      ∙ take-take w (end - place) (drop place (bits bs)) (omega arith) ∙ sym (spell_field bs place w (omega arith))

  -- the bits after w more
  pub drop_from : (place w : ℕ) → drop w (bits_from bs end place) ≡ bits_from bs end (place + w)
  unfolding bits_from
  drop_from place w = drop-drop w place (take end (bits bs))

-- ---- all bits are zero

pub blank_number : (l : List Bool) → blank l ≡ eqb (number l) 0
unfolding blank number
blank_number [] = refl
blank_number (true ∷ l) = sym (ne_eqb (1 * 2 ^ length l + number l) 0 (λ e. omega (arith, pow_pos (length l))))
blank_number (false ∷ l) =
    let e : 0 * 2 ^ length l + number l ≡ number l = omega arith in
    blank_number l ∙ ap (λ (n : ℕ). eqb n 0) (sym e)

-- just where the number in them is
pub blank_from : (bs : List ℕ) (end place : ℕ) → end ≤ 8 * length bs → place ≤ end → blank (bits_from bs end place) ≡ eqb (field bs place (end - place)) 0
blank_from bs end place inside room =
    let all : take (end - place) (bits_from bs end place) ≡ bits_from bs end place = take_all (end - place) (bits_from bs end place) (rw (length_from bs end inside place) (le_refl (end - place))) in
    let bits = sym all ∙ take_from bs end inside place (end - place) (omega arith) in
    blank_number (bits_from bs end place) ∙ ap (λ (l : List Bool). eqb (number l) 0) bits
    ∙ ap (λ (n : ℕ). eqb n 0) (number_spell (end - place) (field bs place (end - place)) ∙ mod-eq_of_lt (field_lt bs place (end - place)))
