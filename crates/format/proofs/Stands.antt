-- Bits that stand at a place of a byte string: their parts stand there too, and the numbers and bits at these places are theirs. Assumes nothing.
use mathlib.Core.Path.{◌≡◌, refl, sym, ap, ap₂, ◌∙◌}
use mathlib.Core.Bool.{Bool, false}
use mathlib.Core.List.{List, ◌++◌}
use Prim.Native.Nat.{ℕ, ◌+◌, ◌-◌, ◌*◌, ◌^◌, ◌≤◌, ◌<◌, min}
use native.Mathlib.Nat.{add-zero, add_assoc, mod-eq_of_lt}
use native.Mathlib.Omega.{arith}
use lib.Dec.{eqb}
use lib.ListN.{length, take, drop, get_or, length-append, length-drop, length-take}
use lib.Seq.{take-take, take_at, drop_at, drop-drop, get_or-take, get_or-drop, length-take-le}
use Rattle.bits.specs.BitLists.{number, spell, bits}
use Rattle.bits.specs.Places.{bit_at, field}
use Rattle.bits.proofs.BitLists.{length_bits, length_spell, number_spell}
use Rattle.bits.proofs.Bridge.{bit_bits, spell_bit, field_number}
use Rattle.format.specs.Reading.{bits_from}
use Rattle.format.proofs.Runs.{drop_take}

-- so many bits behind a start
pub record Stand (bytes : List ℕ) (start from : ℕ) (b : List Bool) : Type 0 where
  pub room : start + from + length b ≤ 8 * length bytes
  pub there : take (length b) (drop (start + from) (bits bytes)) ≡ b

module _ {bytes : List ℕ} {start from : ℕ} where
  -- ---- their parts

  pub stand_front : (x y : List Bool) → Stand bytes start from (x ++ y) → Stand bytes start from x
  stand_front x y s =
      let rest : List Bool = drop (start + from) (bits bytes) in
      let less : length x ≤ length (x ++ y) = rw length-append (omega arith) in
      record {
        room = omega (arith, s.room);
        there = sym (take-take (length x) (length (x ++ y)) rest less) ∙ ap (take (length x)) s.there ∙ take_at x y (length x) refl;
      }

  pub stand_back : (x y : List Bool) (n : ℕ) → length x ≡ n → Stand bytes start from (x ++ y) → Stand bytes start (from + n) y
  stand_back x y n e s =
      let rest : List Bool = drop (start + from) (bits bytes) in
      let sum : length (x ++ y) ≡ n + length y = length-append x y ∙ ap (λ (k : ℕ). k + length y) e in
      let room : n ≤ length rest = simp (length-drop, length_bits) (omega (arith, s.room)) in
      record {
        room = omega (arith, s.room);
        there =
            ap (λ (p : ℕ). take (length y) (drop p (bits bytes))) (sym (add_assoc start from n)) ∙ ap (take (length y)) (sym (drop-drop n (start + from) (bits bytes)))
            ∙ sym (drop_take n (length y) rest room) ∙ ap (λ (k : ℕ). drop n (take k rest)) (sym sum) ∙ ap (drop n) s.there ∙ drop_at x y n e;
      }

  -- ---- what they say

  -- the number in w of them, p behind the first
  pub stand_field : {b : List Bool} (p w : ℕ) → p + w ≤ length b → Stand bytes start from b → field bytes (start + from + p) w ≡ number (take w (drop p b))
  stand_field {b} p w inside s =
      let rest : List Bool = drop (start + from) (bits bytes) in
      let room : p ≤ length rest = simp (length-drop, length_bits) (omega (arith, s.room)) in
      let e : length b ≡ p + (length b - p) = omega arith in
      field_number bytes (start + from + p) w (omega (arith, s.room))
      ∙ ap number (
      ap (take w) (sym (drop-drop p (start + from) (bits bytes))) ∙ sym (take-take w (length b - p) (drop p rest) (omega arith))
      ∙ ap (take w) (sym (drop_take p (length b - p) rest room) ∙ ap (λ (k : ℕ). drop p (take k rest)) (sym e) ∙ ap (drop p) s.there)
      )

  -- the first ones, which spell a number
  pub stand_number : (w n : ℕ) (y : List Bool) → n < 2 ^ w → Stand bytes start from (spell w n ++ y) → field bytes (start + from) w ≡ n
  stand_number w n y small s =
      let room : 0 + w ≤ length (spell w n ++ y) = simp (length-append, length_spell) (omega arith) in
      ap (λ (p : ℕ). field bytes p w) (sym (add-zero (start + from))) ∙ stand_field 0 w room s ∙ ap number (take_at (spell w n) y w (length_spell w n)) ∙ number_spell w n
      ∙ mod-eq_of_lt small

  -- the j-th of them
  pub stand_bit : {b : List Bool} (j : ℕ) → j < length b → Stand bytes start from b → get_or b j false ≡ eqb (bit_at bytes (start + from + j)) 1
  stand_bit {b} j inside s =
      ap (λ (l : List Bool). get_or l j false) (sym s.there) ∙ get_or-take (length b) (drop (start + from) (bits bytes)) j false inside
      ∙ get_or-drop (start + from) (bits bytes) j false ∙ bit_bits bytes (start + from + j)

  -- the first one, a flag
  pub stand_flag : (n : ℕ) (y : List Bool) → n < 2 → Stand bytes start from (spell 1 n ++ y) → eqb (bit_at bytes (start + from)) 1 ≡ eqb n 1
  stand_flag n y small s =
      let room : 0 < length (spell 1 n ++ y) = simp (length-append, length_spell) (omega arith) in
      ap (λ (p : ℕ). eqb (bit_at bytes p) 1) (sym (add-zero (start + from))) ∙ sym (stand_bit 0 room s) ∙ ap (λ (l : List Bool). get_or (l ++ y) 0 false) (spell_bit n small)

-- ---- the bits that a reading takes from a start on stand there

pub stand_taken : (bytes : List ℕ) (end start taken : ℕ) → 0 < taken → taken ≤ length (bits_from bytes end start) → Stand bytes start 0 (take taken (bits_from bytes end start))
unfolding bits_from
stand_taken bytes end start taken some inside =
    let l : List Bool = bits bytes in
    let size : length (take taken (drop start (take end l))) ≡ taken = length-take-le taken (drop start (take end l)) inside in
    let most : length (drop start (take end l)) ≡ min end (8 * length bytes) - start = simp (length-drop, length-take, length_bits) refl in
    let e : end ≡ start + (end - start) = omega arith in
    let before : start ≤ length l = rw length_bits (omega arith) in
    record {
      room = omega arith;
      there =
          ap₂ (λ (n p : ℕ). take n (drop p l)) size (add-zero start) ∙ sym (take-take taken (end - start) (drop start l) (omega arith))
          ∙ ap (take taken) (sym (drop_take start (end - start) l before) ∙ ap (λ (n : ℕ). drop start (take n l)) (sym e));
    }
