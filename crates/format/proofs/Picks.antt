-- Picking from a list by bits: what bits pick from lists that were joined or mapped, what zeros and ones pick, and how many are picked.
-- Assumes nothing.
use mathlib.Core.Path.{◌≡◌, refl, ap, ◌∙◌}
use mathlib.Core.Bool.{Bool, true, false}
use mathlib.Core.List.{List, [], ◌∷◌, ◌++◌, map}
use Prim.Native.Nat.{ℕ, zero, suc, ◌+◌, ◌-◌, ◌*◌, ◌^◌, ◌≤◌}
use native.Mathlib.Nat.{zero-div, add-zero, le_of_suc-le-suc}
use native.Mathlib.Omega.{arith}
use lib.ListN.{length, take, drop, replicate}
use lib.Pow.{pow_pos}
use Rattle.bits.proofs.BitLists.{spell_append}
use Rattle.bits.specs.BitLists.{spell}
use Rattle.format.specs.Masks.{places_from, pick}

module _ {A : Type 0} where
  pub pick_nil : (bits : List Bool) → ◌≡◌ {A = List A} (pick bits []) []
  unfolding pick
  pick_nil [] = refl
  pick_nil (b ∷ bits) = refl

  -- the bits that the first list leaves select from the second
  pub pick_append : (bits : List Bool) (xs ys : List A) → pick bits (xs ++ ys) ≡ pick bits xs ++ pick (drop (length xs) bits) ys
  unfolding pick
  pick_append bits [] ys = rw pick_nil
  pick_append [] (x ∷ xs) ys = refl
  pick_append (true ∷ bits) (x ∷ xs) ys = ap (λ (l : List A). x ∷ l) (pick_append bits xs ys)
  pick_append (false ∷ bits) (x ∷ xs) ys = pick_append bits xs ys

  pub pick_map : {B : Type 0} (f : A → B) (bits : List Bool) (xs : List A) → pick bits (map f xs) ≡ map f (pick bits xs)
  unfolding pick
  pick_map f [] xs = refl
  pick_map f (b ∷ bits) [] = refl
  pick_map {B} f (true ∷ bits) (x ∷ xs) = ap (λ (l : List B). f x ∷ l) (pick_map f bits xs)
  pick_map f (false ∷ bits) (x ∷ xs) = pick_map f bits xs

  -- ---- zeros

  pick_zeros : (n : ℕ) (xs : List A) → pick (spell n 0) xs ≡ []
  unfolding pick spell
  pick_zeros zero xs = refl
  pick_zeros (suc n) [] = refl
  pick_zeros (suc n) (x ∷ xs) = rw (zero-div (2 ^ n)) (pick_zeros n xs)

  -- they pick nothing behind other bits
  pub pick_filled : (bits : List Bool) (n : ℕ) (xs : List A) → pick (bits ++ spell n 0) xs ≡ pick bits xs
  unfolding pick
  pick_filled [] n xs = pick_zeros n xs
  pick_filled (b ∷ bits) n [] = refl
  pick_filled (true ∷ bits) n (x ∷ xs) = ap (λ (l : List A). x ∷ l) (pick_filled bits n xs)
  pick_filled (false ∷ bits) n (x ∷ xs) = pick_filled bits n xs

  -- so n bits pick alike at the front of 64
  pub pick_front : (n v : ℕ) (xs : List A) → n ≤ 64 → pick (spell 64 (v * 2 ^ (64 - n))) xs ≡ pick (spell n v) xs
  pick_front n v xs most =
      let sum : n + (64 - n) ≡ 64 = omega arith in
      let cut : spell 64 (v * 2 ^ (64 - n)) ≡ spell n v ++ spell (64 - n) 0 = rw (sum, add-zero) at (spell_append n (64 - n) v 0 (pow_pos (64 - n))) in
      ap (λ (l : List Bool). pick l xs) cut ∙ pick_filled (spell n v) (64 - n) xs

  -- ---- ones

  pick_ones : (n : ℕ) (xs : List A) → length xs ≤ n → pick (replicate n true) xs ≡ xs
  unfolding pick
  pick_ones n [] few = pick_nil (replicate n true)
  pick_ones zero (x ∷ xs) few = absurd (omega arith)
  pick_ones (suc n) (x ∷ xs) few = ap (λ (l : List A). x ∷ l) (pick_ones n xs (le_of_suc-le-suc few))

  -- the number of 64 ones picks all of so few
  pub pick_all : (xs : List A) → length xs ≤ 64 → pick (spell 64 (2 ^ 64 - 1)) xs ≡ xs
  unfolding spell
  pick_all xs few = pick_ones 64 xs few

  -- ---- how many

  pub pick_few : (bits : List Bool) (xs : List A) → length (pick bits xs) ≤ length xs
  unfolding pick
  pick_few [] xs = omega arith
  pick_few (b ∷ bits) [] = omega arith
  pick_few (true ∷ bits) (x ∷ xs) = omega (arith, pick_few bits xs)
  pick_few (false ∷ bits) (x ∷ xs) = omega (arith, pick_few bits xs)

  -- as many as there are ones among the bits of the list
  pub pick_count : (bits : List Bool) (xs : List A) (k : ℕ) → length (pick bits xs) ≡ length (places_from k (take (length xs) bits))
  unfolding pick places_from
  pick_count [] [] k = refl
  pick_count [] (x ∷ xs) k = refl
  pick_count (b ∷ bits) [] k = refl
  pick_count (true ∷ bits) (x ∷ xs) k = ap suc (pick_count bits xs (suc k))
  pick_count (false ∷ bits) (x ∷ xs) k = pick_count bits xs (suc k)
