-- A selection moved up to the front of 64 bits. Assumes nothing.
use Rattle.bits.proofs.Words.{◌≡◌, sym, ap, ◌∙◌, List, ℕ, suc, ◌+◌, ◌-◌, ◌*◌, ◌%◌, ◌^◌, ◌≤◌, ◌<◌, arith}
use native.Mathlib.Nat.{pow-suc, mul_assoc, add-mul}
use lib.Pow.{shl_exact, shl_lt, pow-add}
use Rattle.bits.specs.Places.{field}
use Rattle.bits.proofs.Fields.{field_add, field_lt}
use Rattle.heads.specs.Headings.{chosen_at}

module _ (bs : List ℕ) (place n : ℕ) where
  -- at once, in two steps, since no shift is by 64
  pub chosen_once : n ≤ 32 → field bs place n * 2 ^ (63 - n) % 2 ^ 64 * 2 % 2 ^ 64 ≡ chosen_at bs place n
  unfolding chosen_at
  chosen_once few =
      let v = field bs place n in
      let first : v * 2 ^ (63 - n) % 2 ^ 64 ≡ v * 2 ^ (63 - n) = shl_exact n (63 - n) 64 (field_lt bs place n) (omega arith) in
      let room : v * 2 ^ (63 - n) < 2 ^ (n + (63 - n)) = shl_lt n (63 - n) (field_lt bs place n) in
      let all : n + (63 - n) ≡ 63 = omega arith in
      let room' : v * 2 ^ (63 - n) < 2 ^ 63 = rw all at room in
      let more : 64 - n ≡ suc (63 - n) = omega arith in
      rw (first, more, pow-suc 2 (63 - n)) (shl_exact 63 1 64 room' (omega arith) ∙ mul_assoc v (2 ^ (63 - n)) 2)

  pub chosen_fits : n ≤ 64 → chosen_at bs place n < 2 ^ 64
  unfolding chosen_at
  chosen_fits most =
      let sum : n + (64 - n) ≡ 64 = omega arith in
      rw sum at (shl_lt n (64 - n) (field_lt bs place n))

  -- in two parts
  pub chosen_twice : 32 < n → n ≤ 64
      → field bs place 32 * 2 ^ 32 % 2 ^ 64 + field bs (place + 32) (n - 32) * 2 ^ (64 - n) % 2 ^ 64 ≡ chosen_at bs place n
  unfolding chosen_at
  chosen_twice many most =
      let u = field bs place 32 in
      let v = field bs (place + 32) (n - 32) in
      let front : u * 2 ^ 32 % 2 ^ 64 ≡ u * 2 ^ 32 = shl_exact 32 32 64 (field_lt bs place 32) (omega arith) in
      let back : v * 2 ^ (64 - n) % 2 ^ 64 ≡ v * 2 ^ (64 - n) = shl_exact (n - 32) (64 - n) 64 (field_lt bs (place + 32) (n - 32)) (omega arith) in
      let whole : 32 + (n - 32) ≡ n = omega arith in
      let parts : field bs place n ≡ u * 2 ^ (n - 32) + v = rw whole at (field_add bs place 32 (n - 32)) in
      let sum : n - 32 + (64 - n) ≡ 32 = omega arith in
      let moved : 2 ^ (n - 32) * 2 ^ (64 - n) ≡ 2 ^ 32 = sym (pow-add 2 (n - 32) (64 - n)) ∙ ap (λ (k : ℕ). 2 ^ k) sum in
      rw (front, back, parts, add-mul, mul_assoc, moved)
