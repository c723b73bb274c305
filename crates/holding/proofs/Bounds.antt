-- A bound of all numbers of a list or table, by one test: at an index, under a wider bound, of parts, of lists one after the other. Assumes nothing.
use Rattle.bits.proofs.Words.{◌≡◌, refl, true, List, [], ◌∷◌, ◌++◌, ℕ, zero, suc, ◌-◌, ◌^◌, ◌≤◌, ◌<◌, arith, ltb, length, get_or, take, drop}
use native.Mathlib.Nat.{le_of_suc-le-suc}
use borrow.Author.Tests.{ltb-true, lt-ltb}
use lib.ListN.{replicate}
use lib.Pow.{pow_pos}
use Rattle.format.proofs.Sames.{and_true, true_and}
use Rattle.holding.specs.Bounds.{below, narrow, every}
use Rattle.holding.specs.Pictures.{filled}

module _ (b : ℕ) where
  pub below_at : (xs : List ℕ) → below b xs ≡ true → (i : ℕ) → i < length xs → get_or xs i 0 < b
  unfolding every
  below_at [] e i h = absurd (omega arith)
  below_at (x ∷ xs) e zero h = ltb-true x b (and_true (ltb x b) _ e).0
  below_at (x ∷ xs) e (suc i) h = below_at xs (and_true (ltb x b) _ e).1 i (le_of_suc-le-suc h)

  -- the first k numbers, and the others
  pub below_take : (k : ℕ) (xs : List ℕ) → below b xs ≡ true → below b (take k xs) ≡ true
  unfolding every
  below_take zero xs e = refl
  below_take (suc k) [] e = refl
  below_take (suc k) (x ∷ xs) e =
      let parts = and_true (ltb x b) _ e in
      true_and parts.0 (below_take k xs parts.1)

  pub below_drop : (k : ℕ) (xs : List ℕ) → below b xs ≡ true → below b (drop k xs) ≡ true
  unfolding every
  below_drop zero xs e = e
  below_drop (suc k) [] e = refl
  below_drop (suc k) (x ∷ xs) e = below_drop k xs (and_true (ltb x b) _ e).1

  pub below_append : (xs ys : List ℕ) → below b xs ≡ true → below b ys ≡ true → below b (xs ++ ys) ≡ true
  unfolding every
  below_append [] ys e f = f
  below_append (x ∷ xs) ys e f =
      let parts = and_true (ltb x b) _ e in
      true_and parts.0 (below_append xs ys parts.1 f)

  pub below_replicate : (n x : ℕ) → x < b → below b (replicate n x) ≡ true
  unfolding every
  below_replicate zero x small = refl
  below_replicate (suc n) x small = true_and (lt-ltb x b small) (below_replicate n x small)

  -- what is below a bound is below a larger one
  pub below_wider : (c : ℕ) → b ≤ c → (xs : List ℕ) → below b xs ≡ true → below c xs ≡ true
  unfolding every
  below_wider c le [] e = refl
  below_wider c le (x ∷ xs) e =
      let parts = and_true (ltb x b) _ e in
      let small : x < c = omega (arith, ltb-true x b parts.0) in
      true_and (lt-ltb x c small) (below_wider c le xs parts.1)

-- what fills an array changes nothing
pub narrow_filled : (w n : ℕ) (xs : List ℕ) → narrow w xs ≡ true → narrow w (filled n 0 xs) ≡ true
unfolding filled
narrow_filled w n xs e = below_append (2 ^ w) xs (replicate (n - length xs) 0) e (below_replicate (2 ^ w) (n - length xs) 0 (pow_pos w))
