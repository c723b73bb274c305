-- Laws of naming by IDs. Assumes nothing.
use Rattle.bits.proofs.Words.{◌≡◌, refl, sym, ap, ◌∙◌, Bool, true, false, cond, List, [], ◌∷◌, ◌++◌, ℕ, zero, suc, ◌≤◌, ◌<◌, arith, eqb, length, get_or, take}
use native.Mathlib.Nat.{le_of_suc-le-suc}
use borrow.Author.Tests.{eqb-true, eqb-false, eq-eqb, ne_eqb}
use lib.Seq.{take-suc}
use Rattle.format.specs.Messages.{named}

-- either way round
pub turned : (a b : ℕ) → eqb a b ≡ eqb b a
turned a b = go (eqb a b) refl
  where
    go : (t : Bool) → eqb a b ≡ t → eqb a b ≡ eqb b a
    go true e = e ∙ sym (eq-eqb b a (sym (eqb-true a b e)))
    go false e = e ∙ sym (ne_eqb b a (λ f. eqb-false a b e (sym f)))

pub named_at : (id : ℕ) (xs : List ℕ) (i count : ℕ) → i < count → count ≤ length xs → id ≡ get_or xs i 0 → named id (take count xs) ≡ true
unfolding named
named_at id xs i zero h room e = absurd (omega arith)
named_at id [] i (suc count) h room e = absurd (omega arith)
named_at id (x ∷ xs) zero (suc count) h room e = rw (eq-eqb id x e)
named_at id (x ∷ xs) (suc i) (suc count) h room e = ap (λ (b : Bool). cond (eqb id x) true b) (named_at id xs i count (le_of_suc-le-suc h) (le_of_suc-le-suc room) e) ∙ either (eqb id x)
  where
    either : (b : Bool) → cond b true true ≡ true
    either true = refl
    either false = refl

named_append : (id : ℕ) (xs ys : List ℕ) → named id xs ≡ false → named id (xs ++ ys) ≡ named id ys
unfolding named
named_append id [] ys none = refl
named_append id (x ∷ xs) ys none = go (eqb id x) none (named_append id xs ys)
  where
    go : (b : Bool) → cond b true (named id xs) ≡ false → (named id xs ≡ false → named id (xs ++ ys) ≡ named id ys) → cond b true (named id (xs ++ ys)) ≡ named id ys
    go true none more = absurd (let z : ◌≡◌ {A = ℕ} 0 1 = cc in omega arith)
    go false none more = more none

pub named_more : (id : ℕ) (xs : List ℕ) (i : ℕ) → i < length xs → named id (take i xs) ≡ false → (id ≡ get_or xs i 0 → ⊥) → named id (take (suc i) xs) ≡ false
unfolding named
named_more id xs i h none other = ap (named id) (take-suc xs i 0 h) ∙ named_append id (take i xs) (get_or xs i 0 ∷ []) none ∙ rw (ne_eqb id (get_or xs i 0) other)
