-- Lists whose every element is stored anew, and some elements of a list one by one. Assumes nothing.
use Rattle.bits.proofs.Words.{◌≡◌, refl, ap, ◌∙◌, List, [], ◌∷◌, ◌++◌, ℕ, zero, suc, ◌+◌, ◌≤◌, arith, length, get_or, take, drop}
use mathlib.Core.List.{append-nil}
use native.Mathlib.Nat.{add-suc}
use lib.ListN.{drop_of_length-le}
use lib.Seq.{drop-cons, sets, sets-eq}

-- as many as there is room for, one after the other
pub stored_all : {A : Type 0} (l vs : List A) → length l ≡ length vs → sets l 0 vs ≡ vs
stored_all {A} l vs same =
    sets-eq vs l 0 (omega arith) ∙ ap (λ (m : List A). vs ++ m) (drop_of_length-le l {i = 0 + length vs} (omega arith)) ∙ append-nil vs

-- n elements, from the j-th behind the i-th on
unfoldable pub elements : {A : Type 0} → A → List A → ℕ → ℕ → ℕ → List A
elements d l i j zero = []
elements d l i j (suc n) = get_or l (i + j) d ∷ elements d l i (suc j) n

pub taken : {A : Type 0} (d : A) (l : List A) (i j n : ℕ) → i + j + n ≤ length l → take n (drop (i + j) l) ≡ elements d l i j n
unfolding elements
taken d l i j zero room = refl
taken {A} d l i j (suc n) room =
    rw (drop-cons l (i + j) d (omega arith), ← (add-suc i j)) (ap (λ (m : List A). get_or l (i + j) d ∷ m) (taken d l i (suc j) n (omega arith)))
