-- An array that `array::from_fn` or `map` makes. Assumes nothing.
use Rattle.std.proofs.Common.{◌≡◌, ◌∙◌, subst, List, map, ℕ, zero, suc, ◌+◌, ◌<◌, zero-add, arith, length, get_or}
use Rattle.std.proofs.lemmas.List.{ext_get_or, get_or-map, length-map}
use Rattle.std.specs.Array.{IsFromFnResult, IsFromFnResultFrom, IsMapOf}
use denote.Param.Members.{Mut, Called}

-- where the function, called for a place, leaves itself as it was and gives what a list has there
module _ {F B : Type 0} (g : Mut F (ℕ × Unit {0}) B) (f : F) (d : B) (xs : List B) (calls : (i : ℕ) (y : B) (q : F) → i < length xs → Called g f (i, tt) y q → (q ≡ f) × (y ≡ get_or xs i d)) where
  from : (ys : List B) (i n j : ℕ) → i + n ≡ length xs → IsFromFnResultFrom g f ys i n → j < n → get_or ys (i + j) d ≡ get_or xs (i + j) d
  from ys i zero j long all inside = absurd (omega arith)
  from ys i (suc n) zero long (q, y, at, call, rest) inside =
      let here : i + 0 ≡ i = omega arith in
      rw here (at.1 d ∙ (calls i y q (omega arith) call).1)
  from ys i (suc n) (suc j) long (q, y, at, call, rest) inside =
      let next : i + suc j ≡ i + 1 + j = omega arith in
      let same = (calls i y q (omega arith) call).0 in
      rw next (from ys (i + 1) n j (omega arith) (subst (λ (p : F). IsFromFnResultFrom g p ys (i + 1) n) same rest) (omega arith))

  -- it makes that list
  pub made : {n : ℕ} {ys : List B} → length xs ≡ n → IsFromFnResult g f ys n → ys ≡ xs
  made {n} {ys} long all =
      ext_get_or d ys xs (omega (arith, all.long)) (λ k inside. rw zero-add at (from ys 0 n k (omega arith) all.each (omega (arith, all.long))))

-- an array that `map` makes: where the function gives h of what it is called with
pub mapped : {F A B : Type 0} (g : Mut F (A × Unit {0}) B) (f : F) (h : A → B) (d : A) (calls : (p q : F) (x : A) (y : B) → Called g p (x, tt) y q → y ≡ h x)
    → {xs : List A} {ys : List B} {n : ℕ} → length xs ≡ n → IsMapOf g f xs ys n → ys ≡ map h xs
mapped g f h d calls {xs} {ys} {n} long all =
    let both : length ys ≡ length (map h xs) = rw length-map (omega (arith, all.long)) in
    ext_get_or (h d) ys (map h xs) both
    (λ i inside.
    let there : i < n = omega (arith, all.long) in
    let call = all.at i d (h d) there in
    rw (get_or-map h xs i d (h d) (omega arith)) (calls call.0 call.1 (get_or xs i d) (get_or ys i (h d)) call.2))
