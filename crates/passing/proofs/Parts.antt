-- The bytes of some numbers. Assumes nothing.
use Rattle.std.proofs.Common.{◌≡◌, refl, ap, ◌∙◌, Bool, true, false, List, [], ◌∷◌, ◌++◌, map, ℕ, zero, suc, ◌+◌, ◌*◌, ◌/◌, ◌<◌, append_assoc, arith, length, length-append, get_or, take}
use mathlib.Core.List.{append-nil}
use mir.Val.{bool_byte}
use Rattle.std.proofs.lemmas.List.{map_more}
use Rattle.bits.specs.BitLists.{digit}
use Rattle.passing.specs.Bytes.{parts, parts_of}

pub truth_byte : (b : Bool) → bool_byte b ≡ digit b
truth_byte true = refl
truth_byte false = refl

pub length_parts : (k n : ℕ) → length (parts k n) ≡ k
unfolding parts
length_parts zero n = refl
length_parts (suc k) n = ap suc (length_parts k (n / 256))

pub length_parts_of : (k : ℕ) (ns : List ℕ) → length (parts_of k ns) ≡ k * length ns
unfolding parts_of
length_parts_of k [] = omega arith
length_parts_of k (n ∷ ns) = simp (length-append, length_parts) (omega (arith, length_parts_of k ns))

-- the bytes of one number more
parts_snoc : (k : ℕ) (ns : List ℕ) (n : ℕ) → parts_of k (ns ++ (n ∷ [])) ≡ parts_of k ns ++ parts k n
unfolding parts_of
parts_snoc k [] n = append-nil (parts k n)
parts_snoc k (m ∷ ns) n = rw (parts_snoc k ns n, append_assoc)

pub parts_more : {X : Type 0} (k : ℕ) (value : X → ℕ) (xs : List X) (i : ℕ) (d : X) → i < length xs
    → parts_of k (map value (take (i + 1) xs)) ≡ parts_of k (map value (take i xs)) ++ parts k (value (get_or xs i d))
parts_more k value xs i d inside =
    ap (parts_of k) (map_more value xs i d inside) ∙ parts_snoc k (map value (take i xs)) (value (get_or xs i d))
