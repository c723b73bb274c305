-- Numbers as bytes, the least byte first.
use Rattle.std.specs.Prelude.{List, [], ◌∷◌, ◌++◌, ℕ, zero, suc, ◌+◌, ◌*◌, ◌/◌, ◌%◌, get_or, drop}

-- the number in the first k bytes
unfoldable pub little : ℕ → List ℕ → ℕ
little zero bs = 0
little (suc k) bs = get_or bs 0 0 + 256 * little k (drop 1 bs)

-- n numbers of k bytes each
unfoldable pub littles : ℕ → ℕ → List ℕ → List ℕ
littles k zero bs = []
littles k (suc n) bs = little k bs ∷ littles k n (drop k bs)

-- and back
unfoldable pub parts : ℕ → ℕ → List ℕ
parts zero n = []
parts (suc k) n = n % 256 ∷ parts k (n / 256)

unfoldable pub parts_of : ℕ → List ℕ → List ℕ
parts_of k [] = []
parts_of k (n ∷ ns) = parts k n ++ parts_of k ns
