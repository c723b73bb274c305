-- A test of all numbers of a list, and a bound of them.
use Rattle.std.specs.Prelude.{Bool, true, ◌&&◌, List, [], ◌∷◌, ℕ, ◌^◌, ltb}

-- each number meets a test
unfoldable pub every : (ℕ → Bool) → List ℕ → Bool
every test [] = true
every test (n ∷ ns) = test n && every test ns

-- every number is below a bound
abbrev pub below : ℕ → List ℕ → Bool
below b ns = every (λ n. ltb n b) ns

-- none has more than w bits
abbrev pub narrow : ℕ → List ℕ → Bool
narrow w ns = below (2 ^ w) ns
