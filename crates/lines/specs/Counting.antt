-- The bit count that opens a line of input, as it is tested.
use Rattle.std.specs.Prelude.{Bool, cond, List, [], ◌∷◌, ℕ, zero, suc, eqb, take}
use Rattle.format.specs.Same.{same_list}
use Rattle.format.specs.Text.{tab, decimal}

-- how many characters stand before the first tab, or before so many and the end
unfoldable pub tab_within : ℕ → List ℕ → ℕ
tab_within zero line = 0
tab_within (suc n) [] = 0
tab_within (suc n) (c ∷ cs) = cond (eqb c tab) 0 (suc (tab_within n cs))

-- the first k characters are a number
unfoldable pub opens_with : List ℕ → ℕ → ℕ → Bool
opens_with line k n = same_list eqb (take k line) (decimal n)
