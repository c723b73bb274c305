-- The line in pieces: what comes before its systems, what they say, and whether a text stands at a place of it.
use Rattle.std.specs.Prelude.{Bool, true, cond, ◌&&◌, ℕ, ◌+◌, eqb, get_or}
use mathlib.Core.List.{List, [], ◌∷◌, ◌++◌, flat_map}
use Rattle.format.specs.Masks.{System}
use Rattle.format.specs.Saved.{letter_s, system_text}
use Rattle.format.specs.Text.{tab, line_feed, dash, decimal}
use Rattle.holding.specs.declared.Outline.{Outline}

-- a dash where nothing is held, else the issue
unfoldable pub line_front : Outline → List ℕ
line_front o = letter_s ∷ (tab ∷ cond o.held (decimal o.iod) (dash ∷ []))

-- from the first of some systems on
abbrev pub text_from : List System → List ℕ
text_from ss = flat_map system_text ss ++ (line_feed ∷ [])

-- character by character
unfoldable pub stands_at : List ℕ → ℕ → List ℕ → Bool
stands_at line at [] = true
stands_at line at (c ∷ text) = eqb c (get_or line at 0) && stands_at line (at + 1) text
