-- A line gathered from pieces of input.
use Rattle.std.specs.Prelude.{Bool, true, false, cond, List, [], ◌∷◌, ℕ, suc, ◌+◌, ◌-◌, min, eqb, length, take}
use Rattle.std.proofs.lemmas.List.Edits.{sets}
use Rattle.format.specs.Text.{line_feed}
use Rattle.lister.specs.declared.Work.{Work}
use Rattle.lister.specs.declared.Work.TheVariants.{Gathering, Whole}

-- how many bytes of a piece belong to the line under way: up to its line feed, or all
unfoldable pub up_to : List ℕ → ℕ
up_to [] = 0
up_to (c ∷ cs) = cond (eqb c line_feed) 1 (suc (up_to cs))

-- whether the line ends in the piece
unfoldable pub ends_in : List ℕ → Bool
ends_in [] = false
ends_in (c ∷ cs) = cond (eqb c line_feed) true (ends_in cs)

-- the line buffer with these bytes behind those that have come: what finds no room is left out, since a line that long is bad
unfoldable pub kept_in : List ℕ → ℕ → List ℕ → List ℕ
kept_in line filled new = sets line filled (take (length line - filled) new)

unfoldable pub filled_to : ℕ → ℕ → ℕ → ℕ
filled_to room filled n = min room (filled + n)

-- no piece: the input has ended, and with it a line of which something has come
unfoldable pub gathered : ℕ → ℕ → List ℕ → Work
gathered room filled [] = cond (eqb filled 0) (Gathering 0) (Whole filled)
gathered room filled (c ∷ cs) = cond (ends_in (c ∷ cs)) (Whole (filled_to room filled (up_to (c ∷ cs)))) (Gathering (filled_to room filled (up_to (c ∷ cs))))
