-- The highest assigned places as the code has them.
use Rattle.std.specs.Prelude.{List, [], ◌∷◌, ℕ}
use Rattle.holding.specs.declared.assigned.Places.{Places}

-- by GNSS ID
abbrev pub places_of : Places → List ℕ
places_of p = p.gps ∷ p.glonass ∷ p.galileo ∷ p.beidou ∷ p.qzss ∷ []
