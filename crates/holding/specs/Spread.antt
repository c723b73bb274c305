-- The cell mask by places: which of a system's signals count for a satellite, at the signals' own places.
use Rattle.std.specs.Prelude.{Bool, true, false, List, [], ◌∷◌}

-- bits put one after the other at the places that are set; the others stay zero
unfoldable pub spread : List Bool → List Bool → List Bool
spread [] bits = []
spread (false ∷ places) bits = false ∷ spread places bits
spread (true ∷ places) [] = false ∷ spread places []
spread (true ∷ places) (b ∷ bits) = b ∷ spread places bits

-- no place set that the other list has not
unfoldable pub within : List Bool → List Bool → Bool
within [] places = true
within (false ∷ l) [] = within l []
within (true ∷ l) [] = false
within (false ∷ l) (p ∷ places) = within l places
within (true ∷ l) (true ∷ places) = within l places
within (true ∷ l) (false ∷ places) = false
