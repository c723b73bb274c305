-- Document 01, "Held mask and assigned places": the highest assigned satellite and signal place of each system, by GNSS ID: GPS, GLONASS, Galileo, BeiDou, QZSS.
use Rattle.std.specs.Prelude.{Bool, true, false, List, [], ◌∷◌, ℕ, suc, leb, get_or, drop}

unfoldable pub satellite_places : List ℕ
satellite_places = 39 ∷ 23 ∷ 36 ∷ 39 ∷ 9 ∷ []

unfoldable pub signal_places : List ℕ
signal_places = 13 ∷ 12 ∷ 14 ∷ 8 ∷ 9 ∷ []

-- SBAS, 5, and whatever stands above it has no places
unfoldable pub known : ℕ → Bool
known id = leb id 4

-- no bit is set
unfoldable pub blank : List Bool → Bool
blank [] = true
blank (true ∷ l) = false
blank (false ∷ l) = blank l

-- no place without assignment is set, by one of the two tables
unfoldable pub assigned : List ℕ → ℕ → List Bool → Bool
assigned highest id mask = blank (drop (suc (get_or highest id 0)) mask)
