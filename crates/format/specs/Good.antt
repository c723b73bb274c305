-- Which holdings are empty or what a good mask message makes: the conditions of sub type 1, of the mask alone.
-- proofs/Makes.antt shows that just these masks are what bits can be read to.
use Rattle.std.specs.Prelude.{Bool, true, false, cond, not, ◌&&◌, List, [], ◌∷◌, ◌++◌, ◌+◌, ◌*◌, leb, ltb, eqb, length}
use Rattle.format.specs.Assigned.{satellite_places, signal_places, known, assigned}
use Rattle.format.specs.Masks.{System, Held, nothing, mask, Lent, stray, lent, places_from, satellites, cells}
use Rattle.format.specs.Messages.{named, ids_of}

-- one more system after others
unfoldable pub good_system : List System → System → Bool
good_system before s =
    let sats = length (places_from 0 s.satellites) in
    let signals = length (places_from 0 s.signals) in
    known s.id
    && (not (named s.id (ids_of before))
    && (eqb (length s.satellites) 40
    && (assigned satellite_places s.id s.satellites
    && (leb (length (satellites before) + sats) 64
    && (eqb (length s.signals) 16
    && (assigned signal_places s.id s.signals
    && (eqb (length s.cells) (cond s.flag (sats * signals) 0)
    && leb (length (cells (before ++ (s ∷ [])))) 256)))))))

unfoldable pub good_systems : List System → List System → Bool
good_systems before [] = true
good_systems before (s ∷ ss) = good_system before s && good_systems (before ++ (s ∷ [])) ss

unfoldable pub good : Held → Bool
good nothing = true
good (mask m) = ltb m.iod 16 && good_systems [] m.systems

-- what is lent is a holding
unfoldable pub is_holding : Lent → Bool
is_holding stray = false
is_holding (lent held) = good held
