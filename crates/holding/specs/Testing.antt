-- The test of a lent holding slot by slot, as the code goes about it. proofs/Shapes.antt shows that it is the test `sound` of
-- Pictures.antt.
use Rattle.std.specs.Prelude.{Bool, true, false, cond, not, ◌&&◌, List, [], ◌∷◌, ◌++◌, ℕ, zero, suc, ◌+◌, ◌*◌, ◌^◌, eqb, leb, ltb, length, get_or, take, drop}
use Rattle.std.specs.Int.Bits.{bit_and}
use Rattle.std.specs.Int.Count.{ones}
use Rattle.bits.specs.BitLists.{spell}
use Rattle.format.specs.Assigned.{satellite_places, signal_places, assigned}
use Rattle.holding.specs.declared.Holding.{Holding}
use Rattle.holding.specs.Bounds.{every}
use Rattle.holding.specs.Building.{ones_in}
use Rattle.format.specs.Messages.{named}

-- with the cell flag a strip has no signal that its system has not, without it all of them
unfoldable pub strip_fits : Bool → ℕ → ℕ → Bool
strip_fits flag signals strip = eqb (cond flag (bit_and strip signals) signals) strip

-- four strips of 16 bits as one number, the first one lowest
abbrev pub four : ℕ → ℕ → ℕ → ℕ → ℕ
four a b c d = ((d * 2 ^ 16 + c) * 2 ^ 16 + b) * 2 ^ 16 + a

abbrev pub strips_fit : Bool → ℕ → List ℕ → Bool
strips_fit flag signals strips = every (strip_fits flag signals) strips

-- the slot's masks: all places assigned, and no more than 64 satellites with the n before it
unfoldable pub masks_fit : ℕ → ℕ → ℕ → ℕ → Bool
masks_fit n id sats signals =
    ltb sats (2 ^ 40) && (assigned satellite_places id (spell 40 sats) && (leb (n + ones sats) 64 && assigned signal_places id (spell 16 signals)))

-- a slot whose strips come first, after the IDs and the n satellites of those before it
unfoldable pub slot_fits : List ℕ → ℕ → ℕ → ℕ → ℕ → Bool → List ℕ → Bool
slot_fits before n id sats signals flag strips =
    ltb id 5 && (not (named id before) && (masks_fit n id sats signals && strips_fit flag signals (take (ones sats) strips)))

-- slots and strips that are not used
unfoldable pub empty_slots : ℕ → List ℕ → List ℕ → List ℕ → List Bool → Bool
empty_slots zero ids sats signals flags = true
empty_slots (suc m) ids sats signals flags =
    eqb (get_or ids 0 0) 0 && (eqb (get_or sats 0 0) 0 && (eqb (get_or signals 0 0) 0 && (not (get_or flags 0 false)
    && empty_slots m (drop 1 ids) (drop 1 sats) (drop 1 signals) (drop 1 flags))))

abbrev pub empty_strips : List ℕ → Bool
empty_strips strips = every (λ strip. eqb strip 0) strips

-- m slots that are used, after n satellites and c cells, and then those that are not; the whole counts are nsat and ncell. The limit of 256 cells is
-- tested once, at the end: their number only grows.
unfoldable pub slots_fit : ℕ → ℕ → ℕ → List ℕ → ℕ → ℕ → List ℕ → List ℕ → List ℕ → List Bool → List ℕ → Bool
slots_fit nsat ncell zero before n c ids sats signals flags strips =
    eqb n nsat && (empty_slots (length ids) ids sats signals flags && (empty_strips strips && (leb c 256 && eqb c ncell)))
slots_fit nsat ncell (suc m) before n c ids sats signals flags strips =
    let id = get_or ids 0 0 in
    let k = ones (get_or sats 0 0) in
    slot_fits before n id (get_or sats 0 0) (get_or signals 0 0) (get_or flags 0 false) strips
    && slots_fit nsat ncell m (before ++ (id ∷ [])) (n + k) (c + ones_in (take k strips)) (drop 1 ids) (drop 1 sats) (drop 1 signals) (drop 1 flags) (drop k strips)

unfoldable pub tested : Holding → Bool
tested h =
    cond h.held (ltb h.iod 16) (eqb h.iod 0 && eqb h.count 0)
    && (leb h.count 5 && slots_fit h.nsat h.ncell h.count [] 0 0 h.ids h.satellites h.signals h.flags h.strips)
