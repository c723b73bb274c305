-- The struct of the code as the picture of what is held: a slot for each system in the order sent, a strip of the cell mask for each satellite, and zero in
-- every slot and strip that is not used.
use Rattle.std.specs.Prelude.{Bool, true, false, cond, ◌&&◌, ℕ, zero, suc, ◌-◌, eqb, length, get_or, take, drop, replicate}
use Rattle.std.specs.Bool.{beq}
use mathlib.Core.List.{List, [], ◌∷◌, ◌++◌, map, flat_map}
use Rattle.bits.specs.BitLists.{number, spell}
use Rattle.format.specs.Good.{good}
use Rattle.format.specs.Masks.{System, Held, nothing, mask, Lent, stray, lent, places_from, pick, satellites, cells}
use Rattle.format.specs.Same.{same_list}
use Rattle.holding.specs.declared.Holding.{Holding}
use Rattle.holding.specs.Spread.{spread}

-- ---- from what is held to the struct

-- a list filled up to a length
unfoldable pub filled : {A : Type 0} → ℕ → A → List A → List A
filled n d l = l ++ replicate (n - length l) d

-- the strips of n satellites: the signals that count for each, at their own places
unfoldable pub strips_from : ℕ → List Bool → List Bool → List ℕ
strips_from zero signals bits = []
strips_from (suc n) signals bits = number (spread signals bits) ∷ strips_from n signals (drop (length (places_from 0 signals)) bits)

-- with flag 0 every signal counts
unfoldable pub strips_of : System → List ℕ
strips_of s =
    let n = length (places_from 0 s.satellites) in
    cond s.flag (strips_from n s.signals s.cells) (replicate n (number s.signals))

unfoldable pub picture_of : Held → Holding
picture_of nothing =
    record {
      held = false;
      iod = 0;
      count = 0;
      ids = replicate 5 0;
      satellites = replicate 5 0;
      signals = replicate 5 0;
      flags = replicate 5 false;
      strips = replicate 64 0;
      nsat = 0;
      ncell = 0;
    }
picture_of (mask m) =
    record {
      held = true;
      iod = m.iod;
      count = length m.systems;
      ids = filled 5 0 (map (λ s. s.id) m.systems);
      satellites = filled 5 0 (map (λ s. number s.satellites) m.systems);
      signals = filled 5 0 (map (λ s. number s.signals) m.systems);
      flags = filled 5 false (map (λ s. s.flag) m.systems);
      strips = filled 64 0 (flat_map strips_of m.systems);
      nsat = length (satellites m.systems);
      ncell = length (cells m.systems);
    }

-- ---- and back: what any value of the struct says

-- the system in a slot, with the strips from its first satellite's on
unfoldable pub system_of : ℕ → ℕ → ℕ → Bool → List ℕ → System
system_of id sats signals flag strips =
    let s = spell 40 sats in
    let g = spell 16 signals in
    record {
      id = id;
      satellites = s;
      signals = g;
      flag = flag;
      cells = cond flag (flat_map (λ strip. pick g (spell 16 strip)) (take (length (places_from 0 s)) strips)) [];
    }

unfoldable pub systems_of : ℕ → List ℕ → List ℕ → List ℕ → List Bool → List ℕ → List System
systems_of zero ids sats signals flags strips = []
systems_of (suc n) ids sats signals flags strips =
    system_of (get_or ids 0 0) (get_or sats 0 0) (get_or signals 0 0) (get_or flags 0 false) strips
    ∷ systems_of n (drop 1 ids) (drop 1 sats) (drop 1 signals) (drop 1 flags) (drop (length (places_from 0 (spell 40 (get_or sats 0 0)))) strips)

unfoldable pub mask_of : Holding → Held
mask_of h =
    cond h.held
    (mask (record { iod = h.iod; systems = systems_of h.count h.ids h.satellites h.signals h.flags h.strips }))
    nothing

-- ---- the test of a lent holding: empty, or what a good mask message makes

unfoldable pub same_holding : Holding → Holding → Bool
same_holding g h =
    beq g.held h.held && (eqb g.iod h.iod && (eqb g.count h.count && (same_list eqb g.ids h.ids
    && (same_list eqb g.satellites h.satellites && (same_list eqb g.signals h.signals && (same_list beq g.flags h.flags
    && (same_list eqb g.strips h.strips && (eqb g.nsat h.nsat && eqb g.ncell h.ncell))))))))

unfoldable pub sound : Holding → Bool
sound h = good (mask_of h) && same_holding (picture_of (mask_of h)) h

-- what a struct says that is lent as a holding: none where it is not sound
unfoldable pub lent_by : Holding → Lent
lent_by h = cond (sound h) (lent (mask_of h)) stray
