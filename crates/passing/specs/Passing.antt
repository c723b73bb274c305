-- A holding as 194 bytes: docs/HOST.md, "A holding as bytes".
use Rattle.std.specs.Prelude.{Bool, false, cond, ◌&&◌, List, ◌∷◌, ◌++◌, map, ℕ, eqb, leb, length, get_or, take, drop}
use Rattle.holding.specs.Bounds.{every}
use Rattle.bits.specs.BitLists.{digit}
use Rattle.format.specs.Masks.{nothing}
use Rattle.holding.specs.declared.Holding.{Holding}
use Rattle.holding.specs.Building.{with_system}
use Rattle.holding.specs.Pictures.{picture_of}
use Rattle.passing.specs.Bytes.{little, littles, parts, parts_of}

abbrev pub size : ℕ
size = 194

-- ---- from bytes

-- each is 0 or 1
abbrev pub truths : List ℕ → Bool
truths bs = every (λ b. leb b 1) bs

unfoldable pub truth : ℕ → Bool
truth b = eqb b 1

-- there are 194, and those that stand for a truth are 0 or 1
unfoldable pub passes : List ℕ → Bool
passes bs = leb size (length bs) && (leb (get_or bs 0 0) 1 && truths (take 5 (drop 11 bs)))

unfoldable pub said : List ℕ → Holding
said bs =
    record {
      held = truth (get_or bs 0 0);
      iod = get_or bs 1 0;
      count = get_or bs 2 0;
      ids = take 5 (drop 6 bs);
      satellites = littles 8 5 (drop 26 bs);
      signals = littles 2 5 (drop 16 bs);
      flags = map truth (take 5 (drop 11 bs));
      strips = littles 2 64 (drop 66 bs);
      nsat = get_or bs 3 0;
      ncell = little 2 (drop 4 bs);
    }

-- a value of the struct that is no holding: a system where no mask is held
unfoldable pub stray : Holding
stray = with_system (picture_of nothing) 0 0 0 false

-- what lent bytes say: other bytes say no holding
unfoldable pub holding_in : List ℕ → Holding
holding_in bs = cond (passes bs) (said bs) stray

-- ---- and back

unfoldable pub bytes_of : Holding → List ℕ
bytes_of h =
    (digit h.held ∷ h.iod ∷ h.count ∷ h.nsat ∷ parts 2 h.ncell)
    ++ (h.ids ++ (map digit h.flags ++ (parts_of 2 h.signals ++ (parts_of 8 h.satellites ++ parts_of 2 h.strips))))
