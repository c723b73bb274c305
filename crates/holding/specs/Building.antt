-- A holding built up: a strip for each satellite of the next system, then the system's slot.
use Rattle.std.specs.Prelude.{Bool, List, ℕ, ◌+◌, length, set}
use Rattle.std.specs.Int.Count.{ones}
use Rattle.std.proofs.lemmas.List.Edits.{sets}
use Rattle.format.specs.Lengths.{total}
use Rattle.holding.specs.declared.Holding.{Holding}

abbrev pub ones_in : List ℕ → ℕ
ones_in strips = total ones strips

unfoldable pub with_strips : Holding → List ℕ → Holding
with_strips h strips =
    record {
      held = h.held;
      iod = h.iod;
      count = h.count;
      ids = h.ids;
      satellites = h.satellites;
      signals = h.signals;
      flags = h.flags;
      strips = sets h.strips h.nsat strips;
      nsat = h.nsat + length strips;
      ncell = h.ncell + ones_in strips;
    }

unfoldable pub with_system : Holding → ℕ → ℕ → ℕ → Bool → Holding
with_system h id sats signals flag =
    record {
      held = h.held;
      iod = h.iod;
      count = h.count + 1;
      ids = set h.ids h.count id;
      satellites = set h.satellites h.count sats;
      signals = set h.signals h.count signals;
      flags = set h.flags h.count flag;
      strips = h.strips;
      nsat = h.nsat;
      ncell = h.ncell;
    }
