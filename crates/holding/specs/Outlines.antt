-- A holding in parts: what is said of it by value, and its masks and strips, which are lent.
use Rattle.std.specs.Prelude.{List, ℕ}
use Rattle.holding.specs.declared.Holding.{Holding}
use Rattle.holding.specs.declared.Outline.{Outline}

abbrev pub outline_of : Holding → Outline
outline_of h =
    record {
      held = h.held;
      iod = h.iod;
      ids = h.ids;
      flags = h.flags;
      signals = h.signals;
      count = h.count;
      nsat = h.nsat;
      ncell = h.ncell;
    }

-- together again
abbrev pub whole_of : Outline → List ℕ → List ℕ → Holding
whole_of o satellites strips =
    record {
      held = o.held;
      iod = o.iod;
      ids = o.ids;
      flags = o.flags;
      signals = o.signals;
      count = o.count;
      nsat = o.nsat;
      ncell = o.ncell;
      satellites = satellites;
      strips = strips;
    }
