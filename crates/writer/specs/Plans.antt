-- What is planned of a message with rows before the first bit is set, as far as its head goes: document 01, "Message layouts" and refusal 12.
use Rattle.std.specs.Prelude.{Bool, false, not, cond, ◌&&◌, ◌++◌, ℕ, ◌+◌, ◌-◌, ◌*◌, ◌^◌}
use Rattle.format.specs.declared.Head.{Head}
use Rattle.format.specs.Rows.{absent}
use Rattle.format.specs.Same.{sameℤ}
use Rattle.table.specs.declared.Keys.TheVariants.{Parts}
use Rattle.table.specs.declared.Layout.{Layout}
use Rattle.table.specs.Kinds.{keys_for}
use Rattle.writer.specs.declared.plan.Plan.{Plan}
use Rattle.fitting.specs.FitHeads.{number_fits, common_fits, network_fits}
use Rattle.writer.specs.Fronts.{pen_at, front_fields, flag_fields, packet_fields}
use Rattle.pens.specs.Numbers.{word_of}
use Rattle.pens.specs.Pens.{pen_after}
use Rattle.putting.specs.declared.marks.Selected.{Selected}

-- a selection of every satellite
abbrev pub everyone : ℕ
everyone = 2 ^ 64 - 1

-- ---- rows alone after the common head

unfoldable pub alone_head : Head → Bool
alone_head h = common_fits 12 h && (sameℤ h.a absent && (sameℤ h.b absent && sameℤ h.c absent))

unfoldable pub alone_plan : Head → Layout → ℕ → Plan
alone_plan h l start =
    record {
      pen = pen_after (pen_at start) (front_fields 12 h);
      marked = 0;
      chosen = everyone;
      keyed = false;
      told = 0;
      body = record { keys = keys_for l.cells everyone; shape = l.shape };
    }

-- ---- behind flags, perhaps with a network, whose selection has a bit for each of n satellites

unfoldable pub flagged_head : Head → Bool
flagged_head h = common_fits 12 h && (number_fits 1 h.a && (number_fits 1 h.b && network_fits h.c))

-- (rows of cells are tested key by key, whoever told the selection)
unfoldable pub flagged_plan : Head → Layout → ℕ → Selected → ℕ → Plan
flagged_plan h l start selected n =
    record {
      pen = pen_after (pen_at start) (front_fields 12 h ++ flag_fields h);
      marked = cond (sameℤ h.c absent) 0 n;
      chosen = selected.word;
      keyed = not l.cells && not (sameℤ h.c absent);
      told = selected.told;
      body = record { keys = keys_for l.cells selected.word; shape = l.shape + (word_of h.a * 2 + word_of h.b) };
    }

-- ---- a packet's part

-- what it does not have
unfoldable pub packet_bare : Head → Bool
packet_bare h = sameℤ h.epoch absent && (sameℤ h.interval absent && (sameℤ h.iod absent && sameℤ h.c absent))

unfoldable pub packet_head : Head → Bool
packet_head h = packet_bare h && (number_fits 1 h.indicator && (number_fits 3 h.a && number_fits 2 h.b))

unfoldable pub packet_plan : Head → ℕ → Plan
packet_plan h start =
    record {
      pen = pen_after (pen_at start) (packet_fields h);
      marked = 0;
      chosen = everyone;
      keyed = false;
      told = 0;
      body = record { keys = Parts (word_of h.b + 1); shape = 7 };
    }
