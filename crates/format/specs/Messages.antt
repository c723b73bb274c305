-- The messages: document 01, "Message layouts", field by field, with what each field can be refused for.
use Rattle.std.specs.Prelude.{Bool, true, false, cond, not, ◌&&◌, ℕ, zero, suc, ◌+◌, ◌*◌, leb, ltb, eqb, ℤ, pos, length}
use mathlib.Core.List.{List, [], ◌∷◌, ◌++◌, map, flat_map}
use Rattle.format.specs.declared.Head.{Head}
use Rattle.format.specs.declared.Refusal.TheVariants.{System, Reserved, Size, Network}
use Rattle.format.specs.Assigned.{satellite_places, signal_places, known, assigned}
use Rattle.format.specs.Masks as Masks
use Rattle.format.specs.Masks.{Mask, Sky, Satellite, Cell, places_from, pick, satellites, cells, cells_on}
use Rattle.format.specs.Programs.{Program, done, field, ◌>>=◌, ◌>>◌, taking, numbered, require}
use Rattle.format.specs.Rows.{Column, gap, plain, counts, Line, absent, body_width, rows_of}

-- what a message says
pub record Content : Type 0 where
  pub head : Head
  pub rows : List (List ℤ)

-- ---- the body: one field, whose bits go to the lines one after the other

unfoldable pub body : List Line → Program (List (List ℤ))
body lines = field (body_width lines) (λ b. done (rows_of lines b))

-- what a message says before its body: its head, and the lines of the rows to come
pub record Heading : Type 0 where
  pub head : Head
  pub lines : List Line

-- and with its body
unfoldable pub bodied : Program Heading → Program Content
bodied heading = do
  d ← heading
  rows ← body d.lines
  done (record { head = d.head; rows = rows })

-- ---- over which keys the lines go: satellites, or cells; a shape may differ by the system

unfoldable pub satellite_lines : (ℕ → List Column) → List Satellite → List Line
satellite_lines shape sats =
    map (λ s. record { keys = pos s.system ∷ pos s.number ∷ absent ∷ []; shape = shape s.system }) sats

unfoldable pub cell_lines : (ℕ → List Column) → List Cell → List Line
cell_lines shape cs =
    map (λ c. record { keys = pos c.satellite.system ∷ pos c.satellite.number ∷ pos c.signal ∷ []; shape = shape c.satellite.system }) cs

-- which of the two, and the lines of some satellites: one of each, or one of each of its cells
pub data Keys : Type 0 where
  by_satellite : Keys
  by_cell : Keys

unfoldable pub lines_of : Keys → (ℕ → List Column) → Sky → List Satellite → List Line
lines_of by_satellite shape sky sats = satellite_lines shape sats
lines_of by_cell shape sky sats = cell_lines shape (flat_map (cells_on sky.cells) sats)

-- ---- the head that sub types 2 to 7 and 11 share

pub record Common : Type 0 where
  pub epoch : ℕ
  pub interval : ℕ
  pub indicator : ℕ
  pub iod : ℕ

unfoldable pub common : ℕ → Program Common
common epochWidth = do
  epoch ← numbered epochWidth
  interval ← numbered 4
  indicator ← numbered 1
  iod ← numbered 4
  done (record { epoch = epoch; interval = interval; indicator = indicator; iod = iod })

unfoldable pub head_of : ℕ → Common → ℤ → ℤ → ℤ → Head
head_of subType h a b c =
    record { subtype = pos subType; epoch = pos h.epoch; interval = pos h.interval; indicator = pos h.indicator; iod = pos h.iod; a = a; b = b; c = c }

-- ---- row shapes

-- IODE: 8 bits, 10 for Galileo
unfoldable pub iode_width : ℕ → ℕ
iode_width system = cond (eqb system 2) 10 8

unfoldable pub orbit_shape : ℕ → List Column
orbit_shape system = plain (iode_width system) ∷ counts 15 ∷ counts 13 ∷ counts 13 ∷ gap ∷ []

unfoldable pub clock_shape : ℕ → List Column
clock_shape system = counts 15 ∷ gap ∷ gap ∷ gap ∷ gap ∷ []

unfoldable pub code_shape : ℕ → List Column
code_shape system = counts 11 ∷ gap ∷ gap ∷ gap ∷ gap ∷ []

unfoldable pub phase_shape : ℕ → List Column
phase_shape system = counts 15 ∷ plain 2 ∷ gap ∷ gap ∷ gap ∷ []

-- code bias, phase bias and its discontinuity indicator, as the flags allow
unfoldable pub bias_shape : Bool → Bool → ℕ → List Column
bias_shape code phase system = cond code (counts 11) gap ∷ cond phase (counts 15) gap ∷ cond phase (plain 2) gap ∷ gap ∷ gap ∷ []

-- SSR URA
unfoldable pub accuracy_shape : ℕ → List Column
accuracy_shape system = plain 6 ∷ gap ∷ gap ∷ gap ∷ gap ∷ []

-- the four of sub type 2, then the clock in v5, as the flags allow
unfoldable pub combined_shape : Bool → Bool → ℕ → List Column
combined_shape orbit clock system =
    cond orbit (plain (iode_width system) ∷ counts 15 ∷ counts 13 ∷ counts 13 ∷ []) (gap ∷ gap ∷ gap ∷ gap ∷ []) ++ (cond clock (counts 15) gap ∷ [])

unfoldable pub packet_shape : List Column
packet_shape = plain 8 ∷ plain 8 ∷ plain 8 ∷ plain 8 ∷ plain 8 ∷ []

-- ---- 2, 3, 4, 5 and 7: the head, then a row for each satellite or cell; over which of them and in which shape, the table says

unfoldable pub over_satellites : (ℕ → List Column) → Sky → List Line
over_satellites shape sky = satellite_lines shape sky.satellites

unfoldable pub over_cells : (ℕ → List Column) → Sky → List Line
over_cells shape sky = cell_lines shape sky.cells

unfoldable pub rows_alone : ℕ → (Sky → List Line) → Sky → Common → Program Heading
rows_alone subType over sky h = done (record { head = head_of subType h absent absent absent; lines = over sky })

-- ---- 6 and 11: flags, perhaps a network with its selection, then the rows of the selected satellites

-- a selection for cells names no satellite without one (document 02, Ask 1)
unfoldable pub celled : List Cell → List Satellite → Bool
celled cells [] = true
celled cells (s ∷ ss) = ltb 0 (length (cells_on cells s)) && celled cells ss

unfoldable pub nameable : Keys → Sky → List Satellite → Bool
nameable by_satellite sky sats = true
nameable by_cell sky sats = celled sky.cells sats

pub record Selected : Type 0 where
  pub network : ℤ
  pub chosen : List Satellite

unfoldable pub selection : Keys → Sky → ℕ → Program Selected
selection keys sky zero = done (record { network = absent; chosen = sky.satellites })
selection keys sky (suc one) = do
  network ← numbered 5
  require (not (eqb network 0)) Network
  bits ← taking (length sky.satellites)
  require (nameable keys sky (pick bits sky.satellites)) Network
  done (record { network = pos network; chosen = pick bits sky.satellites })

-- two flags that say which columns there are
unfoldable pub flagged : ℕ → Keys → (Bool → Bool → ℕ → List Column) → Sky → Common → Program Heading
flagged subType keys shape sky h = do
  a ← numbered 1
  b ← numbered 1
  flag ← numbered 1
  s ← selection keys sky flag
  done (record { head = head_of subType h (pos a) (pos b) s.network; lines = lines_of keys (shape (eqb a 1) (eqb b 1)) sky s.chosen })

-- ---- 10: a packet's part, a row to 40 bits

-- n rows from the k-th on, the signal column counting them
unfoldable pub packet_lines : ℕ → ℕ → List Line
packet_lines k zero = []
packet_lines k (suc n) = record { keys = absent ∷ absent ∷ pos k ∷ []; shape = packet_shape } ∷ packet_lines (suc k) n

-- the sub type where its number is said
abbrev pub packet_type : ℕ
packet_type = 10

unfoldable pub packet_heading : ℕ → ℕ → ℕ → Heading
packet_heading indicator counter size =
    record {
      head =
          record
          { subtype = pos packet_type; epoch = absent; interval = absent; indicator = pos indicator; iod = absent; a = pos counter; b = pos size; c = absent };
      lines = packet_lines 1 (suc size);
    }

unfoldable pub packet : Program Heading
packet = do
  indicator ← numbered 1
  counter ← numbered 3
  size ← numbered 2
  done (packet_heading indicator counter size)

-- ---- 1: a mask

-- its systems one after the other, each after those before it. First the ID, by the IDs named before
unfoldable pub named : ℕ → List ℕ → Bool
named id [] = false
named id (x ∷ xs) = cond (eqb id x) true (named id xs)

abbrev pub ids_of : List Masks.System → List ℕ
ids_of ss = map (λ s. s.id) ss

unfoldable pub system_id : List ℕ → Program ℕ
system_id ids = do
  id ← numbered 4
  require (known id && not (named id ids)) System
  done id

-- then the masks, after n satellites
pub record BothMasks : Type 0 where
  pub satellites : List Bool
  pub signals : List Bool

unfoldable pub system_signals : ℕ → List Bool → Program BothMasks
system_signals id sats = do
  signals ← taking 16
  require (assigned signal_places id signals) Reserved
  done (record { satellites = sats; signals = signals })

unfoldable pub system_masks : ℕ → ℕ → Program BothMasks
system_masks n id = do
  sats ← taking 40
  require (assigned satellite_places id sats) Reserved
  require (leb (n + length (places_from 0 sats)) 64) Size
  system_signals id sats

-- then the cells: the cell mask has no bits where the flag is 0
unfoldable pub system_with : ℕ → BothMasks → ℕ → List Bool → Masks.System
system_with id k flag bits = record { id = id; satellites = k.satellites; signals = k.signals; flag = eqb flag 1; cells = bits }

unfoldable pub few_cells : List Masks.System → Masks.System → Program Masks.System
few_cells before s = do
  require (leb (length (cells (before ++ (s ∷ [])))) 256) Size
  done s

unfoldable pub flagged_cells : List Masks.System → ℕ → BothMasks → ℕ → Program Masks.System
flagged_cells before id k flag = do
  bits ← taking (flag * (length (places_from 0 k.satellites) * length (places_from 0 k.signals)))
  few_cells before (system_with id k flag bits)

unfoldable pub system_cells : List Masks.System → ℕ → BothMasks → Program Masks.System
system_cells before id k = do
  flag ← numbered 1
  flagged_cells before id k flag

unfoldable pub system : List Masks.System → Program Masks.System
system before = do
  id ← system_id (ids_of before)
  masks ← system_masks (length (satellites before)) id
  system_cells before id masks

unfoldable pub systems : ℕ → List Masks.System → Program (List Masks.System)
systems zero before = done before
systems (suc n) before = do
  s ← system before
  systems n (before ++ (s ∷ []))

pub record Adopted : Type 0 where
  pub head : Head
  pub made : Mask

abbrev pub mask_type : ℕ
mask_type = 1

unfoldable pub mask_message : Program Adopted
mask_message = do
  h ← common 20
  count ← numbered 4
  all ← systems count []
  done (record { head = head_of mask_type h (pos count) absent absent; made = record { iod = h.iod; systems = all } })
