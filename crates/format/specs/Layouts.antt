-- Demand 2, "value for value, the k-th field going to the k-th satellite or signal selected": which head and rows a message has, by document 01's layouts and
-- by places of bits alone. No program of the reader occurs here; that a reading hands out just these is `proofs/Layouts.antt`.
use Rattle.std.specs.Prelude.{◌≡◌, ◌↔◌, Bool, false, cond, ℕ, zero, suc, ◌+◌, ◌*◌, ◌<◌, eqb, ℤ, pos, length, take, get_or, replicate}
use mathlib.Core.List.{List, [], ◌∷◌, ◌++◌, map, flat_map}
use Rattle.bits.specs.Places.{bit_at, field}
use Rattle.format.specs.declared.Head.{Head}
use Rattle.format.specs.Masks.{System, Mask, Held, nothing, mask, Satellite, Cell, cells_on}
use Rattle.format.specs.Messages.{Content}
use Rattle.format.specs.Rows.{Column, gap, plain, counts, Line, absent, width_of, value_of, shape_width, body_width}

-- n numbers from k on
unfoldable pub numbers : ℕ → ℕ → List ℕ
numbers k zero = []
numbers k (suc n) = k ∷ numbers (suc k) n

-- those of a list whose number passes, the first one's being k
unfoldable pub those : {A : Type 0} → (ℕ → Bool) → ℕ → List A → List A
those passes k [] = []
those passes k (x ∷ xs) = cond (passes k) (x ∷ those passes (suc k) xs) (those passes (suc k) xs)

-- ---- whose the rows are: what a mask names, the systems in the order sent

-- the places whose bit is 1, the first bit's being 0
unfoldable pub places : List Bool → List ℕ
places bits = those (λ p. get_or bits p false) 0 (numbers 0 (length bits))

-- satellite number is place + 1
unfoldable pub named_by : System → List Satellite
named_by s = map (λ place. record { system = s.id; number = suc place }) (places s.satellites)

unfoldable pub all_satellites : Mask → List Satellite
all_satellites m = flat_map named_by m.systems

-- The signals that count for a system's i-th satellite, the first being the 0th: all of them with flag 0; else those whose bit of the cell mask is 1, which
-- has Nsig bits for each satellite before it.
unfoldable pub counting : System → ℕ → List ℕ
counting s i =
    let signals = places s.signals in
    cond s.flag (those (λ j. get_or s.cells (i * length signals + j) false) 0 signals) signals

-- the cells, satellite by satellite
unfoldable pub cells_from : System → ℕ → List Satellite → List Cell
cells_from s i [] = []
cells_from s i (sat ∷ sats) = map (λ place. record { satellite = sat; signal = place }) (counting s i) ++ cells_from s (suc i) sats

unfoldable pub all_cells : Mask → List Cell
all_cells m = flat_map (λ s. cells_from s 0 (named_by s)) m.systems

-- a bit that is 1
abbrev pub is_set : List ℕ → ℕ → Bool
is_set bytes place = eqb (bit_at bytes place) 1

-- the satellites that a selection at a place selects: the k-th bit is the k-th one's
unfoldable pub selected : List ℕ → ℕ → Mask → List Satellite
selected bytes place m = those (λ k. is_set bytes (place + k)) 0 (all_satellites m)

-- ---- the rows to come: system, satellite, signal place; v1 to v5

-- fields from v1 on, and nothing behind them
unfoldable pub five : List Column → List Column
five fields = take 5 (fields ++ replicate 5 gap)

unfoldable pub of_satellite : (ℕ → List Column) → Satellite → Line
of_satellite fields s = record { keys = pos s.system ∷ pos s.number ∷ absent ∷ []; shape = five (fields s.system) }

unfoldable pub of_cell : List Column → Cell → Line
of_cell fields c = record { keys = pos c.satellite.system ∷ pos c.satellite.number ∷ pos c.signal ∷ []; shape = five fields }

-- the k-th 40 bits of a packet's part: five bytes
unfoldable pub of_part : ℕ → Line
of_part k = record { keys = absent ∷ absent ∷ pos k ∷ []; shape = replicate 5 (plain 8) }

-- 2: IODE 8 (10 for Galileo), radial 15, along-track 13, cross-track 13
unfoldable pub orbit : ℕ → List Column
orbit system = plain (cond (eqb system 2) 10 8) ∷ counts 15 ∷ counts 13 ∷ counts 13 ∷ []

-- 3: clock C0, 15
unfoldable pub clock : ℕ → List Column
clock system = counts 15 ∷ []

-- 4: code bias 11. 5: phase bias 15, discontinuity 2
unfoldable pub code_bias : List Column
code_bias = counts 11 ∷ []

unfoldable pub phase_bias : List Column
phase_bias = counts 15 ∷ plain 2 ∷ []

-- 6: code bias in v1 if the code flag is 1, phase bias and discontinuity indicator in v2 and v3 if the phase flag is 1. 7: SSR URA 6
unfoldable pub biases : Bool → Bool → List Column
biases codes phases = cond codes code_bias (gap ∷ []) ++ cond phases phase_bias []

unfoldable pub accuracy : ℕ → List Column
accuracy system = plain 6 ∷ []

-- 11: the four of 2 if the orbit flag is 1, then in v5 the clock if the clock flag is 1
unfoldable pub combined : Bool → Bool → ℕ → List Column
combined orbits clocks system = cond orbits (orbit system) (replicate 4 gap) ++ cond clocks (clock system) []

-- the rows to come of some satellites by two flags: one of each; one of each of its cells
unfoldable pub combined_rows : Bool → Bool → Mask → List Satellite → List Line
combined_rows a b m sats = map (of_satellite (combined a b)) sats

unfoldable pub bias_rows : Bool → Bool → Mask → List Satellite → List Line
bias_rows a b m sats = map (of_cell (biases a b)) (flat_map (cells_on (all_cells m)) sats)

-- ---- the layouts

-- what a sub type is: no message of it is accepted; a head alone; or a head, where the body begins, from the message's start on, and the rows to come
pub data Layout : Type 0 where
  never : Layout
  rowless : List ℤ → Layout
  body : List ℤ → ℕ → List Line → Layout

-- what stands under the held mask does so by its issue alone
unfoldable pub under_mask : Held → ℕ → (Mask → Layout) → Layout
under_mask nothing issue layout = never
under_mask (mask m) issue layout = cond (eqb issue m.iod) (layout m) never

module _ (bytes : List ℕ) (start : ℕ) where
  -- the number in w bits, so many from the start on
  abbrev pub number_at : ℕ → ℕ → ℤ
  number_at from w = pos (field bytes (start + from) w)

  -- 2 to 7 and 11 share a 37-bit head: number 12, sub type 4, hourly epoch 12, interval 4, indicator 1, IOD SSR 4; a, b, c
  unfoldable pub head : ℤ → ℤ → ℤ → List ℤ
  head a b c = number_at 12 4 ∷ number_at 16 12 ∷ number_at 28 4 ∷ number_at 32 1 ∷ number_at 33 4 ∷ a ∷ b ∷ c ∷ []

  unfoldable pub alone : List Line → Layout
  alone lines = body (head absent absent absent) 37 lines

  -- 1: epoch 20, update interval 4, indicator 1, IOD SSR 4, number of systems 4, which is a
  unfoldable pub masks : Layout
  masks = rowless (number_at 12 4 ∷ number_at 16 20 ∷ number_at 36 4 ∷ number_at 40 1 ∷ number_at 41 4 ∷ number_at 45 4 ∷ absent ∷ absent ∷ [])

  -- 10: indicator 1, counter 3, data size 2, the last two a and b; one row per 40 bits, signal column 1 upward
  unfoldable pub parts : Layout
  parts =
      body (number_at 12 4 ∷ absent ∷ absent ∷ number_at 16 1 ∷ absent ∷ number_at 17 3 ∷ number_at 20 2 ∷ absent ∷ []) 22
      (map of_part (numbers 1 (suc (field bytes (start + 20) 2))))

  -- 6 and 11: two flags, of code and phase or of orbit and clock, and the network flag; if this is 1, network ID 5 and a bit for each satellite. The rows of
  -- the selected satellites, of all of them when it is 0
  unfoldable pub flagged : (Bool → Bool → Mask → List Satellite → List Line) → Mask → Layout
  flagged rows m =
      let of = rows (is_set bytes (start + 37)) (is_set bytes (start + 38)) m in
      cond (is_set bytes (start + 39))
      (body (head (number_at 37 1) (number_at 38 1) (number_at 40 5)) (45 + length (all_satellites m)) (of (selected bytes (start + 45) m)))
      (body (head (number_at 37 1) (number_at 38 1) absent) 40 (of (all_satellites m)))

  module _ (held : Held) where
    unfoldable pub headed : (Mask → Layout) → Layout
    headed layout = under_mask held (field bytes (start + 33) 4) layout

    -- by the sub type's number
    unfoldable pub layouts : List Layout
    layouts =
        never
        ∷ masks
        ∷ headed (λ m. alone (map (of_satellite orbit) (all_satellites m)))
        ∷ headed (λ m. alone (map (of_satellite clock) (all_satellites m)))
        ∷ headed (λ m. alone (map (of_cell code_bias) (all_cells m)))
        ∷ headed (λ m. alone (map (of_cell phase_bias) (all_cells m)))
        ∷ headed (flagged bias_rows)
        ∷ headed (λ m. alone (map (of_satellite accuracy) (all_satellites m)))
        ∷ never ∷ never
        ∷ parts
        ∷ headed (flagged combined_rows)
        ∷ []

    unfoldable pub layout_of : ℕ → Layout
    layout_of subType = get_or layouts subType never

-- ---- what rows mean

-- the k-th row to come, and the j-th of its columns, from 0
abbrev pub line_at : List Line → ℕ → Line
line_at lines k = get_or lines k (record { keys = []; shape = [] })

abbrev pub column_at : List Column → ℕ → Column
column_at columns j = get_or columns j gap

-- The j-th value of a row that begins at a place: the number, or the two's complement, of its own bits, which stand behind those of the columns before it.
unfoldable pub value_at : List ℕ → ℕ → List Column → ℕ → ℤ
value_at bytes place columns j = value_of (column_at columns j) (field bytes (place + shape_width (take j columns)) (width_of (column_at columns j)))

-- rows in a body from one place to the next message's
pub record Rowed (bytes : List ℕ) (place next : ℕ) (lines : List Line) (rows : List (List ℤ)) : Type 0 where
  -- there are as many
  pub count : length rows ≡ length lines
  -- the k-th has the keys of the k-th, and its five values behind the rows before it
  pub row : (k : ℕ) → k < length lines
      → get_or rows k [] ≡ (line_at lines k).keys ++ map (value_at bytes (place + body_width (take k lines)) (line_at lines k).shape) (numbers 0 5)
  -- what isn't there is -32768, and nothing else is
  pub missing : (k j : ℕ) → k < length lines
      → (value_at bytes (place + body_width (take k lines)) (line_at lines k).shape j ≡ absent) ↔ (column_at (line_at lines k).shape j ≡ gap)
  -- and nothing stands behind them
  pub ends : place + body_width lines ≡ next

-- a head of eight numbers: sub type, epoch, interval, indicator, IOD SSR, a, b, c
unfoldable pub eight : Head → List ℤ
eight h = h.subtype ∷ h.epoch ∷ h.interval ∷ h.indicator ∷ h.iod ∷ h.a ∷ h.b ∷ h.c ∷ []

-- head and rows as a layout has them
unfoldable pub Follows : Layout → List ℕ → ℕ → ℕ → Content → Type 0
Follows never bytes start next c = ⊥
Follows (rowless h) bytes start next c = (eight c.head ≡ h) × (c.rows ≡ [])
Follows (body h from lines) bytes start next c = (eight c.head ≡ h) × Rowed bytes (start + from) next lines c.rows

-- A message from a start to the place after it means what document 01 says of its sub type, which stands behind the message number, under the held mask.
unfoldable pub Means : Held → List ℕ → ℕ → ℕ → Content → Type 0
Means held bytes start next c = Follows (layout_of bytes start held (field bytes (start + 12) 4)) bytes start next c
