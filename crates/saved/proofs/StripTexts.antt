-- The cell mask as text, satellite by satellite: the numbers that code makes of a strip's bits. Assumes nothing.
use mathlib.Core.Path.{◌≡◌, sym, ◌∙◌}
use mathlib.Core.Bool.{Bool}
use mathlib.Core.List.{List, [], ◌∷◌, ◌++◌}
use Prim.Native.Nat.{ℕ, ◌+◌, ◌-◌, ◌*◌, ◌/◌, ◌%◌, ◌^◌, ◌≤◌, ◌<◌}
use native.Mathlib.Nat.{mod-eq_of_lt}
use native.Mathlib.Omega.{arith}
use lib.Count.{ones, ones-le}
use lib.ListN.{length, get_or, drop}
use lib.Pow.{pow_mono}
use Rattle.bits.proofs.BitLists.{number_lt}
use Rattle.bits.proofs.Windows.{one_shifted}
use Rattle.bits.specs.BitLists.{number, spell}
use Rattle.format.specs.Text.{digit_char, hex}
use Rattle.text.proofs.Stores.{Wrote}
use Rattle.saved.specs.Gathering.{strip_bits, cell_bits}
use Rattle.saved.proofs.CellTexts.{CellsLeft, all_cells_lem, waits_few, digits_room, digits_wrote, cells_done, last_few, last_room, last_wrote}
use Rattle.saved.proofs.Gathers.{length_strip, next_strip, no_strip}

-- those of some satellites, of which the strips from i on are left
pub record StripsLeft (before : List ℕ) (start signals : ℕ) (strips line : List ℕ) (place bits pending i : ℕ) : Type 0 where
  pub cells : CellsLeft before start (cell_bits signals strips) line place bits pending (cell_bits signals (drop i strips))

pub all_strips : (before : List ℕ) (start signals : ℕ) (strips : List ℕ) → StripsLeft before start signals strips before start 0 0 0
all_strips before start signals strips = record { cells = all_cells_lem before start (cell_bits signals strips) }

module _ {before : List ℕ} {start signals : ℕ} {strips line : List ℕ} {place bits pending i : ℕ} (l : StripsLeft before start signals strips line place bits pending i) where
  -- one strip more
  module _ (small : signals < 2 ^ 16) (more : i < length strips) {w : ℕ} (count : w ≡ ones signals) where
    abbrev new : List Bool
    new = strip_bits signals (get_or strips i 0)

    abbrev rest : List Bool
    rest = cell_bits signals (drop (i + 1) strips)

    first : cell_bits signals (drop i strips) ≡ new ++ rest
    first = next_strip signals strips i more

    wide : w ≡ length new
    wide = count ∙ sym (length_strip signals (get_or strips i 0) small)

    pub narrow : w ≤ 16
    narrow = omega (arith, count, ones-le 16 signals small)

    few : pending * 2 ^ w < 2 ^ 20
    few = omega (arith, waits_few l.cells w narrow)

    -- as code shifts it
    shifted : pending * 2 ^ w % 2 ^ 64 ≡ pending * 2 ^ w
    shifted = mod-eq_of_lt (omega (arith, few))

    module _ {g : ℕ} (is : g ≡ number new) where
      gathered : g < 2 ^ 16
      gathered = omega (arith, number_lt new, pow_mono (rw wide at narrow))

      pub sum_few : pending * 2 ^ w % 2 ^ 64 + g < 2 ^ 21
      sum_few = omega (arith, gathered, shifted, few)

      pub strip_room : start + length (hex (cell_bits signals strips)) ≤ length before → place + (bits + w) / 4 ≤ length line
      strip_room room = digits_room l.cells new rest first room wide

      pub strip_wrote : {after : List ℕ} {end : ℕ}
          → Wrote line place (hex (spell (4 * ((bits + w) / 4)) ((pending * 2 ^ w % 2 ^ 64 + g) / 2 ^ ((bits + w) % 4)))) after end
          → StripsLeft before start signals strips after end ((bits + w) % 4) ((pending * 2 ^ w % 2 ^ 64 + g) % (1 * 2 ^ ((bits + w) % 4) % 2 ^ 64)) (i + 1)
      strip_wrote v =
          let sum : pending * 2 ^ w % 2 ^ 64 + g ≡ pending * 2 ^ w + number new = omega (arith, shifted, is) in
          record {
            cells = rw (one_shifted ((bits + w) % 4) (omega arith)) (digits_wrote l.cells new rest first wide sum v);
          }

  -- no strip is left
  module _ (all : length strips ≤ i) where
    none : cell_bits signals (drop i strips) ≡ []
    none = no_strip signals strips i all

    pub strips_done : bits ≡ 0 → Wrote before start (hex (cell_bits signals strips)) line place
    strips_done whole = cells_done l.cells none whole

    module _ (some : 0 < bits) where
      -- the last digit, as code shifts it
      padded : pending * 2 ^ (4 - bits) % 2 ^ 64 ≡ pending * 2 ^ (4 - bits)
      padded = mod-eq_of_lt (omega (arith, last_few l.cells))

      pub padded_few : pending * 2 ^ (4 - bits) % 2 ^ 64 < 16
      padded_few = rw padded (last_few l.cells)

      pub padded_room : start + length (hex (cell_bits signals strips)) ≤ length before → place < length line
      padded_room room = last_room l.cells none some room

      pub padded_wrote : {after : List ℕ} {end : ℕ} → Wrote line place (digit_char (pending * 2 ^ (4 - bits) % 2 ^ 64) ∷ []) after end
          → Wrote before start (hex (cell_bits signals strips)) after end
      padded_wrote v = last_wrote l.cells none some (rw padded at v)
