-- What the text of a good holding's line is read by: where its fields stand, and what they say there. Of other texts it says something, too.
use Rattle.std.specs.Prelude.{Bool, cond, List, [], ◌∷◌, ℕ, zero, suc, ◌+◌, ◌*◌, ◌%◌, eqb, ltb, get_or, drop}
use Rattle.std.specs.Int.Count.{ones}
use Rattle.bits.specs.BitLists.{number, spell}
use Rattle.format.specs.Text.{char_digit, hex_bits}
use Rattle.holding.specs.Spread.{spread}
use Rattle.saved.specs.declared.systems.Slot.{Slot}

-- the issue, of one digit or of two: tab and line feed stand below the digits
unfoldable pub issue_said : List ℕ → ℕ
issue_said text =
    let tens = char_digit (get_or text 0 0) in
    cond (ltb (get_or text 1 0) 48) tens ((10 * tens + char_digit (get_or text 1 0)) % 256)

-- the slot of a system, from its first tab on
unfoldable pub slot_said : List ℕ → Slot
slot_said text =
    record {
      id = char_digit (get_or text 1 0);
      satellites = number (spread (spell 40 1099511627775) (hex_bits (drop 3 text)));
      signals = number (spread (spell 16 65535) (hex_bits (drop 14 text)));
      flag = eqb (get_or text 19 0) 49;
    }

-- a strip, by the bits of the cell mask from its own on
unfoldable pub strip_said : Slot → List Bool → ℕ
strip_said s bits = cond s.flag (number (spread (spell 16 s.signals) bits)) s.signals

-- those of n satellites
unfoldable pub strips_said : Slot → ℕ → List Bool → List ℕ
strips_said s zero bits = []
strips_said s (suc n) bits = strip_said s bits ∷ strips_said s n (drop (ones s.signals) bits)
