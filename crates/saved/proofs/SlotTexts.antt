-- A slot as text: its cell mask by the strips, a dash where it has no bits; and what comes before it. Assumes nothing.
use mathlib.Core.Path.{◌≡◌, refl, sym, ap, ◌∙◌}
use mathlib.Core.Bool.{Bool, true, false, cond}
use mathlib.Core.List.{List, [], ◌∷◌, ◌++◌, append_assoc, flat_map}
use Prim.Native.Nat.{ℕ, suc, ◌+◌, ◌*◌, ◌^◌, ◌≤◌, ◌<◌}
use native.Mathlib.Nat.{suc-mul}
use native.Mathlib.Omega.{arith}
use lib.Count.{ones}
use lib.ListN.{length, take, length-append}
use lib.Seq.{length-take-le}
use borrow.Author.Tests.{ne_eqb}
use mir.Val.{bool_byte}
use Rattle.bits.proofs.BitLists.{length_spell}
use Rattle.bits.specs.BitLists.{spell}
use Rattle.format.specs.Masks.{System}
use Rattle.format.specs.Saved.{cell_text, flag_text, system_text}
use Rattle.format.specs.Text.{tab, dash, decimal, digits_from, hex}
use Rattle.holding.proofs.Places.{ones_places}
use Rattle.holding.specs.Pictures.{system_of}
use Rattle.text.proofs.HexDigits.{hex_long}
use Rattle.saved.specs.declared.systems.Slot.{Slot}
use Rattle.saved.specs.Gathering.{strip_bits, cell_bits}
use Rattle.saved.specs.Slots.{system_in, cell_count, front_text, cell_long, system_long}
use Rattle.saved.proofs.Gathers.{length_strip}

-- ---- the cell mask

pub length_cells : (signals : ℕ) → signals < 2 ^ 16 → (strips : List ℕ) → length (cell_bits signals strips) ≡ length strips * ones signals
unfolding flat_map
length_cells signals small [] = omega arith
length_cells signals small (strip ∷ strips) =
    length-append (strip_bits signals strip) (cell_bits signals strips)
    ∙ omega (arith, length_strip signals strip small, length_cells signals small strips, suc-mul (length strips) (ones signals))

-- a dash where there is no bit
no_cells : (l : List Bool) → length l ≡ 0 → cell_text l ≡ dash ∷ []
unfolding cell_text
no_cells [] e = refl
no_cells (b ∷ l) e = absurd (omega arith)

some_cells : (l : List Bool) → (length l ≡ 0 → ⊥) → cell_text l ≡ hex l
unfolding cell_text
some_cells [] e = absurd (e refl)
some_cells (b ∷ l) e = refl

module _ (s : Slot) (strips : List ℕ) (low : s.satellites < 2 ^ 40) (small : s.signals < 2 ^ 16) (room : ones s.satellites ≤ length strips) where
  pub cells_are : (system_in s strips).cells ≡ cond s.flag (cell_bits s.signals (take (ones s.satellites) strips)) []
  unfolding system_of
  cells_are = rw (← (ones_places 40 s.satellites 0 low))

  pub cells_long : length (system_in s strips).cells ≡ cell_count s
  cells_long = ap length cells_are ∙ go s.flag
    where
      go : (flag : Bool) → length (cond flag (cell_bits s.signals (take (ones s.satellites) strips)) []) ≡ cond flag (ones s.satellites * ones s.signals) 0
      go true = length_cells s.signals small (take (ones s.satellites) strips) ∙ rw (length-take-le (ones s.satellites) strips room)
      go false = refl

  pub dash_text : cell_count s ≡ 0 → cell_text (system_in s strips).cells ≡ dash ∷ []
  dash_text none = no_cells (system_in s strips).cells (cells_long ∙ none)

  pub mask_text : (cell_count s ≡ 0 → ⊥) → cell_text (system_in s strips).cells ≡ hex (cell_bits s.signals (take (ones s.satellites) strips))
  mask_text some = some_cells (system_in s strips).cells (λ e. some (sym cells_long ∙ e)) ∙ ap hex (cells_are ∙ go s.flag some)
    where
      go : (flag : Bool) → (cond flag (ones s.satellites * ones s.signals) 0 ≡ 0 → ⊥)
          → cond flag (cell_bits s.signals (take (ones s.satellites) strips)) [] ≡ cell_bits s.signals (take (ones s.satellites) strips)
      go true e = refl
      go false e = absurd (e refl)

-- ---- what comes before it

pub flag_digit : (flag : Bool) → decimal (bool_byte flag) ≡ flag_text flag
unfolding decimal digits_from flag_text
flag_digit true = refl
flag_digit false = refl

pub front_long : (s : Slot)
    → length (front_text s) ≡ length (tab ∷ decimal s.id) + (length (tab ∷ hex (spell 40 s.satellites)) + (length (tab ∷ hex (spell 16 s.signals)) + length (tab ∷ decimal (bool_byte s.flag))))
unfolding front_text
front_long s = rw (flag_digit s.flag) (simp length-append)

pub system_text_lem : (s : Slot) (strips : List ℕ) → system_text (system_in s strips) ≡ front_text s ++ (tab ∷ cell_text (system_in s strips).cells)
unfolding system_text system_of front_text
system_text_lem s strips = simp append_assoc

-- ---- how long

cell_text_long : (l : List Bool) → length (cell_text l) ≡ cell_long (length l)
unfolding cell_text
cell_text_long [] = refl
cell_text_long (b ∷ l) = rw (ne_eqb (suc (length l)) 0 (λ e. omega arith)) (hex_long (b ∷ l))

flag_long : (flag : Bool) → length (decimal (bool_byte flag)) ≡ 1
unfolding decimal digits_from
flag_long true = refl
flag_long false = refl

-- five tabs, both masks and the flag stand beside its ID and its cell mask
pub text_long : (s : System) → length s.satellites ≡ 40 → length s.signals ≡ 16 → length (system_text s) ≡ length (decimal s.id) + 20 + cell_long (length s.cells)
unfolding system_text
text_long s whole long =
    simp length-append (omega (arith, hex_long s.satellites, hex_long s.signals, flag_long s.flag, ap length (flag_digit s.flag), cell_text_long s.cells))

pub system_long_lem : (s : Slot) (strips : List ℕ) → s.satellites < 2 ^ 40 → s.signals < 2 ^ 16 → ones s.satellites ≤ length strips
    → length (system_text (system_in s strips)) ≡ system_long s
unfolding system_of
system_long_lem s strips low small room =
    text_long (system_in s strips) (length_spell 40 s.satellites) (length_spell 16 s.signals) ∙ rw (cells_long s strips low small room)
