-- The text of a good system: the slot, the strips and the length that are read off it are its own. Assumes nothing.
use mathlib.Core.Path.{◌≡◌, refl, sym, ap, ap₂, ◌∙◌}
use mathlib.Core.Bool.{Bool, true, false, cond}
use mathlib.Core.List.{List, [], ◌∷◌, ◌++◌, append_assoc}
use Prim.Native.Nat.{ℕ, zero, suc, ◌+◌, ◌*◌, ◌^◌, ◌≤◌, ◌<◌}
use native.Mathlib.Nat.{suc-mul}
use native.Mathlib.Omega.{arith}
use lib.Count.{ones}
use lib.Dec.{eqb}
use lib.ListN.{length, get_or, drop, replicate, length-drop}
use lib.Seq.{drop-append-le, drop-append-add, get_or-append-add}
use borrow.Author.Tests.{leb-true}
use Rattle.bits.specs.BitLists.{number, spell}
use Rattle.bits.proofs.BitLists.{number_lt, spell_number}
use Rattle.format.specs.Assigned.{known}
use Rattle.format.specs.Masks.{System, places_from}
use Rattle.format.specs.Saved.{cell_text, flag_text, system_text}
use Rattle.format.specs.Text.{tab, dash, digit_char, char_digit, hex, hex_bits}
use Rattle.format.proofs.MakesBack.{GoodSystem}
use Rattle.format.proofs.Texts.{char_digit_digit_char, decimal_one}
use Rattle.holding.proofs.Places.{ones_number, ones_places}
use Rattle.holding.specs.Pictures.{strips_from, strips_of}
use Rattle.holding.specs.Spread.{spread}
use Rattle.text.proofs.Characters.{written_first}
use Rattle.text.proofs.HexDigits.{hex_long}
use Rattle.saved.specs.declared.systems.Slot.{Slot}
use Rattle.saved.specs.Saying.{slot_said, strip_said, strips_said}
use Rattle.saved.specs.Slots.{cell_count, system_long}
use Rattle.saved.proofs.SlotTexts.{text_long}

-- the slot of a system
abbrev pub slot_of : System → Slot
slot_of s = record { id = s.id; satellites = number s.satellites; signals = number s.signals; flag = s.flag }

-- ---- masks

-- bits at every place are themselves
spread_all : (l more : List Bool) → spread (replicate (length l) true) (l ++ more) ≡ l
unfolding spread
spread_all [] more = refl
spread_all (b ∷ l) more = ap (λ (m : List Bool). b ∷ m) (spread_all l more)

-- a mask is read as it was written
mask_said_lem : (w places : ℕ) → spell w places ≡ replicate w true → (l : List Bool) → length l ≡ w → (more : List ℕ) → number (spread (spell w places) (hex_bits (hex l ++ more))) ≡ number l
mask_said_lem w places full l long more =
    rw (full, written_first l more, ← long) (ap number (spread_all l (drop (length l) (hex_bits (hex l)) ++ hex_bits more)))

-- ---- where the fields stand

-- behind a text
skip : (x y : List ℕ) (a k : ℕ) → length x ≡ a → drop (a + k) (x ++ y) ≡ drop k y
skip x y a k long = rw (← long) (drop-append-add x y k)

skip_at : (x y : List ℕ) (a k : ℕ) → length x ≡ a → get_or (x ++ y) (a + k) 0 ≡ get_or y k 0
skip_at x y a k long = rw (← long) (get_or-append-add x y k 0)

-- a text behind two others
regroup : (a b c more : List ℕ) → (a ++ (tab ∷ (b ++ c))) ++ more ≡ a ++ (tab ∷ (b ++ (c ++ more)))
regroup a b c more = append_assoc a (tab ∷ (b ++ c)) more ∙ ap (λ (l : List ℕ). a ++ (tab ∷ l)) (append_assoc b c more)

flag_text_lem : (flag : Bool) → flag_text flag ≡ cond flag 49 48 ∷ []
unfolding flag_text digit_char
flag_text_lem true = refl
flag_text_lem false = refl

flag_said : (flag : Bool) → eqb (cond flag 49 48) 49 ≡ flag
flag_said true = refl
flag_said false = refl

module _ (before : List System) (s : System) (g : GoodSystem before s) (more : List ℕ) where
  small : s.id < 5
  unfolding known
  small = omega (arith, leb-true s.id 4 g.known_id)

  abbrev behind : List ℕ
  behind = tab ∷ cond s.flag 49 48 ∷ tab ∷ (cell_text s.cells ++ more)

  abbrev second : List ℕ
  second = tab ∷ (hex s.signals ++ behind)

  layout : system_text s ++ more ≡ tab ∷ digit_char s.id ∷ tab ∷ (hex s.satellites ++ second)
  unfolding system_text
  layout =
      rw (decimal_one s.id (omega (arith, small)), flag_text_lem s.flag)
      (ap (λ (l : List ℕ). tab ∷ digit_char s.id ∷ tab ∷ l) (regroup (hex s.satellites) (hex s.signals) (tab ∷ cond s.flag 49 48 ∷ tab ∷ cell_text s.cells) more))

  ten : length (hex s.satellites) ≡ 10
  ten = omega (arith, hex_long s.satellites, g.whole)

  four : length (hex s.signals) ≡ 4
  four = omega (arith, hex_long s.signals, g.long)

  pub slot_said_lem : slot_said (system_text s ++ more) ≡ slot_of s
  unfolding slot_said spell
  slot_said_lem =
      let id : char_digit (digit_char s.id) ≡ s.id = char_digit_digit_char s.id (omega (arith, small)) in
      let satellites = mask_said_lem 40 1099511627775 refl s.satellites g.whole second in
      let signals : number (spread (spell 16 65535) (hex_bits (drop 11 (hex s.satellites ++ second)))) ≡ number s.signals =
      rw (skip (hex s.satellites) second 10 1 ten) (mask_said_lem 16 65535 refl s.signals g.long behind) in
      let flag : eqb (get_or (hex s.satellites ++ second) 16 0) 49 ≡ s.flag =
      rw (skip_at (hex s.satellites) second 10 6 ten, skip_at (hex s.signals) behind 4 1 four) (flag_said s.flag) in
      ap slot_said layout ∙ (λ i. record { id = id i; satellites = satellites i; signals = signals i; flag = flag i })

  pub cells_said : drop 21 (system_text s ++ more) ≡ cell_text s.cells ++ more
  cells_said = ap (drop 21) layout ∙ skip (hex s.satellites) second 10 8 ten ∙ skip (hex s.signals) behind 4 3 four

  -- how long it is
  pub long_said : system_long (slot_of s) ≡ length (system_text s)
  long_said =
      let count : cell_count (slot_of s) ≡ length s.cells = rw (ones_number s.satellites 0, ones_number s.signals 0) (sym g.width) in
      rw count (sym (text_long s g.whole g.long))

-- ---- the strips, by the cell mask

-- a strip looks at no bit past those that its mask has places for
spread_front : (places l more : List Bool) (k : ℕ) → length (places_from k places) ≤ length l → spread places (l ++ more) ≡ spread places l
unfolding spread places_from
spread_front [] l more k room = refl
spread_front (false ∷ places) l more k room = ap (λ (m : List Bool). false ∷ m) (spread_front places l more (suc k) room)
spread_front (true ∷ places) [] more k room = absurd (omega arith)
spread_front (true ∷ places) (b ∷ l) more k room = ap (λ (m : List Bool). b ∷ m) (spread_front places l more (suc k) (omega arith))

-- nor do n strips look at any past theirs
strips_front : (n : ℕ) (signals l more : List Bool) → n * length (places_from 0 signals) ≤ length l → strips_from n signals (l ++ more) ≡ strips_from n signals l
unfolding strips_from
strips_front zero signals l more room = refl
strips_front (suc n) signals l more room =
    let w = length (places_from 0 signals) in
    let e : suc n * w ≡ n * w + w = suc-mul n w in
    let fewer : n * w ≤ length (drop w l) = rw length-drop (omega (arith, e)) in
    rw (spread_front signals l more 0 (omega (arith, e)), drop-append-le w l more (omega (arith, e)), strips_front n signals (drop w l) more fewer)

-- the bits of a cell mask come first in its text
cells_first : (l : List Bool) (more : List ℕ) → (rest : List Bool) × (hex_bits (cell_text l ++ more) ≡ l ++ rest)
unfolding cell_text
cells_first [] more = (hex_bits (dash ∷ more), refl)
cells_first (b ∷ l) more = (drop (length (b ∷ l)) (hex_bits (hex (b ∷ l))) ++ hex_bits more, written_first (b ∷ l) more)

module _ (s : Slot) where
  flagged_strip : s.flag ≡ true → (bits : List Bool) → strip_said s bits ≡ number (spread (spell 16 s.signals) bits)
  unfolding strip_said
  flagged_strip on bits = rw on

  flagged_said : s.signals < 2 ^ 16 → s.flag ≡ true → (n : ℕ) (bits : List Bool) → strips_said s n bits ≡ strips_from n (spell 16 s.signals) bits
  unfolding strips_said strips_from
  flagged_said narrow on zero bits = refl
  flagged_said narrow on (suc n) bits =
      ap₂ ◌∷◌ (flagged_strip on bits) (flagged_said narrow on n (drop (ones s.signals) bits) ∙ rw (ones_places 16 s.signals 0 narrow))

  plain_strip : s.flag ≡ false → (bits : List Bool) → strip_said s bits ≡ s.signals
  unfolding strip_said
  plain_strip off bits = rw off

  plain_said : s.flag ≡ false → (n : ℕ) (bits : List Bool) → strips_said s n bits ≡ replicate n s.signals
  unfolding strips_said
  plain_said off zero bits = refl
  plain_said off (suc n) bits = ap₂ ◌∷◌ (plain_strip off bits) (plain_said off n (drop (ones s.signals) bits))

module _ (before : List System) (s : System) (g : GoodSystem before s) (more : List ℕ) where
  abbrev n : ℕ
  n = length (places_from 0 s.satellites)

  either : (flag : Bool) → s.flag ≡ flag → strips_said (slot_of s) n (hex_bits (cell_text s.cells ++ more)) ≡ cond flag (strips_from n s.signals s.cells) (replicate n (number s.signals))
  either true on =
      let first = cells_first s.cells more in
      let small : number s.signals < 2 ^ 16 = rw g.long at (number_lt s.signals) in
      let same : spell 16 (number s.signals) ≡ s.signals = rw g.long at (spell_number s.signals) in
      let enough : n * length (places_from 0 s.signals) ≤ length s.cells = omega (arith, rw on at g.width) in
      flagged_said (slot_of s) small on n (hex_bits (cell_text s.cells ++ more)) ∙ rw (same, first.1) (strips_front n s.signals s.cells first.0 enough)
  either false off = plain_said (slot_of s) off n (hex_bits (cell_text s.cells ++ more))

  pub strips_said_lem : strips_said (slot_of s) (ones (number s.satellites)) (hex_bits (cell_text s.cells ++ more)) ≡ strips_of s
  unfolding strips_of
  strips_said_lem = rw (ones_number s.satellites 0) (either s.flag refl)
