-- The cell mask as text, digit by digit: what is stored, and the bits that are left. Assumes nothing.
use mathlib.Core.Path.{◌≡◌, refl, sym, ap, ◌∙◌}
use mathlib.Core.Bool.{Bool, false}
use mathlib.Core.List.{List, [], ◌∷◌, ◌++◌, append_assoc, append-nil}
use Prim.Native.Nat.{ℕ, zero, suc, ◌+◌, ◌-◌, ◌*◌, ◌/◌, ◌%◌, ◌^◌, ◌≤◌, ◌<◌}
use native.Mathlib.Nat.{mod-lt, div-add-mod', mod-eq_of_lt, mul-le-mul}
use native.Mathlib.Omega.{arith}
use lib.ListN.{length, length-append}
use lib.Pow.{pow_pos, pow_mono}
use Rattle.bits.proofs.BitLists.{length_spell, number_lt, number_append, number_spell, spell_append, spell_number}
use Rattle.bits.specs.BitLists.{number, spell}
use Rattle.format.specs.Text.{digit_char, hex}
use Rattle.text.proofs.HexDigits.{hex_append, length_hex}
use Rattle.text.proofs.Stores.{Wrote, Left, all_left, part_wrote, left_room, none_left}

-- ---- bits that wait for a digit, and more of them

-- a number of bits with as many bits behind it, cut after whole digits
module _ (bits pending : ℕ) (new rest : List Bool) where
  -- both as one number, and its parts
  abbrev pub joined : ℕ
  joined = pending * 2 ^ length new + number new

  abbrev pub spare : ℕ
  spare = (bits + length new) % 4

  abbrev pub whole : ℕ
  whole = (bits + length new) / 4

  together : spell bits pending ++ new ≡ spell (4 * whole) (joined / 2 ^ spare) ++ spell spare (joined % 2 ^ spare)
  together =
      let split : bits + length new ≡ 4 * whole + spare = omega arith in
      let parts : joined ≡ joined / 2 ^ spare * 2 ^ spare + joined % 2 ^ spare = sym (div-add-mod' joined (2 ^ spare)) in
      ap (λ (l : List Bool). spell bits pending ++ l) (sym (spell_number new))
      ∙ sym (spell_append bits (length new) pending (number new) (number_lt new))
      ∙ ap (λ (w : ℕ). spell w joined) split
      ∙ ap (spell (4 * whole + spare)) parts
      ∙ spell_append (4 * whole) spare (joined / 2 ^ spare) (joined % 2 ^ spare) (mod-lt joined (pow_pos spare))

  pub hex_together : hex (spell bits pending ++ (new ++ rest)) ≡ hex (spell (4 * whole) (joined / 2 ^ spare)) ++ hex (spell spare (joined % 2 ^ spare) ++ rest)
  hex_together =
      let front = spell (4 * whole) (joined / 2 ^ spare) in
      let back = spell spare (joined % 2 ^ spare) in
      ap hex (sym (append_assoc (spell bits pending) new rest) ∙ ap (λ (l : List Bool). l ++ rest) together ∙ append_assoc front back rest)
      ∙ hex_append whole front (back ++ rest) (length_spell (4 * whole) (joined / 2 ^ spare))

  -- those digits find room
  whole_long : whole ≤ length (hex (spell bits pending ++ (new ++ rest)))
  whole_long =
      let front = hex (spell (4 * whole) (joined / 2 ^ spare)) in
      rw (hex_together, length-append front (hex (spell spare (joined % 2 ^ spare) ++ rest))) (omega (arith, length_hex whole (joined / 2 ^ spare)))

-- ---- a last digit of fewer bits, padded with zero bits

padded : (k : ℕ) (zeros : List Bool) (n : ℕ) → number zeros ≡ 0 → n < 2 ^ k → number (spell k n ++ zeros) ≡ n * 2 ^ length zeros
padded k zeros n none small = number_append (spell k n) zeros ∙ rw (number_spell k n, mod-eq_of_lt small, none) (omega arith)

padded_digit : (k n : ℕ) → 0 < k → k < 4 → n < 2 ^ k → hex (spell k n) ≡ digit_char (n * 2 ^ (4 - k)) ∷ []
unfolding hex spell number
padded_digit zero n some few small = absurd (omega arith)
padded_digit (suc zero) n some few small = ap (λ (d : ℕ). digit_char d ∷ []) (padded 1 (false ∷ false ∷ false ∷ []) n refl small)
padded_digit (suc (suc zero)) n some few small = ap (λ (d : ℕ). digit_char d ∷ []) (padded 2 (false ∷ false ∷ []) n refl small)
padded_digit (suc (suc (suc zero))) n some few small = ap (λ (d : ℕ). digit_char d ∷ []) (padded 3 (false ∷ []) n refl small)
padded_digit (suc (suc (suc (suc k)))) n some few small = absurd (omega arith)

-- ---- digits stored as their bits are there

-- of all bits so many wait for their digit, fewer than four, and others are left
pub record CellsLeft (before : List ℕ) (start : ℕ) (all : List Bool) (line : List ℕ) (place bits pending : ℕ) (left : List Bool) : Type 0 where
  pub few : bits < 4
  pub small : pending < 2 ^ bits
  pub text : Left before start (hex all) line place (hex (spell bits pending ++ left))

pub all_cells_lem : (before : List ℕ) (start : ℕ) (all : List Bool) → CellsLeft before start all before start 0 0 all
unfolding spell
all_cells_lem before start all = record { few = omega arith; small = omega arith; text = all_left before start (hex all) }

module _ {before : List ℕ} {start : ℕ} {all : List Bool} {line : List ℕ} {place bits pending : ℕ} {left : List Bool} (l : CellsLeft before start all line place bits pending left) where
  seven : pending ≤ 7
  seven =
      let three : bits ≤ 3 = omega (arith, l.few) in
      omega (arith, l.small, pow_mono three)

  -- the number that waits, with w bits more
  pub waits_few : (w : ℕ) → w ≤ 16 → pending * 2 ^ w ≤ 7 * 2 ^ 16
  waits_few w few = mul-le-mul seven (pow_mono few)

  -- the digits that the next bits fill find room
  pub digits_room : (new rest : List Bool) → left ≡ new ++ rest → start + length (hex all) ≤ length before → {w : ℕ} → w ≡ length new → place + (bits + w) / 4 ≤ length line
  digits_room new rest e room wide = rw wide (omega (arith, rw e at (left_room l.text room), whole_long bits pending new rest))

  -- and are stored
  pub digits_wrote : (new rest : List Bool) → left ≡ new ++ rest → {w x : ℕ} → w ≡ length new → x ≡ pending * 2 ^ w + number new → {after : List ℕ} {end : ℕ}
      → Wrote line place (hex (spell (4 * ((bits + w) / 4)) (x / 2 ^ ((bits + w) % 4)))) after end
      → CellsLeft before start all after end ((bits + w) % 4) (x % 2 ^ ((bits + w) % 4)) rest
  digits_wrote new rest e {w} {x} wide sum v =
      let joins : hex (spell bits pending ++ left) ≡ hex (spell (4 * ((bits + w) / 4)) (x / 2 ^ ((bits + w) % 4))) ++ hex (spell ((bits + w) % 4) (x % 2 ^ ((bits + w) % 4)) ++ rest) =
      rw (e, sum, wide) (hex_together bits pending new rest) in
      record { few = mod-lt (bits + w) (omega arith); small = mod-lt x (pow_pos ((bits + w) % 4)); text = part_wrote l.text joins v }

  -- no bit is left, and none waits
  pub cells_done : left ≡ [] → bits ≡ 0 → Wrote before start (hex all) line place
  unfolding hex spell
  cells_done none whole = none_left l.text (rw (none, whole))

  -- the last digit, padded with zero bits
  pub last_few : pending * 2 ^ (4 - bits) < 16
  last_few = go bits l.few l.small
    where
      go : (k : ℕ) → k < 4 → pending < 2 ^ k → pending * 2 ^ (4 - k) < 16
      go zero few small = omega arith
      go (suc zero) few small = omega arith
      go (suc (suc zero)) few small = omega arith
      go (suc (suc (suc zero))) few small = omega arith
      go (suc (suc (suc (suc k)))) few small = absurd (omega arith)

  pub last_wrote : left ≡ [] → 0 < bits → {after : List ℕ} {end : ℕ} → Wrote line place (digit_char (pending * 2 ^ (4 - bits)) ∷ []) after end → Wrote before start (hex all) after end
  last_wrote none some v =
      let last : hex (spell bits pending ++ left) ≡ (digit_char (pending * 2 ^ (4 - bits)) ∷ []) ++ [] =
      rw (none, append-nil (spell bits pending)) (padded_digit bits pending some l.few l.small) in
      none_left (part_wrote l.text last v) refl

  pub last_room : left ≡ [] → 0 < bits → start + length (hex all) ≤ length before → place < length line
  last_room none some room =
      let last : hex (spell bits pending ++ left) ≡ digit_char (pending * 2 ^ (4 - bits)) ∷ [] =
      rw (none, append-nil (spell bits pending)) (padded_digit bits pending some l.few l.small) in
      omega (arith, left_room l.text room, ap length last)
