-- The longest line of a sound holding. Assumes nothing.
use mathlib.Core.Path.{◌≡◌, refl, ap, ◌∙◌}
use mathlib.Core.Bool.{Bool, true, false, cond}
use mathlib.Core.List.{[], ◌∷◌, flat_map}
use Prim.Native.Nat.{ℕ, zero, suc, ◌+◌, ◌-◌, ◌*◌, ◌/◌, ◌^◌, ◌≤◌, ◌<◌}
use native.Mathlib.Nat.{mul-le-mul_left}
use native.Mathlib.Omega.{arith}
use lib.Count.{ones, ones-le}
use lib.Dec.{eqb}
use lib.ListN.{length, drop, length-append}
use Rattle.format.specs.Saved.{system_text, line_of}
use Rattle.format.specs.Text.{dash, decimal}
use Rattle.holding.specs.declared.Holding.{Holding}
use Rattle.holding.specs.Outlines.{outline_of}
use Rattle.holding.specs.Pictures.{mask_of, sound}
use Rattle.text.proofs.LastDigits.{short}
use Rattle.text.proofs.Values.{decimal_long}
use Rattle.saved.specs.declared.systems.Slot.{Slot}
use Rattle.saved.specs.Lines.{line_front}
use Rattle.saved.specs.Slots.{slot_at, system_in, systems_from, cell_count, cell_long, system_long}
use Rattle.saved.proofs.HeldTexts.{issue_few, line_pieces}
use Rattle.saved.proofs.SlotsLeft.{SlotsLeft, all_slots, few_slots, low, small, slot_passed, id_few, next_text, next_long, no_text}

-- four digits for each satellite, or a dash
cell_most : (n k : ℕ) → n ≤ 16 * k → cell_long n ≤ 4 * k + 1
cell_most n k few = go (eqb n 0)
  where
    go : (b : Bool) → cond b 1 ((n + 3) / 4) ≤ 4 * k + 1
    go true = omega arith
    go false = omega arith

-- a satellite has a bit for each signal
pub cells_most : (s : Slot) → s.signals < 2 ^ 16 → cell_count s ≤ 16 * ones s.satellites
cells_most s narrow = go s.flag
  where
    go : (flag : Bool) → cond flag (ones s.satellites * ones s.signals) 0 ≤ 16 * ones s.satellites
    go true = omega (arith, mul-le-mul_left (ones s.satellites) (ones-le 16 s.signals narrow))
    go false = omega arith

module _ {h : Holding} {i n : ℕ} (l : SlotsLeft h i n) (more : i < h.count) where
  system_most : system_long (slot_at h i) ≤ 22 + 4 * ones (slot_at h i).satellites
  system_most =
      let s = slot_at h i in
      omega (arith, short s.id (omega (arith, id_few l more)), cell_most (cell_count s) (ones s.satellites) (cells_most s (small l more)))

  -- with 40 satellites
  pub piece_most : {s : Slot} → s ≡ slot_at h i → length (system_text (system_in s (drop n h.strips))) ≤ 182
  piece_most is = rw is (omega (arith, next_long l more, system_most, ones-le 40 (slot_at h i).satellites (low l more)))

-- the systems that are left
systems_most : (k : ℕ) {h : Holding} {i n : ℕ} → SlotsLeft h i n → h.count ≡ i + k → length (flat_map system_text (systems_from h i n)) ≤ 22 * k + 4 * (64 - n)
systems_most zero l e = omega (arith, ap length (no_text l (omega arith)))
systems_most (suc k) {h} {i} {n} l e =
    let more : i < h.count = omega arith in
    let s = slot_at h i in
    let text = system_text (system_in s (drop n h.strips)) in
    let rest = flat_map system_text (systems_from h (i + 1) (n + ones s.satellites)) in
    let parts : length (flat_map system_text (systems_from h i n)) ≡ length text + length rest = ap length (next_text l more) ∙ length-append text rest in
    omega (arith, parts, next_long l more, system_most l more, (slot_passed l more).few, systems_most k (slot_passed l more) (omega arith))

-- letter, tab and two digits of the issue
pub front_most : (h : Holding) → sound h ≡ true → length (line_front (outline_of h)) ≤ 4
unfolding line_front
front_most h e = omega (arith, go h.held refl)
  where
    go : (held : Bool) → h.held ≡ held → length (cond held (decimal h.iod) (dash ∷ [])) ≤ 2
    go false off = omega arith
    go true on = decimal_long 1 h.iod (omega (arith, issue_few h e on))

-- with five systems, 64 satellites and the line feed
pub line_most : (h : Holding) → sound h ≡ true → length (line_of (mask_of h)) ≤ 371
line_most h e =
    let all = all_slots h e in
    omega (arith, simp length-append at (ap length (line_pieces h e)), front_most h e, few_slots all, systems_most h.count all (omega arith))
