-- The strips of a system: where each comes from, how many ones it has, and the array that they are stored in. Assumes nothing.
use Rattle.bits.proofs.Words.{◌≡◌, refl, sym, ap, ap₂, ◌∙◌, Bool, true, false, cond, List, [], ◌∷◌, ◌++◌, ℕ, zero, suc, ◌+◌, ◌-◌, ◌*◌, ◌/◌, ◌%◌, ◌^◌, ◌≤◌, ◌<◌, arith, ltb, length, take, drop}
use mathlib.Core.List.{append_assoc}
use native.Mathlib.Nat.{le_of_suc-le-suc, suc-mul, mul-le-mul, add_comm, mod-eq_of_lt}
use borrow.Author.Tests.{ltb-true}
use lib.Count.{ones, ones-le}
use lib.ListN.{set, replicate, length-drop, length-set, length-replicate, replicate-append-replicate, take-append-drop}
use lib.Seq.{drop_at, drop-drop, sets, sets-eq}
use Rattle.adoption.specs.declared.cells.Masks.{Masks}
use Rattle.adoption.specs.declared.grow.Window.{Window}
use Rattle.adoption.specs.Growing.{Sees, window_of, window_for}
use Rattle.adoption.specs.Spreading.{strip_of}
use Rattle.adoption.specs.Stages.{cell_bits, system_at}
use Rattle.bits.proofs.BitLists.{number_spell, length_bits}
use Rattle.bits.proofs.Bridge.{spell_field}
use Rattle.bits.proofs.Windows.{in_window}
use Rattle.bits.specs.BitLists.{number, spell, bits}
use Rattle.bits.specs.Places.{field}
use Rattle.format.proofs.Runs.{drop_take}
use Rattle.format.specs.Lengths.{total}
use Rattle.format.specs.Masks.{places_from}
use Rattle.holding.proofs.Places.{ones_places}
use Rattle.holding.specs.Building.{ones_in}
use Rattle.holding.specs.Pictures.{strips_from, strips_of}
use Rattle.holding.specs.Spread.{spread}

-- ---- the bits that a strip looks at

-- none past those that the mask has places for
strip_front : (places l : List Bool) (k n : ℕ) → length (places_from k places) ≤ n → spread places (take n l) ≡ spread places l
unfolding spread places_from
strip_front [] l k n room = refl
strip_front (false ∷ places) l k n room = ap (λ (m : List Bool). false ∷ m) (strip_front places l (suc k) n room)
strip_front (true ∷ places) l k zero room = absurd (omega arith)
strip_front (true ∷ places) [] k (suc n) room = refl
strip_front (true ∷ places) (b ∷ l) k (suc n) room = ap (λ (m : List Bool). b ∷ m) (strip_front places l (suc k) n (le_of_suc-le-suc room))

-- nor do n strips look at any past theirs
strips_front : (n : ℕ) (signals l : List Bool) → n * length (places_from 0 signals) ≤ length l → strips_from n signals (take (n * length (places_from 0 signals)) l) ≡ strips_from n signals l
unfolding strips_from
strips_front zero signals l room = refl
strips_front (suc n) signals l room =
    let w = length (places_from 0 signals) in
    let e : suc n * w ≡ w + n * w = suc-mul n w ∙ add_comm (n * w) w in
    let fewer : n * w ≤ length (drop w l) = rw length-drop (omega (arith, e)) in
    rw (strip_front signals l 0 (suc n * w) (omega (arith, e)), e, drop_take w (n * w) l (omega (arith, e)), strips_front n signals (drop w l) fewer)

-- the window for those at a place has them
pub window_sees : (bs : List ℕ) (last : Window) (at w : ℕ) {window : Window} → w ≤ 16 → Sees bs last at → window ≡ window_for last bs at w
    → Sees bs window at × (at - window.from + w < 64)
unfolding window_for
window_sees bs last at w few sees e = rw e (go (ltb (at - last.from + w) 64) refl)
  where
    go : (b : Bool) → ltb (at - last.from + w) 64 ≡ b → let window = cond b last (window_of bs at) in Sees bs window at × (at - window.from + w < 64)
    go true fits = (sees, ltb-true _ 64 fits)
    go false past = (record { before = omega arith; bits = refl }, omega arith)

-- those at a place, cut out of a window
pub seen_field : (bs : List ℕ) (window : Window) (at w n : ℕ) → Sees bs window at → at - window.from + w < 64 → n ≡ window.bits / 2 ^ (64 - (at - window.from) - w) % 2 ^ w → n ≡ field bs at w
seen_field bs window at w n sees fits e =
    let there : window.from + (at - window.from) ≡ at = omega (arith, sees.before) in
    e ∙ ap (λ (b : ℕ). b / 2 ^ (64 - (at - window.from) - w) % 2 ^ w) sees.bits
    ∙ in_window bs window.from (at - window.from) w (64 - (at - window.from) - w) (omega arith) ∙ ap (λ (p : ℕ). field bs p w) there

-- ---- the strips of a system by its numbers

-- the cell mask has few
pub few_bits : (m : Masks) → m.satellites < 2 ^ 40 → m.signals < 2 ^ 16 → ones m.satellites * ones m.signals ≤ 40 * 16
few_bits m whole long = mul-le-mul (ones-le 40 m.satellites whole) (ones-le 16 m.signals long)

-- n strips of the bits from a place on
abbrev pub strips_at : List ℕ → ℕ → ℕ → ℕ → List ℕ
strips_at bs place n signals = strips_from n (spell 16 signals) (drop place (bits bs))

pub flag_bits : (m : Masks) {flag : Bool} → flag ≡ true → cell_bits m flag ≡ ones m.satellites * ones m.signals
flag_bits m on = rw on

module _ (bs : List ℕ) (m : Masks) (place : ℕ) (whole : m.satellites < 2 ^ 40) (long : m.signals < 2 ^ 16) where
  satellites_are : length (places_from 0 (spell 40 m.satellites)) ≡ ones m.satellites
  satellites_are = sym (ones_places 40 m.satellites 0 whole)

  -- flag 0: every strip is the signal mask
  pub plain_strips : {flag : Bool} → flag ≡ false → strips_of (system_at bs m flag place) ≡ replicate (ones m.satellites) m.signals
  unfolding strips_of system_at
  plain_strips off = rw (off, satellites_are, number_spell 16 m.signals, mod-eq_of_lt long)

  -- flag 1: those of the next bits
  pub flagged_strips : {flag : Bool} → flag ≡ true → place + cell_bits m flag ≤ 8 * length bs → strips_of (system_at bs m flag place) ≡ strips_at bs place (ones m.satellites) m.signals
  unfolding strips_of system_at
  flagged_strips on there =
      let all = drop place (bits bs) in
      let fits : place + ones m.satellites * ones m.signals ≤ 8 * length bs = omega (arith, flag_bits m on) in
      let enough : ones m.satellites * ones m.signals ≤ length all = rw (length-drop, length_bits) (omega arith) in
      let signals-are = ones_places 16 m.signals 0 long in
      rw (on, satellites_are, spell_field bs place (ones m.satellites * ones m.signals) fits, signals-are) (strips_front (ones m.satellites) (spell 16 m.signals) all (rw (← signals-are) enough))

-- without a signal each is 0, as the signal mask is
pub no_signals : (bs : List ℕ) (place n signals : ℕ) → signals ≡ 0 → replicate n signals ≡ strips_at bs place n signals
unfolding strips_from spell spread places_from number
no_signals bs place n signals none = rw none (zeros n (drop place (bits bs)))
  where
    zeros : (n : ℕ) (l : List Bool) → replicate n 0 ≡ strips_from n (spell 16 0) l
    zeros zero l = refl
    zeros (suc n) l = ap (λ (strips : List ℕ). 0 ∷ strips) (zeros n l)

-- ---- how many ones they have

ones_equal : (n strip : ℕ) → ones_in (replicate n strip) ≡ n * ones strip
unfolding total
ones_equal zero strip = omega arith
ones_equal (suc n) strip = omega (arith, ones_equal n strip, suc-mul n (ones strip))

-- where every signal counts for every satellite
module _ {all : List ℕ} (m : Masks) (is : all ≡ replicate (ones m.satellites) m.signals) {n w : ℕ} (sats : n ≡ ones m.satellites) (signals : w ≡ ones m.signals) where
  pub all_ones : n * w ≡ ones_in all
  all_ones = ap₂ ◌*◌ sats signals ∙ sym (ones_equal (ones m.satellites) m.signals) ∙ ap ones_in (sym is)

  pub all_equal : replicate n m.signals ≡ all
  all_equal = ap (λ (k : ℕ). replicate k m.signals) sats ∙ sym is

-- ---- an array filled with strips

-- all strips, stored from the first place on, make what those left make from a later one on
pub record Filling (first : List ℕ) (from : ℕ) (all strips : List ℕ) (at : ℕ) (left : List ℕ) : Type 0 where
  pub same : sets first from all ≡ sets strips at left
  pub room : length strips ≡ length first

-- with one more stored
pub one_filled : {first : List ℕ} {from : ℕ} {all strips : List ℕ} {at strip : ℕ} {left : List ℕ}
    → Filling first from all strips at (strip ∷ left) → Filling first from all (set strips at strip) (suc at) left
one_filled {strips = strips} {at = at} {strip = strip} f = record { same = f.same; room = length-set strips at strip ∙ f.room }

-- zeros where there are zeros change nothing
pub zeros_stay : (l : List ℕ) (from n k : ℕ) → drop from l ≡ replicate k 0 → n ≤ k → sets l from (replicate n 0) ≡ l
zeros_stay l from zero k zeros few = refl
zeros_stay l from (suc n) k zeros few =
    let new : List ℕ = replicate (suc n) 0 in
    let more : List ℕ = replicate (k - suc n) 0 in
    let parts : suc n + (k - suc n) ≡ k = omega arith in
    let e : drop from l ≡ new ++ more = zeros ∙ sym (replicate-append-replicate (suc n) (k - suc n) 0 ∙ ap (λ (i : ℕ). replicate i 0) parts) in
    let long : length new ≡ suc n = length-replicate {A = ℕ} (suc n) 0 in
    let rest : drop (from + suc n) l ≡ more = sym (drop-drop (suc n) from l) ∙ ap (drop (suc n)) e ∙ drop_at new more (suc n) long in
    let room : length l - from ≡ k = sym (length-drop from l) ∙ ap length zeros ∙ length-replicate {A = ℕ} k 0 in
    rw (sets-eq new l from (omega (arith, long)), long, rest, append_assoc, ← e) (take-append-drop from l)

-- the strip of the field at the place comes first
pub next_strip : (bs : List ℕ) (n at signals w : ℕ) → w ≡ ones signals → signals < 2 ^ 16 → at + w ≤ 8 * length bs
    → strips_at bs at (suc n) signals ≡ strip_of signals (field bs at w) ∷ strips_at bs (at + w) n signals
unfolding strips_from
next_strip bs n at signals w wide small room =
    let places = ones_places 16 signals 0 small in
    let front = strip_front (spell 16 signals) (drop at (bits bs)) 0 (ones signals) (omega arith) in
    rw (wide, ← front, ← (spell_field bs at (ones signals) (omega arith)), places, ← (drop-drop (length (places_from 0 (spell 16 signals))) at (bits bs)))
