-- A loop over slots: its next slot, and the slots behind it. Assumes nothing.
use Rattle.bits.proofs.Words.{◌≡◌, sym, ap, ◌∙◌, List, [], ◌∷◌, ◌++◌, ℕ, ◌+◌, ◌-◌, ◌*◌, ◌%◌, ◌^◌, ◌≤◌, ◌<◌, arith, ltb, length, take, drop, refl, get_or, add-one, suc}
use borrow.Author.Tests.{ltb-true}
use native.Mathlib.Nat.{le_of_suc-le-suc}
use lib.Count.{ones, ones-le}
use lib.ListN.{length-append, length-drop, drop_of_length-le}
use lib.Seq.{drop-cons}
use Rattle.format.proofs.Sames.{and_true}
use Rattle.format.specs.Masks.{Satellite}
use Rattle.format.specs.Rows.{Column}
use Rattle.holding.specs.Bounds.{every}
use Rattle.holding.specs.Held.{satellites_in, slot_satellites}
use Rattle.body.specs.Chosen.{alone, striped}
use Rattle.body.specs.Lent.{Slots}
use Rattle.body.proofs.Going.{lent}
use Rattle.body.proofs.Groups.{alone_length, alone_append, striped_length, striped_append}
use Rattle.body.proofs.Slots.{up_in, count_in}
use Rattle.body.proofs.Walking.{Both}

-- the satellites of a slot
abbrev pub in_slot : ℕ → ℕ → List Satellite
in_slot id mask = satellites_in 64 id (mask * 2 ^ 24 % 2 ^ 64)

-- the next slot, and the slots behind it
pub record Turn (ids masks : List ℕ) (id mask : ℕ) (behind rest : List ℕ) : Type 0 where
  pub slots : Slots behind rest
  pub both : slot_satellites ids masks ≡ in_slot id mask ++ slot_satellites behind rest
  pub count : length (in_slot id mask) ≡ ones mask
  pub few : length (in_slot id mask) ≤ 40

turned : (id mask : ℕ) (behind rest : List ℕ) → Slots (id ∷ behind) (mask ∷ rest) → Turn (id ∷ behind) (mask ∷ rest) id mask behind rest
unfolding slot_satellites every
turned id mask behind rest s =
    let thin = and_true (ltb mask (2 ^ 40)) _ s.thin in
    let small : mask < 2 ^ 40 = ltb-true mask (2 ^ 40) thin.0 in
    let same = up_in id mask small in
    let count : length (in_slot id mask) ≡ ones mask = ap length same ∙ count_in id mask small in
    record {
      slots = record { masked = le_of_suc-le-suc s.masked; thin = thin.1 };
      both = rw same;
      count = count;
      few = omega (arith, ones-le 40 mask small);
    }

pub slot_turn_at : (ids masks : List ℕ) (i : ℕ) → i < length ids → Slots (drop i ids) (drop i masks) → Turn (drop i ids) (drop i masks) (get_or ids i 0) (get_or masks i 0) (drop (i + 1) ids) (drop (i + 1) masks)
slot_turn_at ids masks i inside slots =
    let within : i < length masks = omega (arith, slots.masked, length-drop i ids, length-drop i masks) in
    let first = drop-cons ids i 0 inside in
    let second = drop-cons masks i 0 within in
    rw (add-one i, first, second) (turned (get_or ids i 0) (get_or masks i 0) (drop (suc i) ids) (drop (suc i) masks) (rw (first, second) at slots))

pub slots_over_at : (ids masks : List ℕ) (i : ℕ) → length ids ≤ i → slot_satellites (drop i ids) (drop i masks) ≡ []
unfolding slot_satellites
slots_over_at ids masks i past = rw (drop_of_length-le ids past) refl

-- ---- the lines of that slot, and those of the slots behind it

module _ (shape : ℕ → List Column) {ids masks behind rest : List ℕ} {id mask : ℕ} (turn : Turn ids masks id mask behind rest) where
  pub alone_turn : Both (alone shape (slot_satellites ids masks)) (alone shape (in_slot id mask)) (alone shape (slot_satellites behind rest))
  alone_turn = record { both = alone_append shape _ _ turn.both; few = omega (arith, turn.few, alone_length shape (in_slot id mask)) }

-- where each satellite has its strip
pub record Striped (shape : ℕ → List Column) (ids masks behind rest : List ℕ) (id mask : ℕ) (strips : List ℕ) (n m : ℕ) : Type 0 where
  pub covered : length (in_slot id mask) ≤ length (take (length strips - n) (drop n strips))
  pub left : n + m + length (slot_satellites behind rest) ≤ length strips
  pub both : Both (striped shape (slot_satellites ids masks) (drop n strips)) (striped shape (in_slot id mask) (take (length strips - n) (drop n strips)))
      (striped shape (slot_satellites behind rest) (drop (n + m) strips))

pub striped_turn : (shape : ℕ → List Column) {ids masks behind rest : List ℕ} {id mask : ℕ} → Turn ids masks id mask behind rest
    → (strips : List ℕ) (n m : ℕ) → m ≡ ones mask → n + length (slot_satellites ids masks) ≤ length strips → Striped shape ids masks behind rest id mask strips n m
striped_turn shape {ids} {masks} {behind} {rest} {id} {mask} turn strips n m many room =
    let here : List ℕ = take (length strips - n) (drop n strips) in
    let whole : here ≡ drop n strips = lent n strips in
    let all = ap length turn.both ∙ length-append (in_slot id mask) (slot_satellites behind rest) in
    let covered : length (in_slot id mask) ≤ length here = omega (arith, all, ap length whole, length-drop n strips) in
    record {
      covered = covered;
      left = omega (arith, all, turn.count);
      both =
          record {
            both =
                striped_append shape _ _ strips n m (turn.count ∙ sym many) turn.both
                ∙ ap (λ (l : List ℕ). striped shape (in_slot id mask) l ++ striped shape (slot_satellites behind rest) (drop (n + m) strips)) (sym whole);
            few = omega (arith, turn.few, striped_length shape (in_slot id mask) here covered);
          };
    }
