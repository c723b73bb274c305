-- The satellites of slots, one after the other, and the cells of a satellite. Assumes nothing.
use Rattle.bits.proofs.Words.{◌≡◌, sym, ap, ◌∙◌, true, List, [], ◌∷◌, ◌++◌, ℕ, suc, ◌-◌, ◌*◌, ◌%◌, ◌^◌, ◌≤◌, ◌<◌, arith, length, get_or, drop}
use lib.Count.{ones, count_leading_zeros, ones-le}
use lib.ListN.{length-map, drop_of_length-le}
use lib.Pow.{pow_pos}
use lib.Seq.{drop-cons}
use Rattle.bits.specs.BitLists.{spell}
use Rattle.format.specs.Masks.{Satellite, places_from}
use Rattle.holding.proofs.Bounds.{below_at}
use Rattle.holding.proofs.Places.{ones_places, no_place, next_place, places_shifted}
use Rattle.holding.specs.Bounds.{narrow}
use Rattle.holding.specs.Held.{satellites_in, slot_satellites}
use Rattle.body.specs.Chosen.{cells_in}

-- ---- the places of a word

-- it has one, and fewer without it
pub record Next (x rest : ℕ) : Type 0 where
  pub inside : count_leading_zeros 64 x < 64
  pub fewer : rest < x

module _ (x rest : ℕ) (some : 0 < x) (small : x < 2 ^ 64) (e : rest ≡ x - 2 ^ (63 - count_leading_zeros 64 x)) where
  pub next : Next x rest
  next = let p = next_place x some small in record { inside = p.0; fewer = omega (arith, p.1, pow_pos (63 - count_leading_zeros 64 x)) }

  -- the satellite there, and the cell
  pub next_in : (id : ℕ) → satellites_in 64 id x ≡ record { system = id; number = suc (count_leading_zeros 64 x) } ∷ satellites_in 64 id rest
  unfolding satellites_in
  next_in id = rw ((next_place x some small).2, e)

  pub next_of : (sat : Satellite) → cells_in 64 sat x ≡ record { satellite = sat; signal = count_leading_zeros 64 x } ∷ cells_in 64 sat rest
  unfolding cells_in
  next_of sat = rw ((next_place x some small).2, e)

pub none_in : (id : ℕ) {x : ℕ} → x ≡ 0 → satellites_in 64 id x ≡ []
unfolding satellites_in
none_in id e = rw (e, no_place 64 0)

pub none_of : (sat : Satellite) {x : ℕ} → x ≡ 0 → cells_in 64 sat x ≡ []
unfolding cells_in
none_of sat e = rw (e, no_place 64 0)

-- a strip of 16 bits moved up
pub up_of : (sat : Satellite) (strip : ℕ) → strip < 2 ^ 16 → cells_in 64 sat (strip * 2 ^ 48 % 2 ^ 64) ≡ cells_in 16 sat strip
unfolding cells_in
up_of sat strip small = rw (places_shifted 16 48 strip (omega arith))

-- and how many cells it has
pub count_of : (sat : Satellite) (strip : ℕ) → strip < 2 ^ 16 → length (cells_in 16 sat strip) ≡ ones strip
unfolding cells_in
count_of sat strip small = length-map (places_from 0 (spell 16 strip)) _ ∙ sym (ones_places 16 strip 0 small)

-- ---- slots

-- a mask of 40 bits moved up
pub up_in : (id m : ℕ) → m < 2 ^ 40 → satellites_in 64 id (m * 2 ^ 24 % 2 ^ 64) ≡ satellites_in 40 id m
unfolding satellites_in
up_in id m small = rw (places_shifted 40 24 m (omega arith))

pub count_in : (id m : ℕ) → m < 2 ^ 40 → length (satellites_in 40 id m) ≡ ones m
unfolding satellites_in
count_in id m small = length-map (places_from 0 (spell 40 m)) _ ∙ sym (ones_places 40 m 0 small)

module _ (ids masks : List ℕ) (i : ℕ) where
  -- the satellites of the i-th slot, and those from it on
  abbrev pub in_slot : List Satellite
  in_slot = satellites_in 64 (get_or ids i 0) (get_or masks i 0 * 2 ^ 24 % 2 ^ 64)

  abbrev pub from_slot : List Satellite
  from_slot = slot_satellites (drop i ids) (drop i masks)

pub record Slot (ids masks : List ℕ) (i : ℕ) : Type 0 where
  pub inside : i < length masks
  pub both : from_slot ids masks i ≡ in_slot ids masks i ++ from_slot ids masks (suc i)
  pub count : length (in_slot ids masks i) ≡ ones (get_or masks i 0)
  pub few : length (in_slot ids masks i) ≤ 40

pub slot_at : (ids masks : List ℕ) (i : ℕ) → length ids ≤ length masks → narrow 40 masks ≡ true → i < length ids → Slot ids masks i
unfolding slot_satellites
slot_at ids masks i some thin inside =
    let id : ℕ = get_or ids i 0 in
    let mask : ℕ = get_or masks i 0 in
    let within : i < length masks = omega arith in
    let small : mask < 2 ^ 40 = below_at (2 ^ 40) masks thin i within in
    let same = up_in id mask small in
    let count : length (in_slot ids masks i) ≡ ones mask = ap length same ∙ count_in id mask small in
    record {
      inside = within;
      both = rw (drop-cons ids i 0 inside, drop-cons masks i 0 within, same);
      count = count;
      few = omega (arith, ones-le 40 mask small);
    }

-- no slot is left
pub no_slot : (ids masks : List ℕ) (i : ℕ) → length ids ≤ i → from_slot ids masks i ≡ []
unfolding slot_satellites
no_slot ids masks i past = rw (drop_of_length-le ids past)
