-- Picking by the bits of a 64-bit selection: its first bit, the selection moved up, all of it, and how many it picks. Assumes nothing.
use Rattle.bits.proofs.Words.{◌≡◌, refl, sym, ap, ◌∙◌, Bool, List, [], ◌∷◌, ◌++◌, ℕ, ◌+◌, ◌-◌, ◌*◌, ◌/◌, ◌%◌, ◌^◌, ◌≤◌, ◌<◌, arith, length, take, drop}
use native.Mathlib.Nat.{mul-mod_left, mod-lt}
use lib.Count.{ones}
use lib.ListN.{drop_of_length-le}
use lib.Pow.{pow_pos, split, shl-shr, mod-pow-add, shr_lt}
use lib.Seq.{take_at}
use Rattle.bits.proofs.BitLists.{length_spell, spell_low, spell_append}
use Rattle.bits.specs.BitLists.{spell}
use Rattle.format.specs.Masks.{places_from, pick}
use Rattle.format.proofs.Picks.{pick_nil, pick_all, pick_append, pick_filled, pick_count}
use Rattle.holding.proofs.Places.{ones_places, drop_spell}

-- ---- a selection moved up

-- the bits left of a number that was moved up
spell_up : (u n c : ℕ) → spell (u + n) (c * 2 ^ n % 2 ^ (u + n)) ≡ spell u c ++ spell n 0
spell_up u n c =
    let rest : c * 2 ^ n % 2 ^ (u + n) ≡ c % 2 ^ u * 2 ^ n + 0 = mod-pow-add (c * 2 ^ n) u n ∙ rw (shl-shr c n, mul-mod_left c (2 ^ n)) in
    let same : spell u c ≡ spell u (c % 2 ^ u) = ap (spell u) (sym (split c u)) ∙ spell_low u (c / 2 ^ u) (c % 2 ^ u) in
    ap (spell (u + n)) rest ∙ spell_append u n (c % 2 ^ u) 0 (pow_pos n) ∙ ap (λ (l : List Bool). l ++ spell n 0) (sym same)

module _ {A : Type 0} where
  -- a selection moved up picks with the bits behind those moved out
  pub pick_up : (c n : ℕ) (xs : List A) → n ≤ 64 → pick (spell 64 (c * 2 ^ n % 2 ^ 64)) xs ≡ pick (drop n (spell 64 c)) xs
  pick_up c n xs few =
      let e : 64 ≡ 64 - n + n = omega arith in
      ap (λ (w : ℕ). pick (spell w (c * 2 ^ n % 2 ^ w)) xs) e
      ∙ ap (λ (l : List Bool). pick l xs) (spell_up (64 - n) n c)
      ∙ pick_filled (spell (64 - n) c) n xs
      ∙ ap (λ (l : List Bool). pick l xs) (sym (drop_spell n 64 c))

  pick_one : (c : ℕ) (x : A) → 2 ^ 63 ≤ c → c < 2 ^ 64 → pick (spell 64 c) (x ∷ []) ≡ x ∷ []
  unfolding pick spell
  pick_one c x set small =
      let e : c / 2 ^ 63 ≡ 1 = omega arith in
      rw e (ap (λ (l : List A). x ∷ l) (pick_nil (spell 63 c)))

  pick_none : (c : ℕ) (x : A) → c < 2 ^ 63 → pick (spell 64 c) (x ∷ []) ≡ []
  unfolding pick spell
  pick_none c x clear =
      let e : c / 2 ^ 63 ≡ 0 = omega arith in
      rw e (pick_nil (spell 63 c))

  -- the later of two lists are picked by the selection moved up
  pub pick_split : (c n : ℕ) (xs ys : List A) → length xs ≡ n → n ≤ 64 → pick (spell 64 c) (xs ++ ys) ≡ pick (spell 64 c) xs ++ pick (spell 64 (c * 2 ^ n % 2 ^ 64)) ys
  pick_split c n xs ys long few = rw (pick_append (spell 64 c) xs ys, long, pick_up c n ys few)

  -- ---- none

  pub pick_over : (c i : ℕ) (xs : List A) → length xs ≤ i → pick (spell 64 c) (drop i xs) ≡ []
  pick_over c i xs past = rw (drop_of_length-le xs past) (pick_nil (spell 64 c))

  -- ---- one

  -- the highest bit picks the first
  pub pick_set : (c : ℕ) (x : A) (xs : List A) → 2 ^ 63 ≤ c → c < 2 ^ 64 → pick (spell 64 c) (x ∷ xs) ≡ x ∷ pick (spell 64 (c * 2 ^ 1 % 2 ^ 64)) xs
  pick_set c x xs set small = pick_split c 1 (x ∷ []) xs refl (omega arith) ∙ ap (λ (l : List A). l ++ pick (spell 64 (c * 2 ^ 1 % 2 ^ 64)) xs) (pick_one c x set small)

  pub pick_clear : (c : ℕ) (x : A) (xs : List A) → c < 2 ^ 63 → pick (spell 64 c) (x ∷ xs) ≡ pick (spell 64 (c * 2 ^ 1 % 2 ^ 64)) xs
  pick_clear c x xs clear = pick_split c 1 (x ∷ []) xs refl (omega arith) ∙ ap (λ (l : List A). l ++ pick (spell 64 (c * 2 ^ 1 % 2 ^ 64)) xs) (pick_none c x clear)

-- the first bits of a number
take_spell : (n z c : ℕ) → take n (spell (n + z) c) ≡ spell n (c / 2 ^ z)
take_spell n z c =
    ap (λ (m : ℕ). take n (spell (n + z) m)) (sym (split c z))
    ∙ ap (take n) (spell_append n z (c / 2 ^ z) (c % 2 ^ z) (mod-lt c (pow_pos z)))
    ∙ take_at (spell n (c / 2 ^ z)) (spell z (c % 2 ^ z)) n (length_spell n (c / 2 ^ z))

-- a selection picks as many as its first bits have ones
pub picked : {A : Type 0} (c : ℕ) (xs : List A) → c < 2 ^ 64 → length xs ≤ 64 → length (pick (spell 64 c) xs) ≡ ones (c / 2 ^ (64 - length xs))
picked c xs small few =
    let n : ℕ = length xs in
    let e : 64 ≡ n + (64 - n) = omega arith in
    let below : c / 2 ^ (64 - n) < 2 ^ n = shr_lt n (64 - n) (rw (← e) small) in
    pick_count (spell 64 c) xs 0
    ∙ ap (λ (w : ℕ). length (places_from 0 (take n (spell w c)))) e
    ∙ ap (λ (l : List Bool). length (places_from 0 l)) (take_spell n (64 - n) c)
    ∙ sym (ones_places n (c / 2 ^ (64 - n)) 0 below)

-- all ones pick all
pub all_picked : (n : ℕ) → n ≤ 64 → ones ((2 ^ 64 - 1) / 2 ^ (64 - n)) ≡ n
all_picked n few =
    let xs : List Bool = spell n 0 in
    let e : length xs ≡ n = length_spell n 0 in
    ap (λ (k : ℕ). ones ((2 ^ 64 - 1) / 2 ^ (64 - k))) (sym e) ∙ sym (picked (2 ^ 64 - 1) xs (omega arith) (omega arith)) ∙ ap length (pick_all xs (omega arith)) ∙ e
