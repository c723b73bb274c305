-- A holding passed as bytes and back is the same holding, and its bytes are the only ones that say it. Assumes nothing.
use Rattle.bits.proofs.Words.{◌≡◌, refl, sym, ap, ap₂, ◌∙◌, Bool, true, false, cond, List, [], ◌∷◌, ◌++◌, map, ℕ, zero, suc, ◌+◌, ◌*◌, ◌/◌, ◌%◌, ◌^◌, ◌≤◌, ◌<◌, arith, ltb, leb, length, get_or, take, drop}
use mathlib.Core.List.{append_assoc}
use native.Mathlib.Nat.{add-mul-mod_self_left, mod-add-div, mod-lt, mod-eq_of_lt, mul_assoc, one-le-pow, pow-succ'}
use borrow.Author.Tests.{ltb-true, le-leb, leb-true}
use lib.ListN.{length-append, length-drop, length-map, take-append-drop}
use lib.Seq.{take-add, take_at, drop_at, drop-drop, get_or-drop}
use Rattle.bits.specs.BitLists.{digit}
use Rattle.bits.proofs.Windows.{Bytes}
use Rattle.format.specs.Good.{good}
use Rattle.format.specs.Reading.{over}
use Rattle.format.proofs.Sames.{and_true, true_and}
use Rattle.holding.specs.declared.Holding.{Holding}
use Rattle.holding.specs.Building.{with_system}
use Rattle.holding.specs.Bounds.{below, every}
use Rattle.holding.specs.Pictures.{picture_of, mask_of, same_holding, sound}
use Rattle.holding.proofs.Bounds.{below_wider}
use Rattle.holding.proofs.Sounds.{Shaped, sounds}
use Rattle.passing.specs.Bytes.{little, littles, parts, parts_of}
use Rattle.passing.specs.Passing.{size, truths, truth, passes, said, stray, holding_in, bytes_of}
use Rattle.passing.proofs.Parts.{length_parts, length_parts_of}
use Rattle.passing.proofs.Segments.{start_of, systems_in, strips_in, start_length, systems_length, strips_length, three_segments}

-- ---- numbers to bytes and back

-- a remainder by 256 times p: the lowest byte, and 256 times the remainder of the rest by p
mod_more : (n p : ℕ) → 0 < p → n % 256 + 256 * (n / 256 % p) ≡ n % (256 * p)
mod_more n p some =
    let low = n % 256 + 256 * (n / 256 % p) in
    let high = n / 256 / p in
    let whole : n ≡ low + 256 * p * high = rw (mul_assoc 256 p high) (omega (arith, mod-add-div (n / 256) p)) in
    let small : low < 256 * p = omega (arith, mod-lt (n / 256) some) in
    sym (ap (λ (m : ℕ). m % (256 * p)) whole ∙ add-mul-mod_self_left low (256 * p) high ∙ mod-eq_of_lt small)

-- the first k bytes of a number say it up to 256 ^ k, whatever stands behind them
pub little_parts : (k n : ℕ) (more : List ℕ) → little k (parts k n ++ more) ≡ n % 256 ^ k
unfolding little parts
little_parts zero n more = omega arith
little_parts (suc k) n more = rw (little_parts k (n / 256) more, pow-succ' 256 k) (mod_more n (256 ^ k) (one-le-pow k 256 (omega arith)))

-- numbers that have room in k bytes each are said by their bytes
pub littles_parts : (k : ℕ) (ns more : List ℕ) → below (256 ^ k) ns ≡ true → littles k (length ns) (parts_of k ns ++ more) ≡ ns
unfolding littles parts_of every
littles_parts k [] more e = refl
littles_parts k (n ∷ ns) more e =
    let fit = and_true (ltb n (256 ^ k)) _ e in
    let rest = parts_of k ns ++ more in
    rw (append_assoc (parts k n) (parts_of k ns) more, drop_at (parts k n) rest k (length_parts k n))
    (ap₂ ◌∷◌ (little_parts k n rest ∙ mod-eq_of_lt (ltb-true n (256 ^ k) fit.0)) (littles_parts k ns more fit.1))

-- so are those that stand somewhere in some bytes
littles_there : (k n : ℕ) (ns more bs : List ℕ) → bs ≡ parts_of k ns ++ more → length ns ≡ n → below (256 ^ k) ns ≡ true → littles k n bs ≡ ns
littles_there k n ns more bs there count fit = rw (there, ← count) (littles_parts k ns more fit)

-- a flag is said by its byte
truth_digit : (b : Bool) → truth (digit b) ≡ b
unfolding truth
truth_digit true = refl
truth_digit false = refl

-- so are flags by theirs
pub truths_digits : (fs : List Bool) → map truth (map digit fs) ≡ fs
truths_digits [] = refl
truths_digits (f ∷ fs) = ap₂ ◌∷◌ (truth_digit f) (truths_digits fs)

-- a flag's byte is 0 or 1
digit_truth : (b : Bool) → leb (digit b) 1 ≡ true
digit_truth true = refl
digit_truth false = refl

-- and so is each of some flags'
digits_pass : (fs : List Bool) → truths (map digit fs) ≡ true
unfolding every
digits_pass [] = refl
digits_pass (f ∷ fs) = true_and (digit_truth f) (digits_pass fs)

-- ---- from a holding to bytes and back

-- what stands behind a part of some bytes
behind : (i a : ℕ) (l x y : List ℕ) → drop i l ≡ x ++ y → length x ≡ a → drop (i + a) l ≡ y
behind i a l x y e long = sym (drop-drop a i l) ∙ ap (drop a) e ∙ drop_at x y a long

-- what stands in the bytes from the strips on, from the satellite masks on, and so to the front
abbrev from_strips : Holding → List ℕ → List ℕ
from_strips h more = strips_in h ++ more

abbrev from_satellites : Holding → List ℕ → List ℕ
from_satellites h more = parts_of 8 h.satellites ++ from_strips h more

abbrev from_signals : Holding → List ℕ → List ℕ
from_signals h more = parts_of 2 h.signals ++ from_satellites h more

abbrev from_flags : Holding → List ℕ → List ℕ
from_flags h more = map digit h.flags ++ from_signals h more

abbrev from_ids : Holding → List ℕ → List ℕ
from_ids h more = h.ids ++ from_flags h more

-- a holding has 194 bytes
pub bytes_length : (h : Holding) → Shaped h → length (bytes_of h) ≡ size
bytes_length h sizes =
    rw (
      ← (three_segments h),
      length-append (start_of h) (systems_in h ++ strips_in h),
      length-append (systems_in h) (strips_in h),
      start_length h,
      systems_length h sizes,
      strips_length h sizes,
    )

-- the first four bytes: whether a mask is held, its issue, how many systems and satellites there are
record Firsts (h : Holding) (bs : List ℕ) : Type 0 where
  held : get_or bs 0 0 ≡ digit h.held
  iod : get_or bs 1 0 ≡ h.iod
  count : get_or bs 2 0 ≡ h.count
  nsat : get_or bs 3 0 ≡ h.nsat

firsts : (h : Holding) (more : List ℕ) → Firsts h (bytes_of h ++ more)
unfolding bytes_of
firsts h more = record { held = refl; iod = refl; count = refl; nsat = refl }

-- then two for how many cells
at_cells : (h : Holding) (more : List ℕ) → drop 4 (bytes_of h ++ more) ≡ parts 2 h.ncell ++ from_ids h more
unfolding bytes_of
at_cells h more = simp append_assoc

-- then all that stands by system, and the strips
at_ids : (h : Holding) (more : List ℕ) → drop 6 (bytes_of h ++ more) ≡ from_ids h more
unfolding bytes_of parts
at_ids h more = simp append_assoc

module _ (h : Holding) (sizes : Shaped h) (more : List ℕ) where
  flag_bytes : length (map digit h.flags) ≡ 5
  flag_bytes = length-map h.flags digit ∙ sizes.flags

  -- and each part of these at its place
  at_flags : drop 11 (bytes_of h ++ more) ≡ from_flags h more
  at_flags = behind 6 5 (bytes_of h ++ more) h.ids (from_flags h more) (at_ids h more) sizes.ids

  at_signals : drop 16 (bytes_of h ++ more) ≡ from_signals h more
  at_signals = behind 11 5 (bytes_of h ++ more) (map digit h.flags) (from_signals h more) at_flags flag_bytes

  at_satellites : drop 26 (bytes_of h ++ more) ≡ from_satellites h more
  at_satellites =
      behind 16 10 (bytes_of h ++ more) (parts_of 2 h.signals) (from_satellites h more) at_signals
      (omega (arith, length_parts_of 2 h.signals, sizes.signals))

  at_strips : drop 66 (bytes_of h ++ more) ≡ from_strips h more
  at_strips =
      behind 26 40 (bytes_of h ++ more) (parts_of 8 h.satellites) (from_strips h more) at_satellites
      (omega (arith, length_parts_of 8 h.satellites, sizes.satellites))

  -- the flags among the bytes
  flags_in : take 5 (drop 11 (bytes_of h ++ more)) ≡ map digit h.flags
  flags_in = rw at_flags (take_at (map digit h.flags) (from_signals h more) 5 flag_bytes)

  -- there are 194, and those that stand for a truth are 0 or 1
  bytes_pass : passes (bytes_of h ++ more) ≡ true
  unfolding passes
  bytes_pass =
      let long : size ≤ length (bytes_of h ++ more) = simp length-append (omega (arith, bytes_length h sizes)) in
      rw (le-leb size (length (bytes_of h ++ more)) long, (firsts h more).held, flags_in) (true_and (digit_truth h.held) (digits_pass h.flags))

-- the bytes of a sound holding say it, whatever stands behind them
bytes_say : (h : Holding) → sound h ≡ true → (more : List ℕ) → said (bytes_of h ++ more) ≡ h
unfolding said
bytes_say h e more =
    let s = sounds h e in
    let sizes = s.shaped in
    let bs = bytes_of h ++ more in
    let first = firsts h more in
    let few : h.ncell < 256 ^ 2 = omega (arith, s.few_cells_lem) in
    let masks = below_wider (2 ^ 40) (256 ^ 8) (omega arith) h.satellites s.satellites_narrow in
    λ i. record {
      held = (ap truth first.held ∙ truth_digit h.held) i;
      iod = first.iod i;
      count = first.count i;
      ids = (ap (take 5) (at_ids h more) ∙ take_at h.ids (from_flags h more) 5 sizes.ids) i;
      satellites = littles_there 8 5 h.satellites (from_strips h more) (drop 26 bs) (at_satellites h sizes more) sizes.satellites masks i;
      signals = littles_there 2 5 h.signals (from_satellites h more) (drop 16 bs) (at_signals h sizes more) sizes.signals sizes.signals_narrow i;
      flags = (ap (map truth) (flags_in h sizes more) ∙ truths_digits h.flags) i;
      strips = littles_there 2 64 h.strips more (drop 66 bs) (at_strips h sizes more) sizes.strips sizes.strips_narrow i;
      nsat = first.nsat i;
      ncell = (ap (little 2) (at_cells h more) ∙ little_parts 2 h.ncell (from_ids h more) ∙ mod-eq_of_lt few) i;
    }

-- a holding passed over bytes, and back, is the same holding
pub holding_returns : (h : Holding) → sound h ≡ true → (bs : List ℕ) → holding_in (over (bytes_of h) bs) ≡ h
unfolding over holding_in
holding_returns h e bs =
    let more = drop (length (bytes_of h)) bs in
    rw (bytes_pass h (sounds h e).shaped more) (bytes_say h e more)

-- ---- from bytes to a holding and back

-- bytes from some place on
bytes_drop : (i : ℕ) (bs : List ℕ) → Bytes bs → Bytes (drop i bs)
bytes_drop i bs small k = rw get_or-drop (small (i + k))

-- the bytes of the number in the first k bytes are these
pub parts_little : (k : ℕ) (bs : List ℕ) → Bytes bs → k ≤ length bs → parts k (little k bs) ≡ take k bs
unfolding little parts
parts_little zero bs small room = refl
parts_little (suc k) [] small room = absurd (omega arith)
parts_little (suc k) (b ∷ bs) small room =
    let n = little k bs in
    let low : (b + 256 * n) % 256 ≡ b = omega (arith, small 0) in
    let high : (b + 256 * n) / 256 ≡ n = omega (arith, small 0) in
    rw (low, high) (ap (λ (l : List ℕ). b ∷ l) (parts_little k bs (λ i. small (suc i)) (omega arith)))

-- and so are those of n numbers
pub parts_littles : (k n : ℕ) (bs : List ℕ) → Bytes bs → k * n ≤ length bs → parts_of k (littles k n bs) ≡ take (k * n) bs
unfolding littles parts_of
parts_littles k zero bs small room =
    let none : k * 0 ≡ 0 = omega arith in
    rw none
parts_littles k (suc n) bs small room =
    let all : k * suc n ≡ k + k * n = omega arith in
    let rest = parts_littles k n (drop k bs) (bytes_drop k bs small) (rw length-drop (omega arith)) in
    rw (all, take-add k (k * n) bs) (ap₂ ◌++◌ (parts_little k bs small (omega arith)) rest)

-- a byte that is 0 or 1 is its truth's
digit_back : (b : ℕ) → b ≤ 1 → digit (truth b) ≡ b
unfolding truth
digit_back zero few = refl
digit_back (suc zero) few = refl
digit_back (suc (suc b)) few = absurd (omega arith)

-- the bytes of truths are these
pub digits_truths : (bs : List ℕ) → truths bs ≡ true → map digit (map truth bs) ≡ bs
unfolding every
digits_truths [] e = refl
digits_truths (b ∷ bs) e =
    let parts = and_true (leb b 1) _ e in
    ap₂ ◌∷◌ (digit_back b (leb-true b 1 parts.0)) (digits_truths bs parts.1)

-- a part of some bytes, and the next part
parted : (a b i : ℕ) (bs : List ℕ) → take (a + b) (drop i bs) ≡ take a (drop i bs) ++ take b (drop (i + a) bs)
parted a b i bs = take-add a b (drop i bs) ∙ ap (λ (l : List ℕ). take a (drop i bs) ++ take b l) (drop-drop a i bs)

-- the first four bytes, and the rest
four_first : (bs : List ℕ) → 4 ≤ length bs → get_or bs 0 0 ∷ get_or bs 1 0 ∷ get_or bs 2 0 ∷ get_or bs 3 0 ∷ drop 4 bs ≡ bs
four_first [] room = absurd (omega arith)
four_first (a ∷ []) room = absurd (omega arith)
four_first (a ∷ b ∷ []) room = absurd (omega arith)
four_first (a ∷ b ∷ c ∷ []) room = absurd (omega arith)
four_first (a ∷ b ∷ c ∷ d ∷ bs) room = refl

-- what the test of lent bytes says of them
pub record Passed (bs : List ℕ) : Type 0 where
  pub long : size ≤ length bs
  pub held : get_or bs 0 0 ≤ 1
  pub flags : truths (take 5 (drop 11 bs)) ≡ true

pub passed : (bs : List ℕ) → passes bs ≡ true → Passed bs
unfolding passes
passed bs e =
    let long = and_true (leb size (length bs)) _ e in
    let held = and_true (leb (get_or bs 0 0) 1) _ long.1 in
    record { long = leb-true _ _ long.0; held = leb-true _ _ held.0; flags = held.1 }

module _ (bs : List ℕ) (small : Bytes bs) (p : Passed bs) where
  -- the first six, as they were
  start_said : start_of (said bs) ≡ take 6 bs
  unfolding said
  start_said =
      let cells = parts_little 2 (drop 4 bs) (bytes_drop 4 bs small) (rw length-drop (omega (arith, p.long))) in
      rw (digit_back (get_or bs 0 0) p.held, cells) (ap (take 6) (four_first bs (omega (arith, p.long))))

  -- n numbers of k bytes each, as they were
  numbers_said : (k n i : ℕ) → i + k * n ≤ size → parts_of k (littles k n (drop i bs)) ≡ take (k * n) (drop i bs)
  numbers_said k n i inside = parts_littles k n (drop i bs) (bytes_drop i bs small) (rw length-drop (omega (arith, p.long)))

  -- all behind the first six
  rest_said : let h = said bs in
      h.ids ++ (map digit h.flags ++ (parts_of 2 h.signals ++ (parts_of 8 h.satellites ++ parts_of 2 h.strips))) ≡ take 188 (drop 6 bs)
  unfolding said
  rest_said =
      rw (
        digits_truths (take 5 (drop 11 bs)) p.flags,
        numbers_said 2 5 16 (omega arith),
        numbers_said 8 5 26 (omega arith),
        numbers_said 2 64 66 (omega arith),
        parted 5 183 6 bs,
        parted 5 178 11 bs,
        parted 10 168 16 bs,
        parted 40 128 26 bs,
      )

  -- all 194
  bytes_said_lem : bytes_of (said bs) ≡ take size bs
  unfolding bytes_of
  bytes_said_lem = ap₂ ◌++◌ start_said rest_said ∙ sym (take-add 6 188 bs)

-- what other bytes say is no holding
pub stray_none : sound stray ≡ false
unfolding sound mask_of good picture_of same_holding stray with_system
stray_none = refl

-- so bytes that say a sound holding pass the test
pub sound_passes : (bs : List ℕ) → sound (holding_in bs) ≡ true → passes bs ≡ true
unfolding holding_in
sound_passes bs e = go (passes bs) e
  where
    go : (b : Bool) → sound (cond b (said bs) stray) ≡ true → b ≡ true
    go true e = refl
    go false e = sym stray_none ∙ e

-- a holding's bytes are the only ones that say it
pub bytes_return : (bs : List ℕ) → Bytes bs → sound (holding_in bs) ≡ true → over (bytes_of (holding_in bs)) bs ≡ bs
unfolding over holding_in
bytes_return bs small e =
    let passing = sound_passes bs e in
    let sizes = bytes_length (said bs) (sounds (said bs) (rw passing at e)).shaped in
    rw (passing, sizes, bytes_said_lem bs small (passed bs passing)) (take-append-drop size bs)
