-- Laws of setting bits: what was set is there, every other bit and the length are as they were, setting what is there changes nothing,
-- one setting after another is one, and a setting within a part. Assumes nothing.
use Rattle.bits.proofs.Words.{◌≡◌, refl, sym, ap, ◌∙◌, Bool, false, List, [], ◌∷◌, ◌++◌, ℕ, zero, suc, ◌+◌, ◌-◌, ◌*◌, ◌^◌, ◌≤◌, ◌<◌, arith, eqb, length, get_or, take, drop}
use mathlib.Core.List.{append_assoc}
use native.Mathlib.Nat.{add-zero, zero-add, suc-add, add_assoc, mod-eq_of_lt, lt_of_lt_of_le}
use lib.ListN.{length-append, length-take, length-drop, take-append-drop}
use lib.Pow.{pow_mono}
use lib.Seq.{take_at, drop_at, drop-drop, length-take-le, get_or-take, get_or-drop, drop-append-add, take-append-add, take-append-le, drop-append-le}
use Rattle.bits.specs.Places.{bit_at, field}
use Rattle.bits.specs.BitLists.{digit, number, spell, bits, bytes, set_bits, set_bytes, set_field}
use Rattle.bits.proofs.Fields.{bit_lt}
use Rattle.bits.proofs.Windows.{Bytes}
use Rattle.bits.proofs.BitLists.{digit_eqb, number_lt, length_spell, number_spell, length_bits, length_bytes, bits_bytes, bytes_bits, bits_append}
use Rattle.bits.proofs.Bridge.{bit_bits, spell_field, field_number}

-- ---- bit lists

module _ (l : List Bool) (place : ℕ) (new : List Bool) (room : place + length new ≤ length l) where
  front : length (take place l) ≡ place
  front = length-take-le place l (omega arith)

  pub length_set_bits : length (set_bits l place new) ≡ length l
  unfolding set_bits
  length_set_bits = simp (length-append, length-drop, front) (omega arith)

  pub take_set_bits : take place (set_bits l place new) ≡ take place l
  unfolding set_bits
  take_set_bits = take_at (take place l) (new ++ drop (place + length new) l) place front

  pub drop_set_bits : drop place (set_bits l place new) ≡ new ++ drop (place + length new) l
  unfolding set_bits
  drop_set_bits = drop_at (take place l) (new ++ drop (place + length new) l) place front

  pub new_set_bits : take (length new) (drop place (set_bits l place new)) ≡ new
  new_set_bits = rw drop_set_bits (take_at new (drop (place + length new) l) (length new) refl)

  pub after_set_bits : drop (place + length new) (set_bits l place new) ≡ drop (place + length new) l
  after_set_bits = sym (drop-drop (length new) place (set_bits l place new)) ∙ rw drop_set_bits (drop_at new (drop (place + length new) l) (length new) refl)

  pub before_at : (k : ℕ) → k < place → get_or (set_bits l place new) k false ≡ get_or l k false
  before_at k h = sym (get_or-take place (set_bits l place new) k false h) ∙ ap (λ (m : List Bool). get_or m k false) take_set_bits ∙ get_or-take place l k false h

  pub after_at : (k : ℕ) → place + length new ≤ k → get_or (set_bits l place new) k false ≡ get_or l k false
  after_at k h =
      let e : (place + length new) + (k - (place + length new)) ≡ k = omega arith in
      let at : (m : List Bool) → get_or (drop (place + length new) m) (k - (place + length new)) false ≡ get_or m k false
      = λ m. get_or-drop (place + length new) m (k - (place + length new)) false ∙ ap (λ (j : ℕ). get_or m j false) e in
      sym (at (set_bits l place new)) ∙ ap (λ (m : List Bool). get_or m (k - (place + length new)) false) after_set_bits ∙ at l

  -- what is set next, right behind
  pub set_bits_append : (more : List Bool) → set_bits (set_bits l place new) (place + length new) more ≡ set_bits l place (new ++ more)
  unfolding set_bits
  set_bits_append more =
      let first : take (place + length new) (take place l ++ (new ++ drop (place + length new) l)) ≡ take place l ++ new =
      rw (← (append_assoc (take place l) new (drop (place + length new) l)))
      (take_at (take place l ++ new) (drop (place + length new) l) (place + length new) (rw (length-append, front))) in
      let last : drop (place + length new + length more) (take place l ++ (new ++ drop (place + length new) l)) ≡ drop (place + (length new + length more)) l =
      sym (drop-drop (length more) (place + length new) (set_bits l place new)) ∙ ap (drop (length more)) after_set_bits
      ∙ drop-drop (length more) (place + length new) l ∙ ap (λ (k : ℕ). drop k l) (add_assoc place (length new) (length more)) in
      rw (first, last, length-append new more, append_assoc (take place l) new (more ++ drop (place + (length new + length more)) l), append_assoc new more (drop (place + (length new + length more)) l))

-- setting what is there
pub set_bits_same : (l : List Bool) (place k : ℕ) → place + k ≤ length l → set_bits l place (take k (drop place l)) ≡ l
unfolding set_bits
set_bits_same l place k room =
    let n : length (take k (drop place l)) ≡ k = length-take-le k (drop place l) (rw length-drop (omega arith)) in
    rw (n, ← (drop-drop k place l), take-append-drop k (drop place l)) (take-append-drop place l)

-- ---- byte strings

pub length_set_bytes : (bs : List ℕ) (place : ℕ) (new : List Bool) → length (set_bytes bs place new) ≡ length bs
unfolding set_bytes
length_set_bytes bs place new = length_bytes (length bs) (set_bits (bits bs) place new)

-- what bits make are bytes
pub bytes_small : (count : ℕ) (l : List Bool) → Bytes (bytes count l)
unfolding bytes
bytes_small zero l k = omega arith
bytes_small (suc count) l zero =
    let few : length (take 8 l) ≤ 8 = omega (arith, length-take 8 l) in
    lt_of_lt_of_le (number_lt (take 8 l)) (pow_mono few)
bytes_small (suc count) l (suc k) = bytes_small count (drop 8 l) k

module _ (bs : List ℕ) (place : ℕ) (new : List Bool) (room : place + length new ≤ 8 * length bs) where
  inside : place + length new ≤ length (bits bs)
  inside = rw (length_bits bs) room

  pub bits_set_bytes : bits (set_bytes bs place new) ≡ set_bits (bits bs) place new
  unfolding set_bytes
  bits_set_bytes = bits_bytes (length bs) (set_bits (bits bs) place new) (length_set_bits (bits bs) place new inside ∙ length_bits bs)

  -- what is set next, right behind
  pub set_bytes_append : (more : List Bool) → set_bytes (set_bytes bs place new) (place + length new) more ≡ set_bytes bs place (new ++ more)
  unfolding set_bytes
  set_bytes_append more =
      ap (λ (n : ℕ). bytes n (set_bits (bits (set_bytes bs place new)) (place + length new) more)) (length_set_bytes bs place new)
      ∙ ap (λ (l : List Bool). bytes (length bs) (set_bits l (place + length new) more)) bits_set_bytes
      ∙ ap (bytes (length bs)) (set_bits_append (bits bs) place new inside more)

-- setting what is there
pub set_bytes_same : (bs : List ℕ) (place k : ℕ) → Bytes bs → place + k ≤ 8 * length bs → set_bytes bs place (take k (drop place (bits bs))) ≡ bs
unfolding set_bytes
set_bytes_same bs place k small room = ap (bytes (length bs)) (set_bits_same (bits bs) place k (rw (length_bits bs) room)) ∙ bytes_bits bs small

take_small : (bs : List ℕ) → Bytes bs → (i : ℕ) → Bytes (take i bs)
take_small bs small zero k = omega arith
take_small [] small (suc i) k = omega arith
take_small (b ∷ bs) small (suc i) zero = small 0
take_small (b ∷ bs) small (suc i) (suc k) = take_small bs (λ j. small (suc j)) i k

-- ---- a part: setting bits of the bytes from some byte on sets those of the string, 8 places to a byte further on

bytes_append : (count more : ℕ) (l m : List Bool) → length l ≡ 8 * count → bytes (count + more) (l ++ m) ≡ bytes count l ++ bytes more m
unfolding bytes
bytes_append zero more [] m e = ap (λ (n : ℕ). bytes n m) (zero-add more)
bytes_append zero more (b ∷ l) m e = absurd (omega arith)
bytes_append (suc count) more l m e =
    let room : 8 ≤ length l = omega arith in
    rw (suc-add count more, take-append-le 8 l m room, drop-append-le 8 l m room)
    (ap (λ (r : List ℕ). number (take 8 l) ∷ r) (bytes_append count more (drop 8 l) m (length-drop 8 l ∙ omega arith)))

set_bits_part : (l m : List Bool) (place : ℕ) (new : List Bool) → set_bits (l ++ m) (length l + place) new ≡ l ++ set_bits m place new
unfolding set_bits
set_bits_part l m place new =
    rw (take-append-add l m place, add_assoc (length l) place (length new), drop-append-add l m (place + length new))
    (append_assoc l (take place m) (new ++ drop (place + length new) m))

pub set_bytes_part :
    (bs : List ℕ) (i place : ℕ) (new : List Bool) → Bytes bs → i ≤ length bs
    → set_bytes bs (8 * i + place) new ≡ take i bs ++ set_bytes (drop i bs) place new
unfolding set_bytes
set_bytes_part bs i place new small room =
    let l : List Bool = bits (take i bs) in
    let m : List Bool = bits (drop i bs) in
    let front : length (take i bs) ≡ i = length-take-le i bs room in
    let n : length l ≡ 8 * i = length_bits (take i bs) ∙ ap (λ (k : ℕ). 8 * k) front in
    let whole : bits bs ≡ l ++ m = ap bits (sym (take-append-drop i bs)) ∙ bits_append (take i bs) (drop i bs) in
    let count : length bs ≡ i + length (drop i bs) = rw (length-drop i bs) (omega arith) in
    let own : bytes i l ≡ take i bs = rw front at (bytes_bits (take i bs) (λ k. take_small bs small i k)) in
    rw (whole, count, ← n, set_bits_part l m place new) (bytes_append i (length (drop i bs)) l (set_bits m place new) n ∙ ap (λ (r : List ℕ). r ++ bytes (length (drop i bs)) (set_bits m place new)) own)

-- ---- fields

same_bit : (a b : ℕ) → a < 2 → b < 2 → eqb a 1 ≡ eqb b 1 → a ≡ b
same_bit a b ha hb e = sym (digit_eqb a ha) ∙ ap digit e ∙ digit_eqb b hb

pub length_set_field : (bs : List ℕ) (place w n : ℕ) → length (set_field bs place w n) ≡ length bs
unfolding set_field
length_set_field bs place w n = length_set_bytes bs place (spell w n)

module _ (bs : List ℕ) (place w n : ℕ) (room : place + w ≤ 8 * length bs) where
  spelled : place + length (spell w n) ≤ 8 * length bs
  spelled = rw (length_spell w n) room

  -- the number is there
  pub field_set_field : n < 2 ^ w → field (set_field bs place w n) place w ≡ n
  unfolding set_field
  field_set_field small =
      field_number (set_bytes bs place (spell w n)) place w (rw (length_set_bytes bs place (spell w n)) room)
      ∙ ap (λ (l : List Bool). number (take w (drop place l))) (bits_set_bytes bs place (spell w n) spelled)
      ∙ ap number (rw length_spell at (new_set_bits (bits bs) place (spell w n) (inside bs place (spell w n) spelled)))
      ∙ number_spell w n ∙ mod-eq_of_lt small

  -- every other bit is as it was
  other : (k : ℕ) → get_or (set_bits (bits bs) place (spell w n)) k false ≡ get_or (bits bs) k false → bit_at (set_field bs place w n) k ≡ bit_at bs k
  unfolding set_field
  other k e =
      same_bit (bit_at (set_field bs place w n) k) (bit_at bs k) (bit_lt (set_field bs place w n) k) (bit_lt bs k)
      (sym (bit_bits (set_bytes bs place (spell w n)) k) ∙ ap (λ (l : List Bool). get_or l k false) (bits_set_bytes bs place (spell w n) spelled) ∙ e ∙ bit_bits bs k)

  pub bit_before : (k : ℕ) → k < place → bit_at (set_field bs place w n) k ≡ bit_at bs k
  bit_before k h = other k (before_at (bits bs) place (spell w n) (inside bs place (spell w n) spelled) k h)

  pub bit_after : (k : ℕ) → place + w ≤ k → bit_at (set_field bs place w n) k ≡ bit_at bs k
  bit_after k h = other k (after_at (bits bs) place (spell w n) (inside bs place (spell w n) spelled) k (rw (length_spell w n) h))

-- no bits set
pub set_field_none : (bs : List ℕ) (place n : ℕ) → Bytes bs → set_field bs place 0 n ≡ bs
unfolding set_field spell set_bytes set_bits
set_field_none bs place n small = rw (add-zero place, take-append-drop place (bits bs)) (bytes_bits bs small)

-- writing what is there changes nothing
pub set_field_same : (bs : List ℕ) (place w : ℕ) → Bytes bs → place + w ≤ 8 * length bs → set_field bs place w (field bs place w) ≡ bs
unfolding set_field
set_field_same bs place w small room = rw (spell_field bs place w room) (set_bytes_same bs place w small room)

-- nor does it in front of what is set behind it
pub set_behind : (bs : List ℕ) (place w : ℕ) (new : List Bool) → Bytes bs → place + w ≤ 8 * length bs
    → set_bytes bs place (spell w (field bs place w) ++ new) ≡ set_bytes bs (place + w) new
unfolding set_field
set_behind bs place w new small room =
    let own : List Bool = spell w (field bs place w) in
    sym (set_bytes_append bs place own (spelled bs place w (field bs place w) room) new)
    ∙ ap (λ (n : ℕ). set_bytes (set_bytes bs place own) (place + n) new) (length_spell w (field bs place w))
    ∙ ap (λ (l : List ℕ). set_bytes l (place + w) new) (set_field_same bs place w small room)
