-- A window stored back: its eight bytes, set one after the other as far as the string goes, set its 64 bits; and a field set is the window with that field
-- replaced, stored back. Assumes nothing.
use Rattle.bits.proofs.Words.{◌≡◌, refl, sym, ap, ap₂, ◌∙◌, subst, Bool, List, [], ◌∷◌, ◌++◌, ℕ, zero, suc, ◌+◌, ◌-◌, ◌*◌, ◌/◌, ◌%◌, ◌^◌, ◌≤◌, ◌<◌, arith, length, get_or, take, drop}
use mathlib.Core.List.{append_assoc}
use native.Mathlib.Nat.{div-one, add-zero, add-suc, suc-add, le_of_suc-le-suc, zero-add, add-mul, mod-lt, mod-eq_of_lt}
use native.Mathlib.Decide.{dec_lt}
use lib.ListN.{set, length-append, length-drop, take-append-drop}
use lib.Pow.{split, pow_pos, pow-add, shr-shr, shr_lt}
use lib.Arith.{digits_lt}
use lib.Seq.{take_at, drop_at, take_all, drop-drop, length-take-le, take-append-le, drop-append-le, drop-append-add, sets}
use Rattle.bits.specs.Places.{field}
use Rattle.bits.specs.BitLists.{number, spell, bits, bytes, set_bits, set_bytes, set_field}
use Rattle.bits.proofs.Fields.{field_lt, field_add}
use Rattle.bits.proofs.Windows.{Bytes, in_window}
use Rattle.bits.proofs.BitLists.{length_spell, number_spell, spell_mod, spell_append, spell_split, length_bits, length_bytes, bits_bytes, bytes_bits}
use Rattle.bits.proofs.Bridge.{spell_field}
use Rattle.bits.proofs.Setting.{bytes_small}

-- ---- the eight bytes of a window

spell_byte : (k n : ℕ) → spell (8 + k) n ≡ spell 8 (n / 2 ^ k % 256) ++ spell k n
spell_byte k n = spell_split 8 k n ∙ ap (λ (l : List Bool). l ++ spell k n) (sym (spell_mod 8 (n / 2 ^ k)))

bytes_spell : (count n : ℕ) → bytes (suc count) (spell (8 + 8 * count) n) ≡ n / 2 ^ (8 * count) % 256 ∷ bytes count (spell (8 * count) n)
unfolding bytes
bytes_spell count n =
    let top : ℕ = n / 2 ^ (8 * count) % 256 in
    let rest : List Bool = spell (8 * count) n in
    rw (spell_byte (8 * count) n, take_at (spell 8 top) rest 8 (length_spell 8 top), drop_at (spell 8 top) rest 8 (length_spell 8 top), number_spell 8 top, mod-eq_of_lt (mod-lt (n / 2 ^ (8 * count)) (pow_pos 8)))

bytes_none : (l : List Bool) → bytes 0 l ≡ []
unfolding bytes
bytes_none l = refl

pub split_bytes :
    (n : ℕ)
    → n / 2 ^ 56 % 256 ∷ n / 2 ^ 48 % 256 ∷ n / 2 ^ 40 % 256 ∷ n / 2 ^ 32 % 256 ∷ n / 2 ^ 24 % 256 ∷ n / 2 ^ 16 % 256 ∷ n / 2 ^ 8 % 256 ∷ n % 256 ∷ []
    ≡ bytes 8 (spell 64 n)
split_bytes n =
    rw (bytes_spell 7 n, bytes_spell 6 n, bytes_spell 5 n, bytes_spell 4 n, bytes_spell 3 n, bytes_spell 2 n, bytes_spell 1 n, bytes_spell 0 n, bytes_none (spell 0 n), div-one n)

-- ---- bytes set from the start on

sets_cons : (x : ℕ) (s vs : List ℕ) (i : ℕ) → sets (x ∷ s) (suc i) vs ≡ x ∷ sets s i vs
sets_cons x s [] i = refl
sets_cons x s (v ∷ vs) i = sets_cons x (set s i v) vs (suc i)

sets_nil : (vs : List ℕ) (i : ℕ) → sets [] i vs ≡ []
sets_nil [] i = refl
sets_nil (v ∷ vs) i = sets_nil vs (suc i)

over : (s vs : List ℕ) → Bytes s → Bytes vs → bytes (length s) (bits vs ++ drop (8 * length vs) (bits s)) ≡ sets s 0 vs
unfolding bytes bits
over [] vs smalls smallv = sym (sets_nil vs 0)
over (b ∷ s) [] smalls smallv = bytes_bits (b ∷ s) smalls
over (b ∷ s) (v ∷ vs) smalls smallv =
    let behind : List Bool = drop (8 * length vs) (bits s) in
    let e : 8 * suc (length vs) ≡ length (spell 8 b) + 8 * length vs = omega (arith, length_spell 8 b) in
    let tail : drop (8 * suc (length vs)) (spell 8 b ++ bits s) ≡ behind = rw e (drop-append-add (spell 8 b) (bits s) (8 * length vs)) in
    rw (tail, append_assoc (spell 8 v) (bits vs) behind, take_at (spell 8 v) (bits vs ++ behind) 8 (length_spell 8 v), drop_at (spell 8 v) (bits vs ++ behind) 8 (length_spell 8 v), number_spell 8 v, mod-eq_of_lt (smallv 0))
    (ap (λ (l : List ℕ). v ∷ l) (over s vs (λ k. smalls (suc k)) (λ k. smallv (suc k))) ∙ sym (sets_cons v s vs 0))

pub stored : (s : List ℕ) (n : ℕ) → Bytes s → sets s 0 (bytes 8 (spell 64 n)) ≡ set_field s 0 64 n
unfolding set_field set_bytes set_bits
stored s n small =
    sym (over s (bytes 8 (spell 64 n)) small (bytes_small 8 (spell 64 n)))
    ∙ rw (length_bytes 8 (spell 64 n), bits_bytes 8 (spell 64 n) (length_spell 64 n), length_spell 64 n)

-- one byte more
pub sets_suc : (s vs : List ℕ) (k i : ℕ) → i < length vs → sets s k (take (suc i) vs) ≡ set (sets s k (take i vs)) (k + i) (get_or vs i 0)
sets_suc s [] k i h = absurd (omega arith)
sets_suc s (v ∷ vs) k zero h = ap (λ (j : ℕ). set s j v) (sym (add-zero k))
sets_suc s (v ∷ vs) k (suc i) h = rw (add-suc k i, ← (suc-add k i)) (sets_suc (set s k v) vs (suc k) i (le_of_suc-le-suc h))

-- past its end nothing is set
pub sets_all : (s vs : List ℕ) → sets s 0 (take (length s) vs) ≡ sets s 0 vs
sets_all [] vs = sym (sets_nil vs 0)
sets_all (x ∷ s) [] = refl
sets_all (x ∷ s) (v ∷ vs) = sets_cons v s (take (length s) vs) 0 ∙ ap (λ (l : List ℕ). v ∷ l) (sets_all s vs) ∙ sym (sets_cons v s vs 0)

-- ---- a field of a window replaced

-- bits past the last byte make none
bytes_cut : (count : ℕ) (l m : List Bool) → 8 * count ≤ length l → bytes count (l ++ m) ≡ bytes count l
unfolding bytes
bytes_cut zero l m room = refl
bytes_cut (suc count) l m room =
    let first : 8 ≤ length l = omega arith in
    rw (take-append-le 8 l m first, drop-append-le 8 l m first)
    (ap (λ (r : List ℕ). number (take 8 l) ∷ r) (bytes_cut count (drop 8 l) m (rw (length-drop 8 l) (omega arith))))

-- the bits from a place on, of which the string has r: those, and then others past its end
spell_past : (s : List ℕ) (place t r : ℕ) → place + r ≡ 8 * length s → r ≤ t → spell t (field s place t) ≡ drop place (bits s) ++ spell (t - r) (field s (place + r) (t - r))
spell_past s place t r end h =
    let e : t ≡ r + (t - r) = omega arith in
    ap (λ (k : ℕ). spell k (field s place k)) e ∙ ap (spell (r + (t - r))) (field_add s place r (t - r))
    ∙ spell_append r (t - r) (field s place r) (field s (place + r) (t - r)) (field_lt s (place + r) (t - r))
    ∙ ap (λ (l : List Bool). l ++ spell (t - r) (field s (place + r) (t - r))) (spell_field s place r (omega arith) ∙ take_all r (drop place (bits s)) (rw (length-drop, length_bits s) (omega arith)))

-- the window with the field replaced, by its three parts
pub parts : (y h old n g w t : ℕ) → y ≡ (h * 2 ^ w + old) * 2 ^ t + g → y - old * 2 ^ t + n * 2 ^ t ≡ (h * 2 ^ w + n) * 2 ^ t + g
parts y h old n g w t e = omega (arith, add-mul (h * 2 ^ w) old (2 ^ t), add-mul (h * 2 ^ w) n (2 ^ t))

-- a number by the same three parts
thirds : (y w t : ℕ) → y ≡ (y / 2 ^ t / 2 ^ w * 2 ^ w + y / 2 ^ t % 2 ^ w) * 2 ^ t + y % 2 ^ t
thirds y w t = sym (ap (λ (x : ℕ). x * 2 ^ t + y % 2 ^ t) (split (y / 2 ^ t) w) ∙ split y t)

pub field_le : (y w t : ℕ) → y / 2 ^ t % 2 ^ w * 2 ^ t ≤ y
field_le y w t = omega (arith, thirds y w t, add-mul (y / 2 ^ t / 2 ^ w * 2 ^ w) (y / 2 ^ t % 2 ^ w) (2 ^ t))

pub replaced_lt : (y skip w t n : ℕ) → skip + w + t ≡ 64 → y < 2 ^ 64 → n < 2 ^ w → y - y / 2 ^ t % 2 ^ w * 2 ^ t + n * 2 ^ t < 2 ^ 64
replaced_lt y skip w t n whole small new =
    let e : skip + (t + w) ≡ 64 = omega arith in
    let top : y / 2 ^ t / 2 ^ w < 2 ^ skip = rw (shr-shr y t w) (shr_lt skip (t + w) (subst (λ (k : ℕ). y < 2 ^ k) (sym e) small)) in
    let all : 2 ^ skip * 2 ^ w * 2 ^ t ≡ 2 ^ 64 = rw (← (pow-add 2 skip w), ← (pow-add 2 (skip + w) t), whole) in
    rw (parts y (y / 2 ^ t / 2 ^ w) (y / 2 ^ t % 2 ^ w) n (y % 2 ^ t) w t (thirds y w t))
    (rw all at (digits_lt (digits_lt top new) (mod-lt y (pow_pos t))))

module _ (s : List ℕ) (skip w t n : ℕ) (whole : skip + w + t ≡ 64) (room : skip + w ≤ 8 * length s) (small : n < 2 ^ w) where
  -- the window with the field set
  abbrev new : ℕ
  new = field s 0 64 - field s skip w * 2 ^ t + n * 2 ^ t

  -- the bits after the field
  abbrev later : List Bool
  later = spell t (field s (skip + w) t)

  cut : field s 0 64 ≡ (field s 0 skip * 2 ^ w + field s skip w) * 2 ^ t + field s (skip + w) t
  cut =
      ap (field s 0) (sym whole) ∙ field_add s 0 (skip + w) t
      ∙ ap₂ (λ (x p : ℕ). x * 2 ^ t + field s p t) (field_add s 0 skip w ∙ ap (λ (p : ℕ). field s 0 skip * 2 ^ w + field s p w) (zero-add skip)) (zero-add (skip + w))

  spelled : spell 64 new ≡ take skip (bits s) ++ (spell w n ++ later)
  spelled =
      ap₂ spell (sym whole) (parts (field s 0 64) (field s 0 skip) (field s skip w) n (field s (skip + w) t) w t cut)
      ∙ spell_append (skip + w) t (field s 0 skip * 2 ^ w + n) (field s (skip + w) t) (field_lt s (skip + w) t)
      ∙ ap (λ (l : List Bool). l ++ later) (spell_append skip w (field s 0 skip) n small ∙ ap (λ (l : List Bool). l ++ spell w n) (spell_field s 0 skip (omega arith)))
      ∙ append_assoc (take skip (bits s)) (spell w n) later

  -- what the field set makes of the bits
  abbrev set_bits_lem : List Bool
  set_bits_lem = take skip (bits s) ++ (spell w n ++ drop (skip + w) (bits s))

  -- where the string is as long as the window, the bits after the field are the string's
  long : 64 ≤ 8 * length s → spell 64 new ++ drop 64 (bits s) ≡ set_bits_lem
  long h =
      let tail : later ++ drop 64 (bits s) ≡ drop (skip + w) (bits s) =
      rw (spell_field s (skip + w) t (omega arith), ← whole, ← (drop-drop t (skip + w) (bits s))) (take-append-drop t (drop (skip + w) (bits s))) in
      rw (spelled, append_assoc (take skip (bits s)) (spell w n ++ later) (drop 64 (bits s)), append_assoc (spell w n) later (drop 64 (bits s)), tail)

  -- where it is shorter, they are the string's, and then others past its end
  short : 8 * length s < 64 → (m : List Bool) × (spell 64 new ++ drop 64 (bits s) ≡ set_bits_lem ++ m)
  short h =
      let r : ℕ = 8 * length s - (skip + w) in
      let over : List Bool = spell (t - r) (field s (skip + w + r) (t - r)) in
      let own : List Bool = drop (skip + w) (bits s) in (
        over ++ drop 64 (bits s),
        rw (spelled, spell_past s (skip + w) t r (omega arith) (omega arith), ← (append_assoc (spell w n) own over), ← (append_assoc (take skip (bits s)) (spell w n ++ own) over), append_assoc set_bits_lem over (drop 64 (bits s))),
      )

  -- setting the field is storing the new window
  replaces : set_field s 0 64 new ≡ set_field s skip w n
  unfolding set_field set_bytes set_bits
  replaces = rw (length_spell 64 new, length_spell w n) (go (dec_lt (8 * length s) 64))
    where
      long_enough : 8 * length s ≤ length set_bits_lem
      long_enough = simp (length-append, length_spell, length-drop, length_bits, length-take-le skip (bits s) (rw (length_bits s) (omega arith))) (omega arith)

      go : Dec (8 * length s < 64) → bytes (length s) (spell 64 new ++ drop 64 (bits s)) ≡ bytes (length s) set_bits_lem
      go (yes h) = ap (bytes (length s)) (short h).1 ∙ bytes_cut (length s) set_bits_lem (short h).0 long_enough
      go (no h) = ap (bytes (length s)) (long (omega arith))

-- setting a field is storing the window with it replaced, as code replaces it
pub set_in_window :
    (s : List ℕ) (skip w n : ℕ) → skip + w ≤ 64 → skip + w ≤ 8 * length s → n < 2 ^ w
    → set_field s 0 64 (field s 0 64 - field s 0 64 / 2 ^ (64 - skip - w) % 2 ^ w * 2 ^ (64 - skip - w) + n * 2 ^ (64 - skip - w)) ≡ set_field s skip w n
set_in_window s skip w n inside room small =
    let t : ℕ = 64 - skip - w in
    rw (in_window s 0 skip w t (omega arith), zero-add skip) (replaces s skip w t n (omega arith) room small)
