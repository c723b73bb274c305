-- The first bits of a selection's word in two fields. Assumes nothing.
use Rattle.bits.proofs.Words.{◌≡◌, refl, sym, ap, ap₂, ◌∙◌, List, [], ◌∷◌, ℕ, ◌+◌, ◌-◌, ◌*◌, ◌/◌, ◌%◌, ◌^◌, ◌≤◌, ◌<◌, arith}
use mathlib.Core.List.{append-nil}
use native.Mathlib.Decide.{dec_le}
use native.Mathlib.Nat.{mod-lt, mul_assoc, mul-add-div_right, div-one}
use Prim.Native.Nat.{min}
use lib.Pow.{pow_pos, pow-add, shr_lt, shr-shr, split}
use Rattle.bits.proofs.BitLists.{spell_append}
use Rattle.bits.specs.BitLists.{spell}
use Rattle.pens.specs.declared.pen.Field.{Field}
use Rattle.pens.specs.declared.pen.Pen.{Pen}
use Rattle.putting.specs.Marking.{top_field, selection_fields}
use Rattle.pens.specs.Pens.{pushed, inked_by, pen_after, ink_after, spell_fields, Fine, Fines, none, more, Ready}
use Rattle.pens.proofs.Pens.{ready_next, ready_first, no_field, joined_ink}

-- ---- they are numbers of so many bits

top_fine : (half width : ℕ) → half < 2 ^ 32 → width ≤ 32 → Fine (top_field half width).width (top_field half width).value
top_fine half width small few =
    let all : 32 ≡ width + (32 - width) = omega arith in
    record { narrow = omega arith; small = shr_lt width (32 - width) (rw (← all) small) }

pub selection_fines : (chosen n : ℕ) → chosen < 2 ^ 64 → n ≤ 64 → Fines (selection_fields chosen n)
unfolding selection_fields
selection_fines chosen n small few =
    more (top_fine (chosen / 2 ^ 32) (min n 32) (omega arith) (omega arith)) (more (top_fine (chosen % 2 ^ 32) (n - min n 32) (mod-lt chosen (omega arith)) (omega arith)) none)

-- ---- their bits

-- a number's first part, and the first bits of its second
high_bits : (c w z : ℕ) → w + z ≡ 32 → c / 2 ^ 32 * 2 ^ w + c % 2 ^ 32 / 2 ^ z ≡ c / 2 ^ z
high_bits c w z all =
    let whole : c / 2 ^ 32 * 2 ^ w * 2 ^ z ≡ c / 2 ^ 32 * 2 ^ 32 = mul_assoc (c / 2 ^ 32) (2 ^ w) (2 ^ z) ∙ ap (λ (x : ℕ). c / 2 ^ 32 * x) (sym (pow-add 2 w z) ∙ ap (λ (k : ℕ). 2 ^ k) all) in
    sym (mul-add-div_right (pow_pos z) (c / 2 ^ 32 * 2 ^ w) (c % 2 ^ 32))
    ∙ ap (λ (x : ℕ). (x + c % 2 ^ 32) / 2 ^ z) whole
    ∙ ap (λ (x : ℕ). x / 2 ^ z) (split c 32)

no_bits : (x : ℕ) → spell 0 x ≡ []
unfolding spell
no_bits x = refl

-- all in the first half, or that half and some of the second
in_one : (c n : ℕ) → n ≤ 32 → spell_fields (top_field (c / 2 ^ 32) n ∷ top_field (c % 2 ^ 32) 0 ∷ []) ≡ spell n (c / 2 ^ (64 - n))
unfolding spell_fields
in_one c n short =
    let down : 32 + (32 - n) ≡ 64 - n = omega arith in
    rw (no_bits (c % 2 ^ 32 / 2 ^ 32), append-nil) (ap (spell n) (shr-shr c 32 (32 - n) ∙ ap (λ (k : ℕ). c / 2 ^ k) down))

in_both : (c w : ℕ) → w ≤ 32 → spell_fields (top_field (c / 2 ^ 32) 32 ∷ top_field (c % 2 ^ 32) w ∷ []) ≡ spell (32 + w) (c / 2 ^ (32 - w))
unfolding spell_fields
in_both c w few =
    let all : w + (32 - w) ≡ 32 = omega arith in
    let low : c % 2 ^ 32 / 2 ^ (32 - w) < 2 ^ w = shr_lt w (32 - w) (rw all (mod-lt c (omega arith))) in
    rw (append-nil (spell w (c % 2 ^ 32 / 2 ^ (32 - w))), div-one (c / 2 ^ 32))
    (sym (spell_append 32 w (c / 2 ^ 32) (c % 2 ^ 32 / 2 ^ (32 - w)) low) ∙ ap (spell (32 + w)) (high_bits c w (32 - w) all))

pub selection_spelled : (chosen n : ℕ) → n ≤ 64 → spell_fields (selection_fields chosen n) ≡ spell n (chosen / 2 ^ (64 - n))
unfolding selection_fields
selection_spelled chosen n few = go (dec_le n 32)
  where
    go : Dec (n ≤ 32) → spell_fields (top_field (chosen / 2 ^ 32) (min n 32) ∷ top_field (chosen % 2 ^ 32) (n - min n 32) ∷ []) ≡ spell n (chosen / 2 ^ (64 - n))
    go (yes short) =
        let all : min n 32 ≡ n = omega arith in
        let rest : n - n ≡ 0 = omega arith in
        rw (all, rest) (in_one chosen n short)
    go (no long) =
        let first : min n 32 ≡ 32 = omega arith in
        let both : 32 + (n - 32) ≡ n = omega arith in
        let down : 32 - (n - 32) ≡ 64 - n = omega arith in
        rw first (in_both chosen (n - 32) (omega arith) ∙ ap₂ (λ (k d : ℕ). spell k (chosen / 2 ^ d)) both down)

-- ---- two fields are pushed, one after the other

module _ {pen : Pen} {a b : Field} {bytes : List ℕ} (r : Ready pen (a ∷ b ∷ []) bytes) {f : Field} (first : f ≡ a) where
  pub first_ready : Ready pen (f ∷ []) bytes
  first_ready = rw first (ready_first (a ∷ []) (b ∷ []) pen bytes r)

  module _ {p : Pen} {ink : List ℕ} {g : Field} (put : p ≡ pushed pen f) (inked : ink ≡ inked_by pen f bytes) (second : g ≡ b) where
    pub second_ready : Ready p (g ∷ []) ink
    second_ready = rw (put, inked, first, second) (ready_next r)

    pub both_put : {q : Pen} → q ≡ pushed p g → q ≡ pen_after pen (a ∷ b ∷ [])
    unfolding pen_after
    both_put e = e ∙ rw (put, first, second)

    pub both_inked : {last : List ℕ} → last ≡ inked_by p g ink → last ≡ ink_after pen (a ∷ b ∷ []) bytes
    unfolding ink_after
    both_inked e = e ∙ rw (put, inked, first, second)

  -- the second has no bits, and only the first is
  module _ {p : Pen} {ink : List ℕ} (put : p ≡ pushed pen f) (inked : ink ≡ inked_by pen f bytes) (none-wide : b.width ≡ 0) (none-there : b.value ≡ 0) where
    pub one_put : p ≡ pen_after pen (a ∷ b ∷ [])
    unfolding pen_after
    one_put = put ∙ rw first (sym (no_field (pushed pen a) (ready_next r).pen b none-wide none-there))

    pub one_inked : ink ≡ ink_after pen (a ∷ b ∷ []) bytes
    unfolding ink_after
    one_inked = inked ∙ rw first (sym (joined_ink (pushed pen a) b (inked_by pen a bytes) (omega (arith, (ready_next r).pen.narrow))))

-- neither has bits, and none is
pub none_put : {pen : Pen} {a b : Field} {bytes : List ℕ} → Ready pen (a ∷ b ∷ []) bytes → a.width ≡ 0 → a.value ≡ 0 → b.width ≡ 0 → b.value ≡ 0
    → (pen ≡ pen_after pen (a ∷ b ∷ [])) × (bytes ≡ ink_after pen (a ∷ b ∷ []) bytes)
none_put {pen} {a} {b} {bytes} r first-wide first_there none-wide none-there =
    let stays : pen ≡ pushed pen a = sym (no_field pen r.pen a first-wide first_there) in
    let ink : bytes ≡ inked_by pen a bytes = sym (joined_ink pen a bytes (omega (arith, r.pen.narrow))) in
    (one_put r refl stays ink none-wide none-there, one_inked r refl stays ink none-wide none-there)

-- none are left of a word of 32 bits
pub none_left : (chosen n : ℕ) → n ≤ 32 → chosen % 2 ^ 32 / 2 ^ (32 - (n - min n 32)) ≡ 0
none_left chosen n short =
    let gone : n - min n 32 ≡ 0 = omega arith in
    rw gone (omega arith)
