-- A pen over lent bytes: whatever is gathered and set on the way, in the end the bits of all fields stand from its place on. Assumes nothing.
use Rattle.bits.proofs.Words.{◌≡◌, refl, sym, ap, ◌∙◌, Bool, cond, true, false, List, [], ◌∷◌, ◌++◌, ℕ, ◌+◌, ◌-◌, ◌*◌, ◌/◌, ◌%◌, ◌^◌, ◌≤◌, ◌<◌, arith, length, take, drop}
use mathlib.Core.List.{append_assoc, append-nil}
use native.Mathlib.Decide.{dec_lt}
use native.Mathlib.Nat.{lt_of_lt_of_le, mod-lt, mul-mod_left}
use borrow.Author.Tests.{lt-ltb, le-ltb}
use lib.Arith.{digits_lt}
use lib.ListN.{length-append, length-drop, drop_of_length-le}
use lib.Pow.{pow-add, pow_mono, pow_pos, mod-pow-add, shl-shr, shr_lt}
use lib.Seq.{take_all}
use Rattle.bits.proofs.BitLists.{spell_append, spell_cut, spell_split, length_spell}
use Rattle.bits.proofs.Setting.{set_bytes_part, set_bytes_append, length_set_field}
use Rattle.bits.proofs.Windows.{Bytes}
use Rattle.bits.specs.BitLists.{spell, set_field, set_bytes}
use Rattle.pens.specs.declared.pen.Field.{Field}
use Rattle.pens.specs.declared.pen.Pen.{Pen}
use Rattle.pens.specs.Pens.{joins, rest_of, full_word, pushed, set_by, inked_by, pen_after, ink_after, spell_fields, Fine, Fines, none, more, Gathers, Ready}

-- ---- a field set in the part from the byte of its first bit on, and the part back in its place

pub set_part : (bs : List ℕ) (p w v : ℕ) → Bytes bs → p % 8 ≡ 0 → p ≤ 8 * length bs → (new : List ℕ)
    → new ≡ set_field (take (length bs - p / 8) (drop (p / 8) bs)) 0 w v
    → take (p / 8) bs ++ (new ++ drop (length bs - p / 8) (drop (p / 8) bs)) ≡ set_field bs p w v
unfolding set_field
set_part bs p w v small whole room new e =
    let i : ℕ = p / 8 in
    let inside : i ≤ length bs = omega arith in
    let all : take (length bs - i) (drop i bs) ≡ drop i bs = take_all (length bs - i) (drop i bs) (omega (arith, length-drop i bs)) in
    let gone : drop (length bs - i) (drop i bs) ≡ [] = drop_of_length-le (drop i bs) {i = length bs - i} (omega (arith, length-drop i bs)) in
    let back : 8 * i + 0 ≡ p = omega arith in
    rw (gone, append-nil, e, all) (sym (set_bytes_part bs i 0 (spell w v) small inside) ∙ ap (λ (k : ℕ). set_bytes bs k (spell w v)) back)

-- ---- a word of m bits moved up by k, which drops what leaves it

module _ (g j k m : ℕ) (whole : m ≡ j + k) where
  moved_up : g * 2 ^ k % 2 ^ m ≡ g % 2 ^ j * 2 ^ k
  moved_up = rw (whole, mod-pow-add (g * 2 ^ k) j k, shl-shr g k, mul-mod_left g (2 ^ k)) (omega arith)

  -- others behind it
  joined_fits : (v : ℕ) → v < 2 ^ k → g * 2 ^ k % 2 ^ m + v < 2 ^ m
  joined_fits v small =
      let both : g % 2 ^ j * 2 ^ k + v < 2 ^ j * 2 ^ k = digits_lt (mod-lt g (pow_pos j)) small in
      rw (moved_up, whole, pow-add 2 j k) both

  joined_bits : (u l v : ℕ) → j ≡ u + l → v < 2 ^ k → spell (u + k) (g * 2 ^ k % 2 ^ m + v) ≡ spell u g ++ spell k v
  joined_bits u l v some small =
      rw (moved_up, some) (spell_append u k (g % 2 ^ (u + l)) v small ∙ ap (λ (b : List Bool). b ++ spell k v) (spell_cut u l g))

-- ---- one field more

pub first_fine : {f : Field} {fs : List Field} → Fines (f ∷ fs) → Fine f.width f.value
first_fine (more fine fines) = fine

other_fines : {f : Field} {fs : List Field} → Fines (f ∷ fs) → Fines fs
other_fines (more fine fines) = fines

pub length_inked : (p : Pen) (f : Field) (bytes : List ℕ) → length (inked_by p f bytes) ≡ length bytes
unfolding inked_by
length_inked p f bytes = go (joins p f)
  where
    go : (b : Bool) → length (cond b bytes (set_field bytes p.place 64 (full_word p f))) ≡ length bytes
    go true = refl
    go false = length_set_field bytes p.place 64 (full_word p f)

-- where it joins, and where it does not
pub joined : (p : Pen) (f : Field) → p.width + f.width < 64
    → pushed p f ≡ record { place = p.place; width = p.width + f.width; gathered = p.gathered * 2 ^ f.width % 2 ^ 64 + f.value }
unfolding pushed joins
joined p f few = rw (lt-ltb (p.width + f.width) 64 few)

pub apart : (p : Pen) (f : Field) → 64 ≤ p.width + f.width → pushed p f ≡ record { place = p.place + 64; width = rest_of p f; gathered = f.value }
unfolding pushed joins
apart p f many = rw (le-ltb (p.width + f.width) 64 many)

pub joined_ink : (p : Pen) (f : Field) (bytes : List ℕ) → p.width + f.width < 64 → inked_by p f bytes ≡ bytes
unfolding inked_by joins
joined_ink p f bytes few = rw (lt-ltb (p.width + f.width) 64 few)

pub apart_ink : (p : Pen) (f : Field) (bytes : List ℕ) → 64 ≤ p.width + f.width → inked_by p f bytes ≡ set_field bytes p.place 64 (full_word p f)
unfolding inked_by joins
apart_ink p f bytes many = rw (le-ltb (p.width + f.width) 64 many)

module _ {p : Pen} {f : Field} {fs : List Field} {bytes : List ℕ} (r : Ready p (f ∷ fs) bytes) where
  wide : length (spell_fields (f ∷ fs)) ≡ f.width + length (spell_fields fs)
  unfolding spell_fields
  wide = length-append (spell f.width f.value) (spell_fields fs) ∙ ap (λ (n : ℕ). n + length (spell_fields fs)) (length_spell f.width f.value)

  fine : Fine f.width f.value
  fine = first_fine r.fields

  pub narrow_field : f.width ≤ 56
  narrow_field = fine.narrow

  pub sum_fits : p.gathered * 2 ^ f.width % 2 ^ 64 + f.value < 2 ^ 64
  sum_fits = joined_fits p.gathered (64 - f.width) f.width 64 (omega (arith, narrow_field)) f.value fine.small

  -- it is cut where 64 bits are full
  module _ (many : 64 ≤ p.width + f.width) where
    abbrev rest : ℕ
    rest = rest_of p f

    abbrev some : ℕ
    some = 64 - p.width

    both_parts : some + rest ≡ f.width
    both_parts = omega (arith, r.pen.narrow)

    filled : 64 ≡ p.width + some
    filled = omega (arith, r.pen.narrow)

    first_small : f.value / 2 ^ rest < 2 ^ some
    first_small = shr_lt some rest (rw both_parts fine.small)

    pub full_fits : p.gathered * 2 ^ some % 2 ^ 64 + f.value / 2 ^ rest < 2 ^ 64
    full_fits = joined_fits p.gathered p.width some 64 filled (f.value / 2 ^ rest) first_small

    -- the bits that are set and those that are left are all
    cut_bits : spell 64 (full_word p f) ++ spell rest f.value ≡ spell p.width p.gathered ++ spell f.width f.value
    unfolding full_word
    cut_bits =
        let set : spell 64 (full_word p f) ≡ spell p.width p.gathered ++ spell some (f.value / 2 ^ rest) =
        ap (λ (n : ℕ). spell n (full_word p f)) filled ∙ joined_bits p.gathered p.width some 64 filled p.width 0 (f.value / 2 ^ rest) (omega arith) first_small in
        let whole : spell some (f.value / 2 ^ rest) ++ spell rest f.value ≡ spell f.width f.value =
        sym (spell_split some rest f.value) ∙ ap (λ (n : ℕ). spell n f.value) both_parts in
        ap (λ (l : List Bool). l ++ spell rest f.value) set
        ∙ append_assoc (spell p.width p.gathered) (spell some (f.value / 2 ^ rest)) (spell rest f.value)
        ∙ ap (λ (l : List Bool). spell p.width p.gathered ++ l) whole

    pub room_set : p.place + 64 ≤ 8 * length bytes
    room_set = omega (arith, wide, r.room)

  pub ready_next : Ready (pushed p f) fs (inked_by p f bytes)
  ready_next = go (dec_lt (p.width + f.width) 64)
    where
      go : Dec (p.width + f.width < 64) → Ready (pushed p f) fs (inked_by p f bytes)
      go (yes few) =
          rw (joined p f few, joined_ink p f bytes few)
          (record {
            pen = record { narrow = few; word = sum_fits };
            whole = r.whole;
            fields = other_fines r.fields;
            room = omega (arith, wide, r.room);
            near = omega (arith, wide, r.near);
          })
      go (no many) =
          let out : 64 ≤ p.width + f.width = omega arith in
          let word : f.value < 2 ^ 64 = lt_of_lt_of_le fine.small (pow_mono {j = 64} (omega (arith, narrow_field))) in
          rw (apart p f out)
          (record {
            pen = record { narrow = omega (arith, narrow_field, r.pen.narrow); word = word };
            whole = omega (arith, r.whole);
            fields = other_fines r.fields;
            room = omega (arith, wide, r.room, length_inked p f bytes);
            near = omega (arith, wide, r.near);
          })

  one_inked : set_bytes (inked_by p f bytes) (pushed p f).place (spell (pushed p f).width (pushed p f).gathered ++ spell_fields fs)
      ≡ set_bytes bytes p.place (spell p.width p.gathered ++ spell_fields (f ∷ fs))
  unfolding spell_fields set_field
  one_inked = go (dec_lt (p.width + f.width) 64)
    where
      go : Dec (p.width + f.width < 64)
          → set_bytes (inked_by p f bytes) (pushed p f).place (spell (pushed p f).width (pushed p f).gathered ++ spell_fields fs)
          ≡ set_bytes bytes p.place (spell p.width p.gathered ++ (spell f.width f.value ++ spell_fields fs))
      go (yes few) =
          let bits = joined_bits p.gathered (64 - f.width) f.width 64 (omega (arith, narrow_field)) p.width (64 - f.width - p.width) f.value (omega arith) fine.small in
          rw (joined p f few, joined_ink p f bytes few)
          (ap (set_bytes bytes p.place)
          (ap (λ (l : List Bool). l ++ spell_fields fs) bits ∙ append_assoc (spell p.width p.gathered) (spell f.width f.value) (spell_fields fs)))
      go (no few) =
          let many : 64 ≤ p.width + f.width = omega arith in
          let full : List Bool = spell 64 (full_word p f) in
          let left : List Bool = spell (rest_of p f) f.value in
          let long : length full ≡ 64 = length_spell 64 (full_word p f) in
          let all : full ++ (left ++ spell_fields fs) ≡ spell p.width p.gathered ++ (spell f.width f.value ++ spell_fields fs) =
          sym (append_assoc full left (spell_fields fs)) ∙ ap (λ (l : List Bool). l ++ spell_fields fs) (cut_bits many)
          ∙ append_assoc (spell p.width p.gathered) (spell f.width f.value) (spell_fields fs) in
          rw (apart p f many, apart_ink p f bytes many)
          (ap (λ (n : ℕ). set_bytes (set_bytes bytes p.place full) (p.place + n) (left ++ spell_fields fs)) (sym long)
          ∙ set_bytes_append bytes p.place full (omega (arith, long, room_set many)) (left ++ spell_fields fs)
          ∙ ap (set_bytes bytes p.place) all)

-- ---- all fields

pub fields_set : (fs : List Field) (p : Pen) (bytes : List ℕ) → Ready p fs bytes
    → set_by (pen_after p fs) (ink_after p fs bytes) ≡ set_bytes bytes p.place (spell p.width p.gathered ++ spell_fields fs)
unfolding pen_after ink_after set_by set_field spell_fields
fields_set [] p bytes r = rw append-nil
fields_set (f ∷ fs) p bytes r = fields_set fs (pushed p f) (inked_by p f bytes) (ready_next r) ∙ one_inked r

pub pen_append : (fs gs : List Field) (p : Pen) → pen_after p (fs ++ gs) ≡ pen_after (pen_after p fs) gs
unfolding pen_after
pen_append [] gs p = refl
pen_append (f ∷ fs) gs p = pen_append fs gs (pushed p f)

pub ink_append : (fs gs : List Field) (p : Pen) (bytes : List ℕ) → ink_after p (fs ++ gs) bytes ≡ ink_after (pen_after p fs) gs (ink_after p fs bytes)
unfolding pen_after ink_after
ink_append [] gs p bytes = refl
ink_append (f ∷ fs) gs p bytes = ink_append fs gs (pushed p f) (inked_by p f bytes)

pub spell_fields_append : (fs gs : List Field) → spell_fields (fs ++ gs) ≡ spell_fields fs ++ spell_fields gs
unfolding spell_fields
spell_fields_append [] gs = refl
spell_fields_append (f ∷ fs) gs = ap (λ (l : List Bool). spell f.width f.value ++ l) (spell_fields_append fs gs) ∙ sym (append_assoc (spell f.width f.value) (spell_fields fs) (spell_fields gs))

pub fines_append : {fs gs : List Field} → Fines fs → Fines gs → Fines (fs ++ gs)
fines_append none others = others
fines_append (more fine fines) others = more fine (fines_append fines others)

pub length_ink : (fs : List Field) (p : Pen) (bytes : List ℕ) → length (ink_after p fs bytes) ≡ length bytes
unfolding ink_after
length_ink [] p bytes = refl
length_ink (f ∷ fs) p bytes = length_ink fs (pushed p f) (inked_by p f bytes) ∙ length_inked p f bytes

-- some of them, and those behind
pub ready_first : (fs gs : List Field) (p : Pen) (bytes : List ℕ) → Ready p (fs ++ gs) bytes → Ready p fs bytes
ready_first fs gs p bytes r =
    let long : length (spell_fields (fs ++ gs)) ≡ length (spell_fields fs) + length (spell_fields gs) = ap length (spell_fields_append fs gs) ∙ length-append (spell_fields fs) (spell_fields gs) in
    record { pen = r.pen; whole = r.whole; fields = first_fines fs r.fields; room = omega (arith, long, r.room); near = omega (arith, long, r.near) }
  where
    first_fines : (hs : List Field) → Fines (hs ++ gs) → Fines hs
    first_fines [] fines = none
    first_fines (h ∷ hs) (more fine fines) = more fine (first_fines hs fines)

pub ready_behind : (fs gs : List Field) (p : Pen) (bytes : List ℕ) → Ready p (fs ++ gs) bytes → Ready (pen_after p fs) gs (ink_after p fs bytes)
unfolding pen_after ink_after
ready_behind [] gs p bytes r = r
ready_behind (f ∷ fs) gs p bytes r = ready_behind fs gs (pushed p f) (inked_by p f bytes) (ready_next r)

-- a field of no bits changes nothing
pub no_field : (p : Pen) → Gathers p.width p.gathered → (f : Field) → f.width ≡ 0 → f.value ≡ 0 → pushed p f ≡ p
no_field p held f none-wide none-there = joined p f (omega (arith, held.narrow)) ∙ (λ i. record { place = p.place; width = same_width i; gathered = same_number i })
  where
    same_width : p.width + f.width ≡ p.width
    same_width = omega arith

    same_number : p.gathered * 2 ^ f.width % 2 ^ 64 + f.value ≡ p.gathered
    same_number = rw (none-wide, none-there) (omega (arith, held.word))

-- ---- a loop that pushes fields: what all come to is what those that are left come to from here

pub record Inks (p₀ : Pen) (all : List Field) (bytes₀ : List ℕ) (p : Pen) (left : List Field) (bytes : List ℕ) : Type 0 where
  pub pen : pen_after p left ≡ pen_after p₀ all
  pub ink : ink_after p left bytes ≡ ink_after p₀ all bytes₀
  pub ready : Ready p left bytes
  pub same : length bytes ≡ length bytes₀

pub inks_start : {p : Pen} {all : List Field} {bytes : List ℕ} → Ready p all bytes → Inks p all bytes p all bytes
inks_start r = record { pen = refl; ink = refl; ready = r; same = refl }

module _ {p₀ : Pen} {all : List Field} {bytes₀ : List ℕ} {p : Pen} {bytes : List ℕ} where
  -- one field is pushed
  pub inks_field : (f : Field) (left : List Field) → Inks p₀ all bytes₀ p (f ∷ left) bytes → Inks p₀ all bytes₀ (pushed p f) left (inked_by p f bytes)
  unfolding pen_after ink_after
  inks_field f left s = record { pen = s.pen; ink = s.ink; ready = ready_next s.ready; same = length_inked p f bytes ∙ s.same }

  -- some fields are, by a call
  pub inks_call : (some left : List Field) → Inks p₀ all bytes₀ p (some ++ left) bytes → Inks p₀ all bytes₀ (pen_after p some) left (ink_after p some bytes)
  inks_call some left s =
      record {
        pen = sym (pen_append some left p) ∙ s.pen;
        ink = sym (ink_append some left p bytes) ∙ s.ink;
        ready = ready_behind some left p bytes s.ready;
        same = length_ink some p bytes ∙ s.same;
      }

  -- none is left
  pub inks_pen : {left : List Field} → left ≡ [] → Inks p₀ all bytes₀ p left bytes → p ≡ pen_after p₀ all
  unfolding pen_after
  inks_pen gone s = rw gone at s.pen

  pub inks_ink : {left : List Field} → left ≡ [] → Inks p₀ all bytes₀ p left bytes → bytes ≡ ink_after p₀ all bytes₀
  unfolding ink_after
  inks_ink gone s = rw gone at s.ink
