-- A selection told satellite by satellite: what the loops over slots and their satellites keep. Assumes nothing.
use Rattle.bits.proofs.Words.{◌≡◌, refl, sym, ap, subst, ◌∙◌, Bool, true, false, List, [], ◌∷◌, ◌++◌, ℕ, zero, suc, ◌/◌, ◌^◌, ◌≤◌, ◌<◌, arith, ltb, length, drop, ℤ}
use native.Mathlib.Nat.{pow-suc}
use borrow.Author.Tests.{ltb-true}
use lib.Count.{count_leading_zeros, leading_of_zero, leading_top, leading_unique}
use lib.ListN.{length-append}
use lib.Seq.{drop-cons}
use Rattle.format.proofs.Sames.{and_true}
use Rattle.format.specs.Masks.{Satellite}
use Rattle.putting.specs.declared.marks.Told.{Told}
use Rattle.putting.specs.Marking.{owns_of, has_row, told_by, told_after, nth, own_at, owns_from, Covers, Tells}

-- ---- one satellite

-- one that has a row: a row is left
pub row_left : (numbers : List ℤ) (at own : ℕ) (s : Satellite) → has_row numbers at own s ≡ true → at < length numbers
unfolding has_row
row_left numbers at own s there = ltb-true at (length numbers) (and_true (ltb at (length numbers)) _ (and_true (ltb 0 own) _ there).1).0

pub tells_next : {numbers : List ℤ} {t : Told} (b : Bool) (own : ℕ) → Tells numbers t → Tells numbers (told_by b own t)
tells_next true own k = record { whole = k.whole; place = omega (arith, k.place); small = omega (arith, k.small, k.room); room = omega (arith, k.room) }
tells_next false own k = record { whole = k.whole; place = k.place; small = k.small; room = omega (arith, k.room) }

pub bit_next : (b : Bool) (own : ℕ) (t : Told) → (told_by b own t).next ≡ t.next / 2
bit_next true own t = refl
bit_next false own t = refl

-- ---- its place, by its bit

bit_left : (x : ℕ) → count_leading_zeros 64 x < 64 → 0 < x
bit_left zero inside = absurd (omega (arith, inside, leading_of_zero 64))
bit_left (suc x) inside = omega arith

-- the next bit is that of the next place
bit_down : (x : ℕ) → count_leading_zeros 64 x < 64 → x < 2 ^ 64 → count_leading_zeros 64 (x / 2) ≡ suc (count_leading_zeros 64 x)
bit_down x inside small =
    let top = leading_top 64 x (bit_left x inside) small in
    sym (leading_unique 64 (x / 2) (suc (count_leading_zeros 64 x)) top.0 (omega (arith, top.1)) (omega (arith, top.3, pow-suc 2 top.0)) (omega (arith, top.2)))

-- so the first strip from here is its own, and the others are those from the next place on
owns_next : (cells : Bool) (strips : List ℕ) (x : ℕ) (s : Satellite) (ss : List Satellite) → count_leading_zeros 64 x < 64 → x < 2 ^ 64 → count_leading_zeros 64 x < length strips
    → owns_of cells (drop (count_leading_zeros 64 x) strips) (s ∷ ss) ≡ own_at cells strips x ∷ owns_of cells (drop (count_leading_zeros 64 (x / 2)) strips) ss
unfolding owns_of own_at
owns_next true strips x s ss inside small striped = rw (drop-cons strips (count_leading_zeros 64 x) 0 striped, bit_down x inside small)
owns_next false strips x s ss inside small striped = refl

-- ---- a loop over satellites

-- what all satellites come to is what those that are left come to from here
pub record Telling (numbers : List ℤ) (cells : Bool) (strips : List ℕ) (all : Told) (left : List Satellite) (t : Told) : Type 0 where
  pub tells : Tells numbers t
  pub covers : Covers strips t left
  pub same : told_after numbers (owns_from cells strips t left) left t ≡ all

pub telling_start : {numbers : List ℤ} {strips : List ℕ} {t : Told} (cells : Bool) (sats : List Satellite) → Tells numbers t → Covers strips t sats
    → Telling numbers cells strips (told_after numbers (owns_from cells strips t sats) sats t) sats t
telling_start cells sats k c = record { tells = k; covers = c; same = refl }

-- from the first of all, whose bit is the highest
pub telling_begin : {numbers : List ℤ} {strips : List ℕ} {t : Told} (cells : Bool) (sats : List Satellite) → Tells numbers t → t.next ≡ 2 ^ 63
    → length sats ≤ 64 → length sats ≤ length strips → Telling numbers cells strips (told_after numbers (owns_of cells strips sats) sats t) sats t
telling_begin {numbers} {strips} {t} cells sats k bit few striped =
    let first : nth t ≡ 0 = ap (count_leading_zeros 64) bit ∙ sym (leading_unique 64 (2 ^ 63) 0 64 refl (omega arith) (omega arith)) in
    record {
      tells = k;
      covers = record { few = omega (arith, first); striped = omega (arith, first) };
      same = ap (λ (i : ℕ). told_after numbers (owns_of cells (drop i strips) sats) sats t) first;
    }

module _ {numbers : List ℤ} {strips : List ℕ} {t : Told} {s : Satellite} {ss : List Satellite} (cells : Bool) (k : Tells numbers t) (c : Covers strips t (s ∷ ss)) where
  abbrev own : ℕ
  own = own_at cells strips t.next

  abbrev here : Bool
  here = has_row numbers t.at own s

  after_next : told_after numbers (owns_from cells strips t (s ∷ ss)) (s ∷ ss) t ≡ told_after numbers (owns_from cells strips (told_by here own t) ss) ss (told_by here own t)
  unfolding told_after
  after_next =
      ap (λ (ns : List ℕ). told_after numbers ns (s ∷ ss) t)
      (owns_next cells strips t.next s ss (omega (arith, c.few)) (omega (arith, k.room)) (omega (arith, c.striped)))
      ∙ ap (λ (x : ℕ). told_after numbers (owns_of cells (drop (count_leading_zeros 64 x) strips) ss) ss (told_by here own t)) (sym (bit_next here own t))

  covers_next : Covers strips (told_by here own t) ss
  covers_next =
      let next : nth (told_by here own t) ≡ suc (nth t) = ap (count_leading_zeros 64) (bit_next here own t) ∙ bit_down t.next (omega (arith, c.few)) (omega (arith, k.room)) in
      record { few = omega (arith, next, c.few); striped = omega (arith, next, c.striped) }

covers_first : {strips : List ℕ} {t : Told} (xs ys : List Satellite) → Covers strips t (xs ++ ys) → Covers strips t xs
covers_first xs ys c = record { few = omega (arith, c.few, length-append xs ys); striped = omega (arith, c.striped, length-append xs ys) }

module _ {numbers : List ℤ} {cells : Bool} {strips : List ℕ} {all : Told} where
  telling_first : {s : Satellite} {ss : List Satellite} {t : Told} → Telling numbers cells strips all (s ∷ ss) t
      → let own = own_at cells strips t.next in Telling numbers cells strips all ss (told_by (has_row numbers t.at own s) own t)
  telling_first {s} {t = t} g =
      let own : ℕ = own_at cells strips t.next in
      record {
        tells = tells_next (has_row numbers t.at own s) own g.tells;
        covers = covers_next cells g.tells g.covers;
        same = sym (after_next cells g.tells g.covers) ∙ g.same;
      }

  telling_all : {t : Told} (xs ys : List Satellite) → Telling numbers cells strips all (xs ++ ys) t
      → Telling numbers cells strips all ys (told_after numbers (owns_from cells strips t xs) xs t)
  unfolding told_after
  telling_all [] ys g = g
  telling_all {t = t} (x ∷ xs) ys g =
      let own : ℕ = own_at cells strips t.next in
      subst (λ (u : Told). Telling numbers cells strips all ys u) (sym (after_next cells g.tells (covers_first (x ∷ xs) ys g.covers)))
      (telling_all {t = told_by (has_row numbers t.at own x) own t} xs ys (telling_first g))

module _ {numbers : List ℤ} {cells : Bool} {strips : List ℕ} {all : Told} {left : List Satellite} {t : Told} (g : Telling numbers cells strips all left t) where
  -- one satellite
  pub telling_next : (s : Satellite) (ss : List Satellite) → left ≡ s ∷ ss
      → let own = own_at cells strips t.next in Telling numbers cells strips all ss (told_by (has_row numbers t.at own s) own t)
  telling_next s ss e = telling_first (subst (λ (l : List Satellite). Telling numbers cells strips all l t) e g)

  -- those of a slot, by a call
  pub telling_slot : (xs ys : List Satellite) → left ≡ xs ++ ys → Covers strips t xs
  telling_slot xs ys e = covers_first xs ys (subst (λ (l : List Satellite). Covers strips t l) e g.covers)

  pub telling_call : (xs ys : List Satellite) → left ≡ xs ++ ys → Telling numbers cells strips all ys (told_after numbers (owns_from cells strips t xs) xs t)
  telling_call xs ys e = telling_all xs ys (subst (λ (l : List Satellite). Telling numbers cells strips all l t) e g)

  -- none is left
  pub telling_end : left ≡ [] → t ≡ all
  unfolding told_after
  telling_end none = ap (λ (l : List Satellite). told_after numbers (owns_from cells strips t l) l t) (sym none) ∙ g.same
