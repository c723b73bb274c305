-- The tests of specs/Same.antt hold of just the values that are the same.
-- Assumes nothing.
use mathlib.Core.Path.{◌≡◌, refl, ap, ap₂}
use mathlib.Core.Bool.{Bool, true, false, beq, ◌&&◌, and-eq-true_iff, false≢true}
use mathlib.Core.List.{List, [], ◌∷◌}
use Prim.Native.Nat.{ℕ}
use lib.Dec.{eqb}
use lib.IntN.{ℤ, pos, negsuc}
use borrow.Author.Tests.{eqb-true, eq-eqb}
use Rattle.format.specs.declared.Head.{Head}
use Rattle.format.specs.Masks.{System, Held, nothing, mask}
use Rattle.format.specs.Same.{same_list, sameℤ, same_head, same_system, same_held}

-- ---- two tests at once

pub and_true : (a b : Bool) → (a && b) ≡ true → (a ≡ true) × (b ≡ true)
and_true a b = (and-eq-true_iff a b).0

pub true_and : {a b : Bool} → a ≡ true → b ≡ true → (a && b) ≡ true
true_and p q = rw (p, q)

-- ---- lists, by a test of their elements

module _ {A : Type 0} (same : A → A → Bool) where
  pub same_list_sound : ((x y : A) → same x y ≡ true → x ≡ y) → (xs ys : List A) → same_list same xs ys ≡ true → xs ≡ ys
  unfolding same_list
  same_list_sound sound [] [] e = refl
  same_list_sound sound [] (y ∷ ys) e = absurd (false≢true e)
  same_list_sound sound (x ∷ xs) [] e = absurd (false≢true e)
  same_list_sound sound (x ∷ xs) (y ∷ ys) e =
      let h = and_true (same x y) (same_list same xs ys) e in
      ap₂ ◌∷◌ (sound x y h.0) (same_list_sound sound xs ys h.1)

  pub same_list_refl : ((x : A) → same x x ≡ true) → (xs : List A) → same_list same xs xs ≡ true
  unfolding same_list
  same_list_refl holds [] = refl
  same_list_refl holds (x ∷ xs) = rw (holds x) (same_list_refl holds xs)

-- ---- bits and numbers

pub same_bit_sound : (a b : Bool) → beq a b ≡ true → a ≡ b
same_bit_sound true true e = refl
same_bit_sound true false e = absurd (false≢true e)
same_bit_sound false true e = absurd (false≢true e)
same_bit_sound false false e = refl

pub same_bit_refl : (b : Bool) → beq b b ≡ true
same_bit_refl true = refl
same_bit_refl false = refl

pub same_bits_sound : (l m : List Bool) → same_list beq l m ≡ true → l ≡ m
same_bits_sound = same_list_sound beq same_bit_sound

pub same_bits_refl : (l : List Bool) → same_list beq l l ≡ true
same_bits_refl = same_list_refl beq same_bit_refl

pub eqb_refl : (n : ℕ) → eqb n n ≡ true
eqb_refl n = eq-eqb n n refl

pub sameℤ_sound : (m n : ℤ) → sameℤ m n ≡ true → m ≡ n
unfolding sameℤ
sameℤ_sound (pos m) (pos n) e = ap pos (eqb-true m n e)
sameℤ_sound (pos m) (negsuc n) e = absurd (false≢true e)
sameℤ_sound (negsuc m) (pos n) e = absurd (false≢true e)
sameℤ_sound (negsuc m) (negsuc n) e = ap negsuc (eqb-true m n e)

pub sameℤ_refl : (n : ℤ) → sameℤ n n ≡ true
unfolding sameℤ
sameℤ_refl (pos n) = eqb_refl n
sameℤ_refl (negsuc n) = eqb_refl n

-- ---- heads, systems and holdings

-- the same number, and what comes after it holds
numbers_same : (m n : ℤ) (rest : Bool) → (sameℤ m n && rest) ≡ true → (m ≡ n) × (rest ≡ true)
numbers_same m n rest e =
    let h = and_true (sameℤ m n) rest e in
    (sameℤ_sound m n h.0, h.1)

pub same_head_sound : (g h : Head) → same_head g h ≡ true → g ≡ h
unfolding same_head
same_head_sound g h e =
    let subtype = numbers_same g.subtype h.subtype _ e in
    let epoch = numbers_same g.epoch h.epoch _ subtype.1 in
    let interval = numbers_same g.interval h.interval _ epoch.1 in
    let indicator = numbers_same g.indicator h.indicator _ interval.1 in
    let iod = numbers_same g.iod h.iod _ indicator.1 in
    let a = numbers_same g.a h.a _ iod.1 in
    let b = numbers_same g.b h.b _ a.1 in
    let c = sameℤ_sound g.c h.c b.1 in
    λ i. record { subtype = subtype.0 i; epoch = epoch.0 i; interval = interval.0 i; indicator = indicator.0 i; iod = iod.0 i; a = a.0 i; b = b.0 i; c = c i }

pub same_head_refl : (h : Head) → same_head h h ≡ true
unfolding same_head
same_head_refl h = simp sameℤ_refl

pub same_system_sound : (r s : System) → same_system r s ≡ true → r ≡ s
unfolding same_system
same_system_sound r s e =
    let id = and_true (eqb r.id s.id) _ e in
    let satellites = and_true (same_list beq r.satellites s.satellites) _ id.1 in
    let signals = and_true (same_list beq r.signals s.signals) _ satellites.1 in
    let flag = and_true (beq r.flag s.flag) _ signals.1 in
    λ i. record {
      id = eqb-true r.id s.id id.0 i;
      satellites = same_bits_sound r.satellites s.satellites satellites.0 i;
      signals = same_bits_sound r.signals s.signals signals.0 i;
      flag = same_bit_sound r.flag s.flag flag.0 i;
      cells = same_bits_sound r.cells s.cells flag.1 i;
    }

pub same_system_refl : (s : System) → same_system s s ≡ true
unfolding same_system
same_system_refl s = simp (eqb_refl, same_bit_refl, same_bits_refl)

pub same_held_sound : (g h : Held) → same_held g h ≡ true → g ≡ h
unfolding same_held
same_held_sound nothing nothing e = refl
same_held_sound nothing (mask n) e = absurd (false≢true e)
same_held_sound (mask m) nothing e = absurd (false≢true e)
same_held_sound (mask m) (mask n) e =
    let iod = and_true (eqb m.iod n.iod) _ e in
    let systems = same_list_sound same_system same_system_sound m.systems n.systems iod.1 in
    λ i. mask (record { iod = eqb-true m.iod n.iod iod.0 i; systems = systems i })

pub same_held_refl : (h : Held) → same_held h h ≡ true
unfolding same_held
same_held_refl nothing = refl
same_held_refl (mask m) = simp (eqb_refl, same_list_refl same_system same_system_refl)

-- two tests each of which holds where the other does
pub same_test : (a b : Bool) → (a ≡ true → b ≡ true) → (b ≡ true → a ≡ true) → a ≡ b
same_test false false f g = refl
same_test false true f g = g refl
same_test true false f g = cc (f refl)
same_test true true f g = refl
