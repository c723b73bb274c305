-- Numbers gathered by OR, which is 0 just where each of them is. Assumes nothing.
use Rattle.bits.proofs.Words.{◌≡◌, refl, sym, ap, ◌∙◌, Bool, true, false, ◌&&◌, not, ℕ, zero, suc, ◌^◌, ◌<◌, arith, eqb}
use mir.Val.{bool_byte}
use borrow.Author.Tests.{ne_eqb}
use lib.Bits.{bit_or, or_zero_l, or_add_and, and_le_r}
use Rattle.holding.proofs.Tests.{and_assoc, and-sorts}

-- one more is gathered
pub or_nought : (a b : ℕ) → eqb (bit_or a b) 0 ≡ (eqb a 0 && eqb b 0)
or_nought zero b = rw (or_zero_l b)
or_nought (suc a) b =
    let some : 0 < bit_or (suc a) b = omega (arith, or_add_and (suc a) b, and_le_r (suc a) b) in
    rw (ne_eqb (bit_or (suc a) b) 0 (λ e. omega arith), ne_eqb (suc a) 0 (λ e. omega arith))

-- with a test of the others behind
pub gather : (a b : ℕ) (rest : Bool) → (eqb a 0 && (eqb b 0 && rest)) ≡ (eqb (bit_or a b) 0 && rest)
gather a b rest = and_assoc (eqb a 0) (eqb b 0) rest ∙ ap (λ (t : Bool). t && rest) (sym (or_nought a b))

flag_nought : (b : Bool) → eqb (bool_byte b) 0 ≡ not b
flag_nought true = refl
flag_nought false = refl

pub flag_small : (b : Bool) → bool_byte b < 2 ^ 64
flag_small true = omega arith
flag_small false = omega arith

-- a slot is gathered by width
pub gather_slot : (wide half thin id sats signals : ℕ) (flag : Bool)
    → (eqb id 0 && (eqb sats 0 && (eqb signals 0 && (not flag && eqb (bit_or wide (bit_or half thin)) 0))))
    ≡ eqb (bit_or (bit_or wide sats) (bit_or (bit_or half signals) (bit_or thin (bit_or id (bool_byte flag))))) 0
gather_slot wide half thin id sats signals flag = simp (or_nought, flag_nought, and-sorts)
