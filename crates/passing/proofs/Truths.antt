-- Bytes that stand for truths: all of them do where their bits together do. Assumes nothing.
use Rattle.std.proofs.Common.{◌≡◌, refl, sym, ◌∙◌, Bool, true, false, ◌&&◌, List, [], ◌∷◌, ℕ, arith, leb, bit_or, fold}
use mathlib.Core.Bool.{and_assoc, and-true}
use borrow.Author.Tests.{leb-true, leb-false, le-leb, lt-leb}
use lib.Bits.{or_lt, or_add_and, and_le_l, and_le_r}
use Rattle.holding.specs.Bounds.{every}
use Rattle.passing.specs.Passing.{truths}

-- of two
pub or_truth : (a b : ℕ) → leb (bit_or a b) 1 ≡ (leb a 1 && leb b 1)
or_truth a b = go (leb a 1) (leb b 1) refl refl
  where
    go : (x y : Bool) → leb a 1 ≡ x → leb b 1 ≡ y → leb (bit_or a b) 1 ≡ (x && y)
    go true true e f = le-leb (bit_or a b) 1 (omega (arith, or_lt 1 a b (omega (arith, leb-true a 1 e)) (omega (arith, leb-true b 1 f))))
    go true false e f = lt-leb (bit_or a b) 1 (omega (arith, leb-false b 1 f, or_add_and a b, and_le_l a b))
    go false y e f = lt-leb (bit_or a b) 1 (omega (arith, leb-false a 1 e, or_add_and a b, and_le_r a b))

-- of some, behind the bits of those before
or_all : (a : ℕ) (bs : List ℕ) → leb (fold bit_or a bs) 1 ≡ (leb a 1 && truths bs)
unfolding every
or_all a [] = sym (and-true (leb a 1))
or_all a (b ∷ bs) = or_all (bit_or a b) bs ∙ rw or_truth (and_assoc (leb a 1) (leb b 1) (truths bs))

pub or_truths : (bs : List ℕ) → leb (fold bit_or 0 bs) 1 ≡ truths bs
or_truths bs = or_all 0 bs
