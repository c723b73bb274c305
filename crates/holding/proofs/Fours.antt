-- Four strips at a time, as one number: specs/Testing.antt. Assumes nothing.
use Rattle.bits.proofs.Words.{◌≡◌, refl, ap, ◌∙◌, Bool, true, false, cond, ◌&&◌, List, [], ◌∷◌, ℕ, ◌+◌, ◌*◌, ◌^◌, ◌≤◌, ◌<◌, arith, eqb, length, get_or, take, drop}
use mathlib.Core.Bool as Bools
use native.Mathlib.Nat.{add-zero}
use borrow.Author.Tests.{eqb-true, eq-eqb}
use lib.Bits.{bit_and, and_block, and_lt}
use Rattle.bits.proofs.Lists.{elements, taken}
use Rattle.holding.specs.Bounds.{every}
use Rattle.format.proofs.Sames.{and_true, true_and}
use Rattle.holding.specs.Testing.{four, strip_fits, empty_strips, strips_fit}
use Rattle.format.proofs.Sames.{same_test}

-- ---- the four

pub four_strips : (strips : List ℕ) (i : ℕ) → i + 4 ≤ length strips
    → take 4 (drop i strips) ≡ get_or strips i 0 ∷ get_or strips (i + 1) 0 ∷ get_or strips (i + 2) 0 ∷ get_or strips (i + 3) 0 ∷ []
unfolding elements
four_strips strips i room = rw add-zero at (taken 0 strips i 0 4 (omega arith))

-- ---- tested at once

-- numbers of two parts are the same just where their parts are
eqb_parts : (x y r t : ℕ) → r < 2 ^ 16 → t < 2 ^ 16 → eqb (x * 2 ^ 16 + r) (y * 2 ^ 16 + t) ≡ (eqb r t && eqb x y)
eqb_parts x y r t hr ht =
    same_test (eqb (x * 2 ^ 16 + r) (y * 2 ^ 16 + t)) (eqb r t && eqb x y)
    (λ e. let whole = eqb-true (x * 2 ^ 16 + r) (y * 2 ^ 16 + t) e in true_and (eq-eqb r t (omega arith)) (eq-eqb x y (omega arith)))
    (λ e. let parts = and_true (eqb r t) (eqb x y) e in eq-eqb (x * 2 ^ 16 + r) (y * 2 ^ 16 + t) (omega (arith, eqb-true r t parts.0, eqb-true x y parts.1)))

-- so are four strips
pub eqb_four : (a b c d p q r s : ℕ) → a < 2 ^ 16 → b < 2 ^ 16 → c < 2 ^ 16 → p < 2 ^ 16 → q < 2 ^ 16 → r < 2 ^ 16
    → eqb (four a b c d) (four p q r s) ≡ (eqb a p && (eqb b q && (eqb c r && eqb d s)))
eqb_four a b c d p q r s ha hb hc hp hq hr =
    eqb_parts ((d * 2 ^ 16 + c) * 2 ^ 16 + b) ((s * 2 ^ 16 + r) * 2 ^ 16 + q) a p ha hp
    ∙ ap (λ (t : Bool). eqb a p && t)
    (eqb_parts (d * 2 ^ 16 + c) (s * 2 ^ 16 + r) b q hb hq ∙ ap (λ (t : Bool). eqb b q && t) (eqb_parts d s c r hc hr))

module _ (g : ℕ) (small : g < 2 ^ 16) where
  -- of four strips, the signals that count
  and_four : (a b c d : ℕ) → a < 2 ^ 16 → b < 2 ^ 16 → c < 2 ^ 16
      → bit_and (four a b c d) (four g g g g) ≡ four (bit_and a g) (bit_and b g) (bit_and c g) (bit_and d g)
  and_four a b c d ha hb hc =
      and_block 16 ((d * 2 ^ 16 + c) * 2 ^ 16 + b) ((g * 2 ^ 16 + g) * 2 ^ 16 + g) a g ha small
      ∙ ap (λ (x : ℕ). x * 2 ^ 16 + bit_and a g)
      (and_block 16 (d * 2 ^ 16 + c) (g * 2 ^ 16 + g) b g hb small ∙ ap (λ (x : ℕ). x * 2 ^ 16 + bit_and b g) (and_block 16 d g c g hc small))

  -- four strips as the flag lets them be
  abbrev held : Bool → ℕ → ℕ
  held flag strip = cond flag (bit_and strip g) g

  held_four : (flag : Bool) (a b c d : ℕ) → a < 2 ^ 16 → b < 2 ^ 16 → c < 2 ^ 16
      → cond flag (bit_and (four a b c d) (four g g g g)) (four g g g g) ≡ four (held flag a) (held flag b) (held flag c) (held flag d)
  held_four true a b c d ha hb hc = and_four a b c d ha hb hc
  held_four false a b c d ha hb hc = refl

  held_lt : (flag : Bool) (strip : ℕ) → strip < 2 ^ 16 → held flag strip < 2 ^ 16
  held_lt true strip h = and_lt 16 strip g h small
  held_lt false strip h = small

  pub fit_four : (flag : Bool) (a b c d : ℕ) → a < 2 ^ 16 → b < 2 ^ 16 → c < 2 ^ 16
      → eqb (cond flag (bit_and (four a b c d) (four g g g g)) (four g g g g)) (four a b c d)
      ≡ (eqb (cond flag (bit_and a g) g) a && (eqb (cond flag (bit_and b g) g) b && (eqb (cond flag (bit_and c g) g) c && eqb (cond flag (bit_and d g) g) d)))
  fit_four flag a b c d ha hb hc =
      ap (λ (x : ℕ). eqb x (four a b c d)) (held_four flag a b c d ha hb hc)
      ∙ eqb_four (held flag a) (held flag b) (held flag c) (held flag d) a b c d (held_lt flag a ha) (held_lt flag b hb) (held_lt flag c hc) ha hb hc

-- ---- four of a list

-- four joined are 0 just if none of them is used
pub empty_four : (strips : List ℕ) (i : ℕ) → i + 4 ≤ length strips → ((k : ℕ) → get_or strips k 0 < 2 ^ 16)
    → eqb (four (get_or strips i 0) (get_or strips (i + 1) 0) (get_or strips (i + 2) 0) (get_or strips (i + 3) 0)) 0 ≡ empty_strips (take 4 (drop i strips))
unfolding every
empty_four strips i room thin =
    rw (four_strips strips i room, Bools.and-true)
    (eqb_four (get_or strips i 0) (get_or strips (i + 1) 0) (get_or strips (i + 2) 0) (get_or strips (i + 3) 0) 0 0 0 0 (thin i) (thin (i + 1)) (thin (i + 2)) (omega arith) (omega arith) (omega arith))

-- four joined fit just if they do
pub fit_joined : (flag : Bool) (g : ℕ) (strips : List ℕ) (i : ℕ) → g < 2 ^ 16 → i + 4 ≤ length strips → ((k : ℕ) → get_or strips k 0 < 2 ^ 16)
    → strip_fits flag (four g g g g) (four (get_or strips i 0) (get_or strips (i + 1) 0) (get_or strips (i + 2) 0) (get_or strips (i + 3) 0)) ≡ strips_fit flag g (take 4 (drop i strips))
unfolding strip_fits every
fit_joined flag g strips i small room thin =
    rw (four_strips strips i room, Bools.and-true) (fit_four g small flag _ _ _ (get_or strips (i + 3) 0) (thin i) (thin (i + 1)) (thin (i + 2)))
