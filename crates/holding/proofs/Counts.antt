-- How many cells some strips have: in parts, four at a time, and where the strips behind are not used. Assumes nothing.
use Rattle.bits.proofs.Words.{◌≡◌, refl, ap, ◌∙◌, true, List, [], ◌∷◌, ℕ, zero, suc, ◌+◌, ◌-◌, ◌*◌, ◌^◌, ◌≤◌, ◌<◌, arith, eqb, length, get_or, take, drop}
use borrow.Author.Tests.{eqb-true}
use lib.Count.{ones, ones_cat, ones-le}
use lib.Seq.{take-add}
use Rattle.format.specs.Lengths.{total}
use Rattle.holding.specs.Bounds.{every}
use Rattle.format.proofs.Lengths.{total_append}
use Rattle.format.proofs.Sames.{and_true}
use Rattle.holding.specs.Building.{ones_in}
use Rattle.holding.specs.Testing.{four, empty_strips}
use Rattle.holding.proofs.Fours.{four_strips}

-- ---- in parts

pub ones_part : (strips : List ℕ) (n k : ℕ) → ones_in (take (n + k) strips) ≡ ones_in (take n strips) + ones_in (take k (drop n strips))
ones_part strips n k = ap ones_in (take-add n k strips) ∙ total_append ones (take n strips) (take k (drop n strips))

-- ---- strips that are not used have none

ones_empty : (strips : List ℕ) (k : ℕ) → empty_strips strips ≡ true → ones_in (take k strips) ≡ 0
unfolding every total
ones_empty strips zero e = refl
ones_empty [] (suc k) e = refl
ones_empty (strip ∷ strips) (suc k) e =
    let parts = and_true (eqb strip 0) _ e in
    let none : ones strip ≤ 0 = ones-le 0 strip (omega (arith, eqb-true strip 0 parts.0)) in
    omega (arith, ones_empty strips k parts.1)

pub ones_past : (strips : List ℕ) (n m : ℕ) → n ≤ m → empty_strips (drop n strips) ≡ true → ones_in (take m strips) ≡ ones_in (take n strips)
ones_past strips n m past e =
    let split : m ≡ n + (m - n) = omega arith in
    ap (λ (j : ℕ). ones_in (take j strips)) split ∙ ones_part strips n (m - n) ∙ omega (arith, ones_empty (drop n strips) (m - n) e)

-- ---- four at a time

-- four strips of 16 bits as one number have the cells of all
pub ones_four : (strips : List ℕ) (i : ℕ) → i + 4 ≤ length strips → ((k : ℕ) → get_or strips k 0 < 2 ^ 16)
    → ones (four (get_or strips i 0) (get_or strips (i + 1) 0) (get_or strips (i + 2) 0) (get_or strips (i + 3) 0)) ≡ ones_in (take 4 (drop i strips))
unfolding total
ones_four strips i room small =
    let a = get_or strips i 0 in
    let b = get_or strips (i + 1) 0 in
    let c = get_or strips (i + 2) 0 in
    let d = get_or strips (i + 3) 0 in
    rw (four_strips strips i room)
    (omega (arith, ones_cat 16 ((d * 2 ^ 16 + c) * 2 ^ 16 + b) a (small i), ones_cat 16 (d * 2 ^ 16 + c) b (small (i + 1)), ones_cat 16 d c (small (i + 2))))
