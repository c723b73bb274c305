use Rattle.bits.proofs.Words.{◌≡◌, refl, sym, ap, ◌∙◌, Bool, true, false, not, ◌&&◌, List, ◌∷◌, ℕ, zero, suc, ◌*◌, ◌%◌, ◌^◌, ◌<◌, add-one, arith, leb, ltb, eqb, length, get_or, drop}
use borrow.Author.Tests.{leb-true, leb-false, lt-ltb, ne_eqb}
use lib.Seq.{drop-cons}
use Rattle.bits.specs.BitLists.{spell}
use Rattle.format.specs.Masks.{pick}
use Rattle.table.specs.Bodies.{all_set}
use Rattle.body.proofs.Selected.{pick_set, pick_clear, pick_over}
use Rattle.body.proofs.cells.celled.Goals as goal

-- what the first of some strips tells, and those behind it
first_tells : (marks x : ℕ) (xs : List ℕ) → marks < 2 ^ 64 → all_set (pick (spell 64 marks) (x ∷ xs)) ≡ (not (leb (2 ^ 63) marks && eqb x 0) && all_set (pick (spell 64 (marks * 2 ^ 1 % 2 ^ 64)) xs))
unfolding all_set
first_tells marks x xs small = go (leb (2 ^ 63) marks) refl
  where
    some : (n : ℕ) (rest : Bool) → (ltb 0 n && rest) ≡ (not (true && eqb n 0) && rest)
    some zero rest = refl
    some (suc n) rest = rw (lt-ltb 0 (suc n) (omega arith), ne_eqb (suc n) 0 (λ e. omega arith))

    go : (b : Bool) → leb (2 ^ 63) marks ≡ b → all_set (pick (spell 64 marks) (x ∷ xs)) ≡ (not (b && eqb x 0) && all_set (pick (spell 64 (marks * 2 ^ 1 % 2 ^ 64)) xs))
    go true e = ap all_set (pick_set marks x xs (leb-true (2 ^ 63) marks e) small) ∙ some x _
    go false e = ap all_set (pick_clear marks x xs (leb-false (2 ^ 63) marks e))

-- what those from the i-th on tell
abbrev from : List ℕ → ℕ → ℕ → Bool
from strips marks i = all_set (pick (spell 64 marks) (drop i strips))

next_tells : (strips : List ℕ) (marks i : ℕ) {b : Bool} → i < length strips → marks < 2 ^ 64 → (leb (2 ^ 63) marks && eqb (get_or strips i 0) 0) ≡ b
    → from strips marks i ≡ (not b && from strips (marks * 2 ^ 1 % 2 ^ 64) (suc i))
next_tells strips marks i inside small e =
    ap (λ (l : List ℕ). all_set (pick (spell 64 marks) l)) (drop-cons strips i 0 inside)
    ∙ first_tells marks (get_or strips i 0) (drop (suc i) strips) small
    ∙ ap (λ (b : Bool). not b && from strips (marks * 2 ^ 1 % 2 ^ 64) (suc i)) e

pub returns-then-lacking : goal.returns-then-lacking
returns-then-lacking c =
    let l = c.loop-strip in
    sym (sym l.invariant ∙ next_tells c.args.strips.now l.marks l.strip-index c.loop-strip-test.true l.auto.marks-fits.fits (sym c.lacking.ensures ∙ c.if-lacking.true))

pub loop-strip-preserved : goal.loop-strip-preserved
loop-strip-preserved c =
    let l = c.loop-strip in
    rw (add-one l.strip-index) (sym (next_tells c.args.strips.now l.marks l.strip-index c.loop-strip-test.true l.auto.marks-fits.fits (sym c.lacking.ensures ∙ c.if-lacking.false)) ∙ l.invariant)

pub returns : goal.returns
unfolding all_set
returns c =
    let l = c.loop-strip in
    sym (sym l.invariant ∙ ap all_set (pick_over l.marks l.strip-index c.args.strips.now c.loop-strip-test.false))
