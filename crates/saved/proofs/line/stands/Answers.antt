use Rattle.std.proofs.Common.{◌≡◌, ◌∙◌, sym, List, [], ◌∷◌, ◌++◌, ℕ, ◌+◌, ◌<◌, arith, length, drop, get_or}
use native.Mathlib.Nat.{add-zero}
use native.Mathlib.Numerals.{add-one}
use borrow.Author.Tests.{eq-eqb, ne_eqb}
use lib.ListN.{drop_of_length-le}
use lib.Seq.{drop-cons}
use Rattle.saved.specs.Lines.{stands_at}
use Rattle.saved.proofs.Compared.{all_stands, part_stands, part_differs, all_stood}
use Rattle.saved.proofs.line.stands.Goals as goal

-- the next character comes first
next : (text : List ℕ) (i : ℕ) → i < length text → drop i text ≡ (get_or text i 0 ∷ []) ++ drop (i + 1) text
next text i more = drop-cons text i 0 more ∙ rw (add-one i)

pub loop-i-init : goal.loop-i-init
loop-i-init c = rw add-zero (all_stands c.args.line.now c.args.at c.args.text.now)

pub returns-then-line-at : goal.returns-then-line-at
unfolding stands_at
returns-then-line-at c =
    let text = c.args.text.now in
    let i = c.loop-i.i in
    let other = ne_eqb (get_or text i 0) (get_or c.args.line.now (c.args.at + i) 0) (λ e. omega arith) in
    sym (part_differs c.loop-i.invariant (get_or text i 0 ∷ []) (drop (i + 1) text) (next text i (omega arith)) (rw other))

pub loop-i-preserved : goal.loop-i-preserved
unfolding stands_at
loop-i-preserved c =
    let text = c.args.text.now in
    let i = c.loop-i.i in
    let here = eq-eqb (get_or text i 0) (get_or c.args.line.now (c.args.at + i) 0) (omega arith) in
    part_stands c.loop-i.invariant (get_or text i 0 ∷ []) (drop (i + 1) text) (next text i (omega arith)) (rw here) (omega arith)

pub returns : goal.returns
returns c = sym (all_stood c.loop-i.invariant (drop_of_length-le c.args.text.now (omega arith)))
