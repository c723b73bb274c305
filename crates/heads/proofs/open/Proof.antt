-- `heads::open` meets its contract: each return is one of the ways in which the opening ends. Assumes nothing.
use Rattle.bits.proofs.Words.{◌≡◌, ap, ◌∙◌, List, ℕ, ◌/◌, arith, rules}
use native.Mathlib.Nat.{add-zero}
use borrow.Author.Tests.{eq-eqb, ne_eqb}
use Rattle.bits.specs.Places.{field}
use Rattle.format.proofs.Ends.{number_cut}
use Rattle.format.specs.Table.{opening}
use Rattle.heads.specs.Fronts.{Opens}
use Rattle.heads.specs.Heads.{opening_by}
use Rattle.heads.proofs.Runs.{number_end, type_cut, type_end}
use Rattle.heads.proofs.open.Statement.{statement}
use Rattle.heads.proofs.open.Tie as tie

-- number and sub type
both : (c : tie.After-within-both) {bs : List ℕ} → Opens bs c.args.f → c.within-both.result ≡ field bs c.args.f.start 16
both c {bs} opens = c.within-both.ensures bs opens ∙ ap (λ (p : ℕ). field bs p 16) (add-zero _)

returns-then-left-lt-OPENING : tie.Need-returns-then-left-lt-OPENING
unfolding opening_by
returns-then-left-lt-OPENING c =
    let r = c.before.before in
    λ bs opens.
    let at = opens.within in
    rw (number_end at (both r opens) (omega arith), eq-eqb (r.within-both.result / 16) 4073 c.if-both-ne-MESSAGE.false, type_cut at (both r opens) (omega arith) (omega arith))

returns : tie.Need-returns
unfolding opening_by
returns c =
    let r = c.before.before in
    λ bs opens.
    let at = opens.within in
    rw (number_end at (both r opens) (omega arith), eq-eqb (r.within-both.result / 16) 4073 c.if-both-ne-MESSAGE.false, type_end at (both r opens) (omega arith))

pub open_spec : {M : Type 1} → statement M
unfolding opening_by opening
open_spec =
    tie.close
    (tie.spec (λ c. search rules) (λ c. search rules) (λ c bs opens. rw (number_cut opens.within 12 _ c.if-left-lt-NUMBER.true)) (λ c κs. search rules)
    (λ c. let r = c.before in λ bs opens. rw (number_end opens.within (both r opens) (omega arith), ne_eqb (r.within-both.result / 16) 4073 c.if-both-ne-MESSAGE.true))
    (λ c. search rules) returns-then-left-lt-OPENING returns)
