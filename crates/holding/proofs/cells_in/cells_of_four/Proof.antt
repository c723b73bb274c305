-- `holding::cells_in::cells_of_four` meets its contract. Assumes nothing.
use Rattle.bits.proofs.Words.{ap, ◌∙◌, ℕ, ◌^◌, ◌<◌, arith, rules, get_or}
use lib.Count.{ones, ones-le}
use Rattle.holding.proofs.Counts.{ones_four}
use Rattle.holding.proofs.cells_in.cells_of_four.Statement.{statement}
use Rattle.holding.proofs.cells_in.cells_of_four.Tie as tie

returns : tie.Need-returns
returns c =
    let read = c in
    let x = read.args in
    let small : (k : ℕ) → get_or x.strips.now k 0 < 2 ^ 16 = λ k. (read.shared_slice_known-5-1.given k).fits in
    let whole = c.count.ensures ∙ ap ones c.joined.ensures in
    (whole ∙ ones_four x.strips.now x.i (omega arith) small, rw c.count.ensures (ones-le 64 c.joined.result c.joined.type_inv))

pub cells_of_four_spec : {M : Type 1} → statement M
cells_of_four_spec =
    tie.close
    (tie.spec (λ c. search rules) (λ c. search rules) (λ c. search rules) (λ c. search rules) (λ c. search rules) (λ c. search rules)
    (λ c. search rules) (λ c. search rules) (λ c. search rules) (λ c. search rules) (λ c. search rules) (λ c κs. search rules) (λ c κs. search rules)
    returns)
