-- `holding::strips_empty::gathered` meets its contract. Assumes nothing.
use Rattle.bits.proofs.Words.{ap, ◌∙◌, Bool, ◌&&◌, ℕ, ◌^◌, ◌<◌, arith, rules, eqb, get_or}
use Rattle.holding.proofs.Fours.{empty_four}
use Rattle.holding.proofs.Noughts.{or_nought}
use Rattle.holding.proofs.strips_empty.gathered.Statement.{statement}
use Rattle.holding.proofs.strips_empty.gathered.Tie as tie

returns : tie.Need-returns
returns c =
    let read = c in
    let x = read.args in
    let thin : (k : ℕ) → get_or x.strips.now k 0 < 2 ^ 16 = λ k. (read.shared_slice_known-5-1.given k).fits in
    let more = ap (λ (n : ℕ). eqb n 0) c.joined.ensures ∙ empty_four x.strips.now x.i (omega arith) thin in
    or_nought x.any c.joined.result ∙ ap (λ (t : Bool). eqb x.any 0 && t) more

pub gathered_spec : {M : Type 1} → statement M
gathered_spec =
    tie.close
    (tie.spec (λ c. search rules) (λ c. search rules) (λ c. search rules) (λ c. search rules) (λ c. search rules) (λ c. search rules)
    (λ c. search rules) (λ c. search rules) (λ c. search rules) (λ c. search rules) (λ c. search rules) (λ c κs. search rules) returns)
