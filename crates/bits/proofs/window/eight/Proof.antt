-- `bits::window::eight` meets its contract. Assumes nothing.
use Rattle.bits.proofs.Words.{arith, rules}
use Rattle.bits.proofs.Windows.{eight_bytes}
use Rattle.bits.proofs.window.eight.Statement.{statement}
use Rattle.bits.proofs.window.eight.Tie as tie

returns : tie.Need-returns
returns c =
    let low = c.before in
    let high = low.before.before.before.before.before in
    let s = high in
    omega (arith, eight_bytes s.args.bytes.now (λ k. (s.shared_slice_known-1.given k).fits) s.args.i, c.join.ensures, low.four-2.ensures, high.four.ensures)

pub eight_spec : {M : Type 1} → statement M
eight_spec =
    tie.close
    (tie.spec (λ c. search rules) (λ c. search rules) (λ c. search rules) (λ c. search rules) (λ c. search rules) (λ c. search rules) (λ c. search rules) (λ c κs. search rules)
    (λ c. search rules) (λ c. search rules) (λ c. search rules) (λ c. search rules) (λ c. search rules) (λ c. search rules) (λ c. search rules) (λ c. search rules) (λ c κs. search rules)
    (λ c κs. search rules) returns)
