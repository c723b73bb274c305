-- `bits::read::cut` meets its contract. Assumes nothing.
use Rattle.bits.proofs.Words.{◌≡◌, ◌∙◌, ℕ, ◌+◌, ◌-◌, ◌*◌, ◌%◌, ◌^◌, arith, rules}
use lib.Pow.{shr-shr}
use Rattle.bits.proofs.Windows.{shifted}
use Rattle.bits.proofs.read.cut.Statement.{statement}
use Rattle.bits.proofs.read.cut.Tie as tie

returns : tie.Need-returns
returns c =
    let y : ℕ = c.args.window in
    let s : ℕ = c.args.skip in
    let w : ℕ = c.args.w in
    let t : ℕ = 64 - s - w in
    let e : 1 + (63 - w) ≡ s + t = omega arith in
    shr-shr (y * 2 ^ s % 2 ^ 64) 1 (63 - w) ∙ rw e (shifted y s w t 64 (omega arith))

pub cut_spec : {M : Type 1} → statement M
cut_spec = tie.close (tie.spec (λ c. search rules) (λ c. search rules) (λ c. search rules) returns)
