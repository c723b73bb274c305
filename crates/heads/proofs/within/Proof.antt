-- `heads::within` meets its contract. Assumes nothing.
use Rattle.bits.proofs.Words.{ap, ◌∙◌, ℕ, ◌+◌, ◌-◌, ◌/◌, ◌%◌, ◌^◌, arith, rules}
use Rattle.bits.proofs.Windows.{in_field}
use Rattle.heads.proofs.within.Statement.{statement}
use Rattle.heads.proofs.within.Tie as tie

returns : tie.Need-returns
returns c =
    let x = c.args in
    let t : ℕ = 64 - (8 + x.first) - x.w in
    λ bs opens. c.cut.ensures ∙ ap (λ (b : ℕ). b / 2 ^ t % 2 ^ x.w) opens.bits ∙ in_field bs x.f.start 56 x.first x.w t (omega (arith, c.requires))

pub within_spec : {M : Type 1} → statement M
within_spec = tie.close (tie.spec (λ c. search rules) (λ c κs. search rules) returns)
