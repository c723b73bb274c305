-- `heads::taken` meets its contract. Assumes nothing.
use Rattle.bits.proofs.Words.{sym, ap, ◌∙◌, ℕ, arith, rules}
use Rattle.std.specs.Prelude.{Ok, Err}
use Rattle.bits.proofs.Short.{taken_whole, taken_short}
use Rattle.heads.proofs.taken.Statement.{statement}
use Rattle.heads.proofs.taken.Tie as tie

pub taken_spec : {M : Type 1} → statement M
taken_spec =
    tie.close
    (tie.spec (λ c. search rules) (λ c. search rules) (λ c. search rules) (λ c. search rules)
    (λ c bs opens. ap (λ (m : ℕ). Err (record { missing = m })) (omega arith) ∙ sym (taken_short bs _ _ _ (omega arith))) (λ c κs. search rules)
    (λ c bs opens. ap Ok (c.within.ensures bs opens) ∙ sym (taken_whole bs _ _ _ (omega arith))))
