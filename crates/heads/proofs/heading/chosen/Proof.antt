-- `heads::heading::chosen` meets its contract.
-- Assumes nothing.
use Rattle.bits.proofs.Words.{arith, rules}
use Rattle.heads.proofs.Chosen.{chosen_once, chosen_fits, chosen_twice}
use Rattle.heads.proofs.heading.chosen.Statement.{statement}
use Rattle.heads.proofs.heading.chosen.Tie as tie

overflow_add-result : tie.Need-overflow_add-result
overflow_add-result c =
    let x = c.args in
    record {
      fits = rw (c.read_field-first.ensures, c.read_field-second.ensures, chosen_twice x.bytes.now x.place x.n (omega arith) (omega arith))
          (chosen_fits x.bytes.now x.place x.n (omega arith));
    }

pub chosen_spec : {M : Type 1} → statement M
chosen_spec =
    tie.close
    (tie.spec (λ c κs. search rules) (λ c. search rules) (λ c. search rules)
    (λ c. let x = c.args in rw c.read_field.ensures (chosen_once x.bytes.now x.place x.n (omega arith)))
    (λ c κs. search rules) (λ c. search rules) (λ c. search rules) (λ c κs. search rules) (λ c. search rules) (λ c. search rules) overflow_add-result
    (λ c. let x = c.args in rw (c.read_field-first.ensures, c.read_field-second.ensures) (chosen_twice x.bytes.now x.place x.n (omega arith) (omega arith))))
