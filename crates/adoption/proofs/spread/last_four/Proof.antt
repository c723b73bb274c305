-- `adoption::spread::last_four` meets its contract. Assumes nothing.
use Rattle.bits.proofs.Words.{arith, rules}
use Rattle.adoption.proofs.Bitwise.{four_out}
use Rattle.adoption.proofs.spread.last_four.Statement.{statement}
use Rattle.adoption.proofs.spread.last_four.Tie as tie

returns : tie.Need-returns
returns c =
    four_out _ _ _ _ _ c.ranges.mask.fits c.without_last-second.ensures.0 c.without_last-third.ensures.0 c.without_last-fourth.ensures.0 c.without_last-rest.ensures.0

pub last_four_spec : {M : Type 1} → statement M
last_four_spec =
    tie.close
    (tie.spec (λ c κs. search rules) (λ c κs. search rules) (λ c κs. search rules) (λ c κs. search rules) (λ c. omega arith) (λ c. omega arith) (λ c. omega arith) (λ c. omega arith)
    (λ c. omega arith) (λ c. omega arith) (λ c. omega arith) (λ c. omega arith) (λ c. omega arith) (λ c. omega arith) (λ c. omega arith) (λ c. omega arith) (λ c. omega arith) (λ c. omega arith) (λ c. omega arith) returns)
