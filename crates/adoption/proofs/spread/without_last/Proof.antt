-- `adoption::spread::without_last` meets its contract. Assumes nothing.
use Rattle.bits.proofs.Words.{refl, ◌-◌, arith}
use lib.Bits.{and_le_l}
use Rattle.adoption.proofs.spread.without_last.Statement.{statement}
use Rattle.adoption.proofs.spread.without_last.Tie as tie

pub without_last_spec : {M : Type 1} → statement M
without_last_spec =
    tie.close
    (tie.spec (λ c. (omega (arith, and_le_l c.args.mask (c.args.mask - 1)), omega arith)) (λ c. omega arith)
    (λ c. (refl, and_le_l c.args.mask (c.args.mask - 1))))
