-- `host_write::number_at` meets its contract. Assumes nothing.
use Rattle.bits.proofs.Words.{arith, rules, get_or, pos}
use mir.Facts.{to_z-of_z}
use Rattle.host_write.proofs.HandedWrites.{lent_number, no_number}
use Rattle.host_write.proofs.number_at.Statement.{statement}
use Rattle.host_write.proofs.number_at.Tie as tie

returns-then-i-numbers : tie.Need-returns-then-i-numbers
returns-then-i-numbers c =
    let x = c.args in
    rw (to_z-of_z {z = get_or x.numbers.now x.i (pos 0)} (record { sfits = c.result-1.given })) (lent_number x.numbers.now x.i (omega (arith, c.if-i-numbers.true)) (pos 0))

returns : tie.Need-returns
returns c = no_number c.args.numbers.now c.args.i (omega (arith, c.if-i-numbers.false))

pub number_at_spec : {M : Type 1} → statement M
number_at_spec = tie.close (tie.spec (λ c. search rules) (λ c. search rules) returns-then-i-numbers returns)
