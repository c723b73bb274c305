-- `putting::row::paired` meets its contract. Assumes nothing.
use Rattle.bits.proofs.Words.{arith}
use Rattle.putting.proofs.row.paired.Statement.{statement}
use Rattle.putting.proofs.row.paired.Tie as tie
use Rattle.putting.specs.Putting.{pairs}

returns-then-s : tie.Need-returns-then-s
unfolding pairs
returns-then-s c = rw c.if-s.true

returns : tie.Need-returns
unfolding pairs
returns c = rw c.if-s.false

pub paired_spec : {M : Type 1} → statement M
paired_spec =
    tie.close
    (tie.spec returns-then-s (λ c. let f = c.requires in record { fits = omega (arith, f.third.narrow, f.fourth.narrow) })
    (λ c. let f = c.requires in record { fits = omega (arith, f.third.narrow, f.fourth.narrow, f.fifth.narrow) }) returns)
