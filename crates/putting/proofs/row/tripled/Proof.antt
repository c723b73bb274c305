-- `putting::row::tripled` meets its contract. Assumes nothing.
use borrow.Author.Tests.{ne_eqb, lt-ltb, le-ltb}
use Rattle.putting.proofs.row.tripled.Statement.{statement}
use Rattle.putting.proofs.row.tripled.Tie as tie
use Rattle.putting.specs.Putting.{triples}

returns-then-s-gt0 : tie.Need-returns-then-s-gt0
unfolding triples
returns-then-s-gt0 c = rw (lt-ltb _ _ c.if-s-gt0.true)

returns-then-s-eq0 : tie.Need-returns-then-s-eq0
unfolding triples
returns-then-s-eq0 c = rw (le-ltb _ _ c.if-s-gt0.false, c.if-s-eq0.true)

returns : tie.Need-returns
unfolding triples
returns c = rw (le-ltb _ _ c.if-s-gt0.false, ne_eqb _ _ c.if-s-eq0.false)

pub tripled_spec : {M : Type 1} → statement M
tripled_spec = tie.close (tie.spec returns-then-s-gt0 returns-then-s-eq0 returns)
