-- `saved::systems::cell_long` meets its contract. Assumes nothing.
use native.Mathlib.Omega.{arith}
use borrow.Author.Rules.{rules}
use borrow.Author.Tests.{eq-eqb, ne_eqb}
use Rattle.saved.proofs.systems.cell_long.Statement.{statement}
use Rattle.saved.proofs.systems.cell_long.Tie as tie

returns-then-n-eq0 : tie.Need-returns-then-n-eq0
returns-then-n-eq0 c = rw (eq-eqb c.args.n 0 c.if-n-eq0.true) (omega arith, omega arith)

returns : tie.Need-returns
returns c = rw (ne_eqb c.args.n 0 c.if-n-eq0.false) (omega arith, omega arith)

pub cell_long_spec : {M : Type 1} → statement M
cell_long_spec = tie.close (tie.spec returns-then-n-eq0 (λ c. search rules) returns)
