-- `holding::same::same` meets its contract: the tests of same_holding in three parts. Assumes nothing.
use Rattle.bits.proofs.Words.{rules}
use Rattle.holding.specs.Outlines.{whole_of}
use Rattle.holding.proofs.Compared.{same_parts}
use Rattle.holding.proofs.same.same.Statement.{statement}
use Rattle.holding.proofs.same.same.Tie as tie

returns : tie.Need-returns
returns c =
    let x = c.args in
    rw (c.systems_same-systems.ensures, c.cells_same.ensures)
    (same_parts (whole_of x.old x.satellites.now x.strips.now) (whole_of x.new x.masks.now x.cells.now))

pub same_spec : {M : Type 1} → statement M
same_spec = tie.close (tie.spec (λ c κs. search rules) (λ c κs. search rules) returns)
