-- `rows::shapes::iode` meets its contract. Assumes nothing.
use borrow.Author.Tests.{eq-eqb, ne_eqb}
use Rattle.format.specs.Messages.{iode_width}
use Rattle.rows.proofs.shapes.iode.Statement.{statement}
use Rattle.rows.proofs.shapes.iode.Tie as tie

pub iode_spec : {M : Type 1} → statement M
unfolding iode_width
iode_spec = tie.close (tie.spec (λ c. rw (eq-eqb c.args.system 2 c.if-system-eq-GALILEO.true)) (λ c. rw (ne_eqb c.args.system 2 c.if-system-eq-GALILEO.false)))
