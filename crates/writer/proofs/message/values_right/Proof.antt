-- `writer::message::values_right` meets its contract. Assumes nothing.
use Rattle.bits.proofs.Words.{ap, ◌∙◌, ◌*◌, rules}
use borrow.Author.Tests.{eq-eqb, ne_eqb}
use Rattle.format.specs.Writing.{rows_in}
use Rattle.matching.proofs.ValueTests.{flagged}
use Rattle.matching.specs.Values.{rows_valued}
use Rattle.rows.specs.declared.shape.Shape.{Shape}
use Rattle.rows.specs.Shapes.{columns_in}
use Rattle.writer.proofs.message.values_right.Statement.{statement}
use Rattle.writer.proofs.message.values_right.Tie as tie

returns : tie.Need-returns
returns c =
    let s = c in
    rw (eq-eqb s.args.plan.told (8 * s.args.count) c.if-plan-count.false)
    (c.values_fit.ensures ∙ ap (λ (x : Shape). rows_valued (columns_in x) (rows_in s.args.count s.args.rows.now)) s.requires.1)

pub values_right_spec : {M : Type 1} → statement M
values_right_spec =
    tie.close
    (tie.spec (λ c. search rules) (λ c. let s = c.before.before in rw (ne_eqb s.args.plan.told (8 * s.args.count) c.if-plan-count.true))
    (λ c κs. let s = c.before.before in (rw s.requires.1 (flagged s.args.plan.body.shape s.requires.0), s.requires.2)) returns)
