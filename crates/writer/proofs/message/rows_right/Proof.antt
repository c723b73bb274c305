-- `writer::message::rows_right` meets its contract. Assumes nothing.
use Rattle.bits.proofs.Words.{sym, ap, ◌∙◌, ℕ, ◌*◌, ◌/◌, ◌≤◌, ◌&&◌, arith, eqb, length, rules}
use Rattle.body.proofs.Bodies.{counted, prefix, lends}
use Rattle.holding.specs.declared.Holding.{Holding}
use Rattle.holding.specs.Outlines.{whole_of}
use Rattle.matching.specs.Values.{rows_valued}
use Rattle.rows.specs.Shapes.{columns_in}
use Rattle.rows.specs.Table.{shape_for}
use Rattle.writer.specs.Written.{rows_of}
use Rattle.writer.proofs.Rowed.{length_rows}
use Rattle.writer.proofs.message.rows_right.Statement.{statement}
use Rattle.writer.proofs.message.rows_right.Tie as tie

module _ (s : tie.Start) where
  abbrev holding : Holding
  holding = whole_of s.args.outline s.args.masks.now s.args.strips.now

  abbrev count : ℕ
  count = length s.args.rows.now / 8

  whole : 8 * count ≤ length s.args.rows.now
  whole = omega arith

returns-then-plan : tie.Need-returns-then-plan
returns-then-plan c =
    let s = c.before.before.before.before in
    c.values_right.ensures
    ∙ ap (λ (k : ℕ). eqb s.args.plan.told (8 * k) && rows_valued (columns_in (shape_for s.args.plan.body.shape)) (rows_of s.args.rows.now)) (sym (length_rows (count s) s.args.rows.now))
    ∙ sym (s.requires.2.rest c.if-plan.true)

pub rows_right_spec : {M : Type 1} → statement M
rows_right_spec =
    tie.close
    (tie.spec (λ c κs. let s = c.before.before.before in (s.requires.2.four c.if-plan.true, s.requires.3, whole s)) returns-then-plan (λ c. search rules)
    (λ c. let s = c.before.before.before.before.before.before in counted (holding s) s.requires.0) (λ c. let s = c.before.before.before.before.before.before.before in prefix (holding s) s.requires.0)
    (λ c κs. let s = c.before.before.before.before.before.before.before in (lends (holding s) s.requires.0, record { fits = s.requires.1.body; made = s.requires.3 }, whole s)) (λ c. c.rows_fit.ensures))
