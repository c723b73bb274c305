-- `writer::plan::marks_of` meets its contract. Assumes nothing.
use Rattle.bits.proofs.Words.{◌≡◌, sym, ◌∙◌, rules}
use mir.Facts.{to_z-of_z}
use Rattle.format.specs.Rows.{absent}
use Rattle.format.specs.Same.{sameℤ}
use Rattle.writer.proofs.plan.marks_of.Statement.{statement}
use Rattle.writer.proofs.plan.marks_of.Tie as tie

none : (c : tie.After-is_absent) → sameℤ c.args.network absent ≡ c.is_absent.result
none c = sym (rw (to_z-of_z c.ranges.network) at c.is_absent.ensures)

pub marks_of_spec : {M : Type 1} → statement M
marks_of_spec = tie.close (tie.spec (λ c κs. search rules) (λ c. rw (none c.before ∙ c.if-is_absent.true)) (λ c. rw (none c.before ∙ c.if-is_absent.false)))
