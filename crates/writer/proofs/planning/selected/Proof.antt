-- `writer::planning::selected` meets its contract. Assumes nothing.
use Rattle.bits.proofs.Words.{◌≡◌, sym, ◌∙◌, rules}
use lib.Seq.{length-take-le}
use lib.IntN.{ℤ}
use Rattle.pens.proofs.Numbers.{of_struct}
use Rattle.format.specs.Rows.{absent}
use Rattle.format.specs.Same.{sameℤ}
use Rattle.writer.specs.Writings.{selected_by}
use Rattle.writer.proofs.planning.selected.Statement.{statement}
use Rattle.writer.proofs.planning.selected.Tie as tie

abbrev start : tie.After-is_absent → tie.Start
start c = c.before.before.before.before.before

none : (c : tie.After-is_absent) → sameℤ (start c).args.asked.head.c absent ≡ c.is_absent.result
none c = sym (of_struct (λ (z : ℤ). sameℤ z absent) _ c.struct_told-1.given.1.1.1.1.1.1.1.0.1 c.is_absent.ensures)

pub selected_spec : {M : Type 1} → statement M
unfolding selected_by
selected_spec =
    tie.close
    (tie.spec (λ c κs. search rules) (λ c. rw (none c.before ∙ c.if-is_absent.true)) (λ c. search rules) (λ c. (start c.before.before.before).requires.0.counted)
    (λ c. let s = start c.before.before.before.before in sym (length-take-le s.args.outline.count s.args.outline.ids s.requires.0.counted))
    (λ c κs. let s = start c.before.before.before.before in (s.requires.0.slots, s.requires.0.few, s.requires.0.covered, s.requires.1))
    (λ c. let e = c.before.before.before.before in rw (none e.before ∙ e.if-is_absent.false) c.marked.ensures))
