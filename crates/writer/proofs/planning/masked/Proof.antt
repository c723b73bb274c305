-- `writer::planning::masked` meets its contract. Assumes nothing.
use Rattle.bits.proofs.Words.{◌≡◌, sym, ap, ap₂, ◌∙◌, true, List, ℕ, arith, length, rules, ℤ}
use Rattle.format.specs.declared.Head.{Head}
use Rattle.format.specs.Writing.{rows_in}
use Rattle.holding.specs.Held.{View}
use Rattle.table.specs.declared.Layout.{Layout}
use Rattle.writer.specs.declared.planning.Planned.TheVariants.{Message}
use Rattle.writer.specs.Plans.{flagged_head, alone_plan, flagged_plan}
use Rattle.writer.specs.Writings.{view_in, selected_by, masked_plan}
use Rattle.writer.proofs.planning.masked.Statement.{statement}
use Rattle.writer.proofs.planning.masked.Tie as tie

fit : (c : tie.Else-not-flagged_fits) → flagged_head c.args.asked.head ≡ true
fit c = sym c.flagged_fits.ensures ∙ c.if-not-flagged_fits.false

-- behind flags
of_flags : (v : View) (l : Layout) (h : Head) (start : ℕ) (rows : List (List ℤ)) → l.flagged ≡ true → flagged_head h ≡ true
    → Message (flagged_plan h l start (selected_by l.cells v h.c rows) (length v.satellites)) ≡ masked_plan v l h start rows
unfolding masked_plan
of_flags v l h start rows flagged head = rw (flagged, head)

returns-then-layout : tie.Need-returns-then-layout
returns-then-layout c =
    let p = c.before.before in
    let e = p.before in
    let s = e in
    let x = s.args in
    ap Message (c.flagged.ensures ∙ ap₂ (flagged_plan x.asked.head x.layout x.asked.start) p.selected-chosen.ensures (sym s.requires.0.many))
    ∙ of_flags (view_in x.outline x.masks.now x.strips.now) x.layout x.asked.head x.asked.start (rows_in x.asked.count x.rows.now) e.if-layout.true (fit e)

pub masked_spec : {M : Type 1} → statement M
unfolding masked_plan alone_plan
masked_spec =
    tie.close
    (tie.spec (λ c κs. search rules) (λ c. rw (c.if-layout.true, sym c.flagged_fits.ensures ∙ c.if-not-flagged_fits.true))
    (λ c κs. let s = c.before.before.before.before.before.before in (s.requires.0, s.requires.2)) (λ c. search rules) (λ c κs. let e = c.before.before in let s = e.before.before.before.before.before.before in (fit e, omega (arith, s.requires.1.small))) returns-then-layout
    (λ c κs. search rules) (λ c. rw (c.if-layout.false, sym c.alone_fits.ensures ∙ c.if-not-alone_fits.true)) (λ c κs. search rules)
    (λ c. let e = c.before in rw (e.if-layout.false, sym e.alone_fits.ensures ∙ e.if-not-alone_fits.false) (ap Message c.alone.ensures)))
