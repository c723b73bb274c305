-- `walk::walk` meets its contract. Assumes nothing.
use mathlib.Core.Path.{◌∙◌, sym, ap}
use borrow.Author.Rules.{rules}
use Rattle.holding.specs.declared.Holding.{Holding}
use Rattle.holding.specs.declared.Outline.{Outline}
use Rattle.holding.specs.Outlines.{whole_of}
use Rattle.holding.specs.Pictures.{sound}
use Rattle.walk.specs.Walks.{walk_at, walked_of}
use Rattle.walk.proofs.walk.Statement.{statement}
use Rattle.walk.proofs.walk.Tie as tie

walk_under-stopped-requires : tie.Need-walk_under-stopped-requires
walk_under-stopped-requires c κs =
    let o = c in
    let h = o.args.holding in
    o.is_sound-held.ensures ∙ ap (λ (x : Outline). sound (whole_of x h.satellites h.strips)) (sym o.outline-outline.ensures)

returns : tie.Need-returns
returns c =
    let w = c.before.before.before.before in
    let o = w in
    let x = o.args in
    let h = x.holding in (
      ap (λ (g : Holding). record { stop = w.walk_under-stopped.result.stop; tally = w.walk_under-stopped.result.tally; holding = g }) c.with-holding.ensures
          ∙ w.walk_under-stopped.ensures.0
          ∙ ap (λ (y : Outline). walked_of (whole_of y h.satellites h.strips) (walk_at (whole_of y h.satellites h.strips) x.bytes.now x.end x.rows.now)) o.outline-outline.ensures,
      w.walk_under-stopped.ensures.1 ∙ ap (λ (y : Outline). (walk_at (whole_of y h.satellites h.strips) x.bytes.now x.end x.rows.now).rows) o.outline-outline.ensures,
    )

pub walk_spec : {M : Type 1} → statement M
walk_spec = tie.close (tie.spec (λ c κs. search rules) (λ c κs. search rules) walk_under-stopped-requires (λ c κs. search rules) (λ c. search rules) returns)
