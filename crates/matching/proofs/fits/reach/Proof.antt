-- `matching::fits::reach` meets its contract. Assumes nothing.
use Rattle.bits.proofs.Words.{◌≡◌, ap, ◌∙◌, List, rules}
use Rattle.body.proofs.Bodies.{satellites_fit, cells_fit, parts_fit_lem, lines_known, by_satellites, by_cells}
use Rattle.body.specs.Lent.{view_by}
use Rattle.format.specs.Rows.{Line}
use Rattle.holding.specs.Held.{View}
use Rattle.rows.proofs.Table.{made_formed}
use Rattle.rows.specs.Table.{shape_for}
use Rattle.table.specs.declared.Body.{Body}
use Rattle.table.specs.declared.Keys.{Keys}
use Rattle.table.specs.Bodies.{lines_in, lines_over}
use Rattle.matching.specs.declared.fits.Matched.{Matched}
use Rattle.matching.specs.Matching.{matched_at}
use Rattle.matching.proofs.fits.reach.Statement.{statement}
use Rattle.matching.proofs.fits.reach.Tie as tie

module _ (s : tie.Start) where
  abbrev view : View
  view = view_by s.args.ids.now s.args.masks.now s.args.strips.now

  abbrev body : Body
  body = s.args.shaped.body

  abbrev made : s.args.shaped.shape ≡ shape_for body.shape
  made = s.requires.1.made

  -- how far the rows fit the lines of known keys is how far they fit the body's
  abbrev far : List Line → Matched
  far lines = matched_at lines s.args.rows.now 0

  whole : {keys : Keys} → body.keys ≡ keys → far (lines_over view keys body.shape) ≡ far (lines_in view body)
  whole known = ap far (lines_known view body known)

reach-requires : tie.Need-reach-requires
reach-requires c κs =
    let s = c.before.before.before.before.before.before in
    (s.requires.0.slots, made_formed 0 _ (made s), rw (made s) (satellites_fit (body s) s.requires.1.fits c.in-Satellites.is))

reach-requires-in-Cells : tie.Need-reach-requires-in-Cells
reach-requires-in-Cells c κs =
    let s = c.before.before.before.before.before.before in
    (s.requires.0.slots, s.requires.0.covered, made_formed 0 _ (made s), rw (made s) (cells_fit (body s) s.requires.1.fits c.in-Cells.is).0)

returns-in-Satellites : tie.Need-returns-in-Satellites
returns-in-Satellites c =
    let s = c.before.before.before.before.before.before.before in
    (rw (made s) at c.reach.ensures) ∙ ap (far s) (by_satellites (view s) c.in-Satellites.chosen (body s).shape) ∙ whole s c.in-Satellites.is

returns-in-Cells : tie.Need-returns-in-Cells
returns-in-Cells c =
    let s = c.before.before.before.before.before.before.before in
    (rw (made s) at c.reach-in-Cells.ensures) ∙ ap (far s) (by_cells (view s) c.in-Cells.chosen (body s).shape) ∙ whole s c.in-Cells.is

pub reach_spec : {M : Type 1} → statement M
unfolding lines_over
reach_spec =
    tie.close
    (tie.spec (λ c. search rules) reach-requires (λ c. search rules) reach-requires-in-Cells (λ c. search rules)
    (λ c κs. let s = c.before.before.before.before.before.before in (parts_fit_lem (body s) s.requires.1.fits c.in-Parts.is).0) returns-in-Satellites returns-in-Cells
    (λ c. c.reach-in-Parts.ensures ∙ whole c.before.before.before.before.before.before.before c.in-Parts.is))
