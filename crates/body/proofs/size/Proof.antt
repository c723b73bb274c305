-- `body::size` meets its contract. Assumes nothing.
use Rattle.bits.proofs.Words.{◌∙◌, subst, List, arith, rules}
use Rattle.format.specs.Rows.{Line}
use Rattle.holding.specs.Held.{View}
use Rattle.rows.proofs.Table.{width_at}
use Rattle.body.specs.Lent.{view_by}
use Rattle.body.specs.Written.{Counts}
use Rattle.body.proofs.Bodies.{sized_few, sized_covered, every_cell, some_cells, few_chosen, cells_fit, parts_fit_lem, lines_known, cells_alike, parts_alike, by_shape}
use Rattle.body.proofs.size.Statement.{statement}
use Rattle.body.proofs.size.Tie as tie

-- what the slots and strips show
abbrev view : tie.Start → View
view s = view_by s.args.ids.now s.args.masks.now s.args.strips.now

alike-requires : tie.Need-alike-requires
alike-requires c κs =
    let s = c in
    (omega (arith, c.cells_chosen.ensures, few_chosen s.requires.0 c.in-Cells.chosen), omega (arith, c.width_of.ensures, width_at 0 s.args.body.shape))

alike-requires-in-Parts : tie.Need-alike-requires-in-Parts
alike-requires-in-Parts c κs =
    let s = c in
    let fit = parts_fit_lem s.args.body s.requires.1 c.in-Parts.is in
    (omega (arith, fit), omega (arith, c.width_of-in-Parts.ensures, width_at 0 s.args.body.shape))

returns-in-Satellites : tie.Need-returns-in-Satellites
returns-in-Satellites c =
    let s = c.before.before.before.before.before in
    let known = c.in-Satellites in
    subst (λ (l : List Line). Counts l c.satellites_size.result) (by_shape (view s) known.chosen s.args.body.shape ∙ lines_known (view s) s.args.body known.is) c.satellites_size.ensures

returns-in-Cells : tie.Need-returns-in-Cells
returns-in-Cells c =
    let s = c.before.before.before.before.before.before.before in
    let known = c.in-Cells in
    let fit = cells_fit s.args.body s.requires.1 known.is in
    subst (λ (l : List Line). Counts l c.alike.result) (lines_known (view s) s.args.body known.is)
    (rw c.alike.ensures (cells_alike (view s) known.chosen s.args.body.shape _ _ fit.0.iode (c.cells_chosen.ensures ∙ some_cells s.requires.0 known.chosen) c.width_of.ensures))

returns-in-Parts : tie.Need-returns-in-Parts
returns-in-Parts c =
    let s = c.before.before.before.before.before.before in
    let known = c.in-Parts in
    subst (λ (l : List Line). Counts l c.alike-in-Parts.result) (lines_known (view s) s.args.body known.is)
    (rw c.alike-in-Parts.ensures (parts_alike (view s) known.parts s.args.body.shape _ (parts_fit_lem s.args.body s.requires.1 known.is).1 c.width_of-in-Parts.ensures))

pub size_spec : {M : Type 1} → statement M
size_spec =
    tie.close
    (tie.spec (λ c. search rules)
    (λ c κs. let z = c.requires.0 in (z.lent.slots, z.satellites, sized_few z))
    (λ c. search rules) (λ c κs. let z = c.requires.0 in (sized_few z, sized_covered z, every_cell z c.in-Cells.chosen)) (λ c κs. search rules) alike-requires (λ c. search rules) (λ c κs. search rules) alike-requires-in-Parts returns-in-Satellites
    returns-in-Cells returns-in-Parts)
