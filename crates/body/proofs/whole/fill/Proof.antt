-- `body::whole::fill` meets its contract. Assumes nothing.
use Rattle.bits.proofs.Words.{◌≡◌, refl, ap, ◌∙◌, subst, List, rules, ℤ}
use Rattle.format.specs.Reading.{over}
use Rattle.format.specs.Rows.{Line}
use Rattle.holding.specs.Held.{View}
use Rattle.rows.proofs.Table.{made_formed}
use Rattle.table.specs.declared.Body.{Body}
use Rattle.table.specs.declared.Keys.{Keys}
use Rattle.table.specs.Bodies.{lines_in, lines_over}
use Rattle.body.specs.Asking.{Kinded}
use Rattle.body.specs.Lent.{view_by}
use Rattle.body.specs.Written.{numbers_at, Room}
use Rattle.body.proofs.Bodies.{lines_known, by_satellites, by_cells}
use Rattle.body.proofs.whole.fill.Statement.{statement}
use Rattle.body.proofs.whole.fill.Tie as tie

module _ (s : tie.Start) where
  abbrev view : View
  view = view_by s.args.ids.now s.args.masks.now s.args.strips.now

  abbrev body : Body
  body = s.args.placed.body

  room : {keys : Keys} → body.keys ≡ keys → Room (lines_over view keys body.shape) s.args.bytes.now s.args.placed.at s.args.rows.now
  room known = rw (lines_known view body known) s.requires.room

  kind : {keys : Keys} → body.keys ≡ keys → Kinded keys body.shape
  kind known = subst (λ (k : Keys). Kinded k body.shape) known s.requires.kind

  -- the rows of the lines of known keys are the body's
  abbrev Rows : List Line → List ℤ
  Rows l = over (numbers_at l s.args.bytes.now s.args.placed.at) s.args.rows.now

  whole : {keys : Keys} → body.keys ≡ keys → Rows (lines_over view keys body.shape) ≡ Rows (lines_in view body)
  whole known = ap Rows (lines_known view body known)

fill-requires : tie.Need-fill-requires
unfolding Kinded
fill-requires c κs =
    let k = c.before.before in
    let s = k.before.before.before.before.before.before in
    let known = k.in-Satellites in
    let lent = s.requires.lent in
    rw c.wanted.ensures (
      lent.slots,
      record { formed = made_formed 0 _ refl; kind = kind s known.is; room = rw (by_satellites (view s) known.chosen (body s).shape) (room s known.is) },
    )

fill-requires-in-Cells : tie.Need-fill-requires-in-Cells
unfolding Kinded
fill-requires-in-Cells c κs =
    let k = c.before.before in
    let s = k.before.before.before.before.before.before in
    let known = k.in-Cells in
    let lent = s.requires.lent in
    rw c.wanted-in-Cells.ensures (
      lent.slots,
      lent.covered,
      record { formed = made_formed 0 _ refl; kind = kind s known.is; room = rw (by_cells (view s) known.chosen (body s).shape) (room s known.is) },
    )

returns-in-Satellites : tie.Need-returns-in-Satellites
returns-in-Satellites c =
    let w = c.before.before.before in
    let k = w.before in
    let s = k.before.before.before.before.before.before in
    let known = k.in-Satellites in
    (rw w.wanted.ensures at c.fill.ensures) ∙ ap (Rows s) (by_satellites (view s) known.chosen (body s).shape) ∙ whole s known.is

returns-in-Cells : tie.Need-returns-in-Cells
returns-in-Cells c =
    let w = c.before.before.before in
    let k = w.before in
    let s = k.before.before.before.before.before.before in
    let known = k.in-Cells in
    (rw w.wanted-in-Cells.ensures at c.fill-in-Cells.ensures) ∙ ap (Rows s) (by_cells (view s) known.chosen (body s).shape) ∙ whole s known.is

pub fill_spec : {M : Type 1} → statement M
unfolding lines_over
fill_spec =
    tie.close
    (tie.spec (λ c. search rules) (λ c κs. search rules) fill-requires (λ c. search rules) (λ c κs. search rules) fill-requires-in-Cells (λ c. search rules)
    (λ c κs. let k = c.before in room k.before.before.before.before.before.before k.in-Parts.is) (λ c. search rules) returns-in-Satellites
    (λ c. search rules) returns-in-Cells (λ c. search rules)
    (λ c. let k = c.before.before.before in c.fill-in-Parts.ensures ∙ whole k.before.before.before.before.before.before k.in-Parts.is))
