-- `body::cells::satellite` meets its contract. The loop's invariant: the rows of the cells that are left are still to come. Assumes nothing.
use Rattle.bits.proofs.Words.{◌≡◌, refl, ap, ◌∙◌, List, [], ◌∷◌, ℕ, ◌-◌, ◌^◌, ◌<◌, arith, rules, pos}
use lib.Count.{count_leading_zeros}
use Rattle.format.specs.Masks.{Satellite}
use Rattle.format.specs.Messages.{cell_lines}
use Rattle.format.specs.Rows.{Column, Line, shape_width}
use Rattle.rows.specs.At.{values_at}
use Rattle.rows.specs.Shapes.{columns_of, columns_in}
use Rattle.body.specs.Chosen.{satellite_of, cells_in}
use Rattle.body.proofs.Going.{Going, going_start, Row, going_row, going_end}
use Rattle.body.proofs.Groups.{five_in, narrow_in}
use Rattle.body.proofs.Keys.{key, keyed}
use Rattle.body.proofs.Slots.{Next, next, next_of, none_of}
use Rattle.body.proofs.cells.satellite.Statement.{statement}
use Rattle.body.proofs.cells.satellite.Tie as tie

abbrev invariant-loop-left : tie.invariant-loop-left
invariant-loop-left word s bytes at rows₀ system number width left₀ k₀ place₀ rows left k place =
    let sat : Satellite = record { system = system; number = number } in
    (left < 2 ^ 64) × Going bytes (cell_lines (columns_in s) (cells_in 64 sat word)) at rows₀ (cell_lines (columns_in s) (cells_in 64 sat left)) k place rows

abbrev decreases-loop-left : tie.decreases-loop-left
decreases-loop-left word s bytes at rows₀ system number width left₀ k₀ place₀ rows left k place = left

module _ (c : tie.After-first invariant-loop-left decreases-loop-left) where
  abbrev start : tie.Start invariant-loop-left decreases-loop-left
  start = c.before.before.before.before.before.before.before

  abbrev left : ℕ
  left = c.loop-left.left

  abbrev sat : Satellite
  sat = satellite_of start.args.sat

  abbrev columns : ℕ → List Column
  columns = columns_in start.args.s

  -- the next cell's line
  abbrev line : Line
  line = record { keys = pos sat.system ∷ pos sat.number ∷ pos (count_leading_zeros 64 left) ∷ []; shape = columns sat.system }

  same : columns_of start.args.s ≡ columns sat.system
  same = narrow_in start.args.s sat.system start.requires.2

  wide : c.width-width.result ≡ shape_width (columns sat.system)
  wide = c.width-width.ensures ∙ ap shape_width same

  -- and those behind it
  module _ (rest : ℕ) (e : rest ≡ left - 2 ^ (63 - count_leading_zeros 64 left)) where
    fewer : Next left rest
    fewer = next left rest c.loop-left-test.true c.loop-left.invariant.0 e

    row : Row start.args.bytes.now (cell_lines columns (cells_in 64 sat start.args.word)) start.args.at start.args.rows.now line (cell_lines columns (cells_in 64 sat rest))
        c.loop-left.k c.loop-left.place c.loop-left.rows
    unfolding cell_lines
    row =
        let all = ap (cell_lines columns) (next_of left rest c.loop-left-test.true c.loop-left.invariant.0 e sat) in
        going_row line _ refl (five_in _ _) (rw all at c.loop-left.invariant.1)

loop-again : tie.Need-loop-left-preserved invariant-loop-left decreases-loop-left
loop-again c =
    let f = c.before.before.before.before in
    let x = start f in
    let r = c.rest-left in
    let id = x.args.sat.system in
    let system = key id id (omega arith) refl in
    let number = key x.args.sat.number x.args.sat.number x.requires.0 refl in
    let signal = key f.first.result (count_leading_zeros 64 (left f)) (omega (arith, (fewer f _ refl).inside, f.first.ensures)) f.first.ensures in
    let new = c.cell.ensures ∙ keyed _ system number signal ∙ ap (λ (cs : List Column). pos id ∷ pos x.args.sat.number ∷ pos (count_leading_zeros 64 (left f)) ∷ values_at cs x.args.bytes.now f.loop-left.place) (same f) in
    (omega (arith, (fewer f r.result r.ensures).fewer), (row f r.result r.ensures).written _ _ (wide f) new)

pub satellite_spec : {M : Type 1} → statement M
unfolding cell_lines
satellite_spec =
    tie.close
    (tie.spec invariant-loop-left decreases-loop-left (λ c. search rules) (λ c. record { sfits = c.requires.0 }) (λ c κs. c.requires.1)
    (λ c. (omega arith, going_start c.requires.3)) (λ c κs. search rules)
    (λ c. record { sfits = omega (arith, (fewer c _ refl).inside, c.first.ensures) }) (λ c. omega (arith, (row c _ refl).room))
    (λ c. omega (arith, (row c _ refl).room)) (λ c. omega arith) (λ c. search rules) (λ c. (row c _ refl).room)
    (λ c κs. let f = c.before in let w = row f _ refl in (w.part, omega (arith, w.near), (start f).requires.1, (start f).requires.2, omega (arith, w.whole)))
    (λ c κs. search rules) (λ c. let f = c.before.before.before.before in omega (arith, (row f _ refl).near, wide f))
    (λ c. (fewer c.before.before.before.before c.rest-left.result c.rest-left.ensures).fewer) loop-again (λ c. c.loop-left.invariant.1.same)
    (λ c. let x = c.args in going_end (ap (cell_lines (columns_in x.s)) (none_of (satellite_of x.sat) (omega arith))) c.loop-left.invariant.1))
