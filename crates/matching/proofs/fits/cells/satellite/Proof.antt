-- `matching::fits::cells::satellite` meets its contract. The loop's invariant: how far the rows fit is told by the cells that are left.
-- Assumes nothing.
use Rattle.bits.proofs.Words.{◌≡◌, refl, ap, ◌∙◌, List, [], ◌∷◌, ℕ, ◌+◌, ◌-◌, ◌^◌, ◌<◌, arith, rules, length, take, drop, ℤ, pos}
use lib.Count.{count_leading_zeros}
use lib.ListN.{length-drop}
use Rattle.body.proofs.Going.{lent}
use Rattle.body.proofs.Keys.{key}
use Rattle.body.proofs.Slots.{Next, next, next_of, none_of}
use Rattle.body.specs.Chosen.{satellite_of, cells_in}
use Rattle.format.specs.Masks.{Satellite}
use Rattle.format.specs.Messages.{cell_lines}
use Rattle.format.specs.Rows.{Column, Line}
use Rattle.rows.specs.Shapes.{columns_in}
use Rattle.matching.proofs.Lines.{tested_by_lem, cell_columns_lem}
use Rattle.matching.proofs.Matching.{fits_at, fits_behind, Tests, tests_start, tests_at, row_fits_lem, row_fails, tests_end}
use Rattle.matching.proofs.fits.cells.satellite.Statement.{statement}
use Rattle.matching.proofs.fits.cells.satellite.Tie as tie

abbrev invariant-loop-left : tie.invariant-loop-left
invariant-loop-left word s rows from system number own left₀ k₀ left k =
    let sat : Satellite = record { system = system; number = number } in
    (left < 2 ^ 64) × Tests (cell_lines (columns_in s) (cells_in 64 sat word)) rows from (cell_lines (columns_in s) (cells_in 64 sat left)) (from + k)

abbrev decreases-loop-left : tie.decreases-loop-left
decreases-loop-left word s rows from system number own left₀ k₀ left k = left

module _ (c : tie.After-first invariant-loop-left decreases-loop-left) where
  abbrev start : tie.Start invariant-loop-left decreases-loop-left
  start = c.before.before.before.before.before.before

  -- how many numbers are lent from the first row on
  many : length (take (length start.args.rows.now - start.args.from) (drop start.args.from start.args.rows.now)) ≡ length start.args.rows.now - start.args.from
  many = ap length (lent start.args.from start.args.rows.now) ∙ length-drop start.args.from start.args.rows.now

  abbrev left : ℕ
  left = c.loop-left.left

  abbrev sat : Satellite
  sat = satellite_of start.args.sat

  abbrev columns : ℕ → List Column
  columns = columns_in start.args.s

  -- the next cell's line
  abbrev line : Line
  line = record { keys = pos sat.system ∷ pos sat.number ∷ pos (count_leading_zeros 64 left) ∷ []; shape = columns sat.system }

  -- and those behind it
  module _ (rest : ℕ) (e : rest ≡ left - 2 ^ (63 - count_leading_zeros 64 left)) where
    fewer : Next left rest
    fewer = next left rest c.loop-left-test.true c.loop-left.invariant.0 e

    both : cell_lines columns (cells_in 64 sat left) ≡ line ∷ cell_lines columns (cells_in 64 sat rest)
    unfolding cell_lines
    both = ap (cell_lines columns) (next_of left rest c.loop-left-test.true c.loop-left.invariant.0 e sat)

  near : c.first.result < 2 ^ 31
  near = omega (arith, (fewer _ refl).inside, c.first.ensures)

tested : (c : tie.After-cell_fits invariant-loop-left decreases-loop-left) → let f = c.before.before.before.before in c.cell_fits.result ≡ fits_at (line f) (start f).args.rows.now ((start f).args.from + f.loop-left.k)
tested c =
    let f = c.before.before.before.before in
    let x = start f in
    let id = x.args.sat.system in
    let numbers : List ℤ = x.args.rows.now in
    tested_by_lem _ (columns f id) (take (length numbers - x.args.from) (drop x.args.from numbers)) f.loop-left.k (key id id (omega arith) refl)
    (key x.args.sat.number x.args.sat.number x.requires.0 refl) (key f.first.result (count_leading_zeros 64 (left f)) (near f) f.first.ensures) (cell_columns_lem x.args.s id x.requires.2) c.cell_fits.ensures
    ∙ ap (λ (l : List ℤ). fits_at (line f) l f.loop-left.k) (lent x.args.from numbers)
    ∙ fits_behind (line f) numbers x.args.from f.loop-left.k x.requires.3

loop-again : tie.Need-loop-left-preserved invariant-loop-left decreases-loop-left
loop-again c =
    let e = c.before in
    let t = e.before in
    let f = t.before.before.before.before in
    let r = c.rest-left in (
      omega (arith, (fewer f r.result r.ensures).fewer, f.loop-left.invariant.0),
      tests_at (row_fits_lem f.loop-left.invariant.1 (line f) _ (both f r.result r.ensures) t.cell_fits.result (tested t) e.if-not-cell_fits.false) _
          (omega arith),
    )

pub satellite_spec : {M : Type 1} → statement M
unfolding cell_lines
satellite_spec =
    tie.close
    (tie.spec invariant-loop-left decreases-loop-left (λ c. search rules) (λ c. record { sfits = c.requires.0 }) (λ c. search rules) (λ c. search rules) (λ c. search rules) (λ c. search rules)
    (λ c. (omega arith, tests_at (tests_start c.requires.3) _ (omega arith))) (λ c κs. search rules)
    (λ c. record { sfits = near c }) (λ c κs. (omega (arith, c.loop-left.invariant.1.within, many c.before.before.before), c.requires.1.first, c.requires.1.second, c.requires.1.third))
    (λ c. let t = c.before in let f = t.before.before.before.before in row_fails f.loop-left.invariant.1 (line f) _ (both f _ refl) t.cell_fits.result (tested t) c.if-not-cell_fits.true)
    (λ c κs. search rules) (λ c. omega (arith, c.loop-left.invariant.1.within, c.well_formed.1.1.1.0))
    (λ c. (fewer c.before.before.before.before.before.before c.rest-left.result c.rest-left.ensures).fewer) loop-again
    (λ c. omega (arith, c.loop-left.invariant.1.within, c.well_formed.1.1.1.0))
    (λ c. let x = c.args in tests_end c.loop-left.invariant.1 (ap (cell_lines (columns_in x.s)) (none_of (satellite_of x.sat) (omega arith)))))
