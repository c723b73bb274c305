-- `putting::values::pair` meets its contract. Assumes nothing.
use Rattle.bits.proofs.Words.{[], ◌∷◌, ℕ, ◌+◌, ◌≤◌, arith, rules, get_or, ℤ, pos}
use Rattle.format.specs.Rows.{Column, shape_width}
use Rattle.rows.proofs.Columns.{width_of_lem}
use Rattle.rows.specs.Shapes.{column_of}
use Rattle.putting.proofs.RowBits.{four_columns, Joined, joined_one, joined_more, joined_gap, joined_room, FourFit, four_fit, value_read, fits_read}
use Rattle.putting.proofs.RowPens.{Pair, pair_shape, front_fits, front_value, front_same}
use Rattle.putting.proofs.values.pair.Statement.{statement}
use Rattle.putting.proofs.values.pair.Tie as tie

module _ (s : tie.Start) where
  pair : Pair s.args.s
  pair = pair_shape s.args.s s.requires.0

  abbrev first : Column
  first = column_of s.args.s.v1

  abbrev second : Column
  second = column_of s.args.s.v2

  -- the number at a place of the row
  abbrev at : ℕ → ℤ
  at k = get_or s.args.row.now k (pos 0)

  each : FourFit first second (column_of s.args.s.v3) (column_of s.args.s.v4) (at 3) (at 4) (at 5) (at 6)
  each = four_fit s.args.row.now s.requires.1.eight first second _ _ (front_fits s.requires.1)

  room : shape_width (first ∷ []) + s.args.s.v2.width ≤ 56
  unfolding shape_width
  room = omega (arith, s.requires.1.formed.window, width_of_lem s.args.s.v1)

one : (c : tie.After-column_bits) → let s = c.before.before.before in Joined (first s.before ∷ []) (at s.before 3 ∷ []) c.column_bits.result
one c =
    let s = c.before.before.before in
    joined_one s.args.s.v1 (at s.before 3) (each s.before).first (rw (value_read (at s.before 3) c.column_bits-arg-1.given) at c.column_bits.ensures)

-- both, in front of two gaps
module _ (c : tie.After-with) where
  abbrev start : tie.Start
  start = c.before.before.before.before.before.before.before

  both : Joined (first start ∷ second start ∷ []) (at start 3 ∷ at start 4 ∷ []) c.with.result
  both = joined_more (one c.before.before.before) start.args.s.v2 (at start 4) (each start).second (rw (value_read (at start 4) c.with-arg-1.given) at c.with.ensures)

  all : Joined (four_columns start.args.s) (at start 3 ∷ at start 4 ∷ at start 5 ∷ at start 6 ∷ []) c.with.result
  all =
      joined_gap (joined_gap both start.args.s.v3 (at start 5) (each start).third (pair start).third) start.args.s.v4 (at start 6) (each start).fourth (pair start).fourth

returns : tie.Need-returns
returns c =
    let v = (start c).requires.1 in
    front_same v (omega (arith, (pair (start c)).third, (pair (start c)).fourth)) (front_value v (all c))

pub pair_spec : {M : Type 1} → statement M
pair_spec =
    tie.close
    (tie.spec (λ c. search rules) (λ c. search rules)
    (λ c κs. let s = c.before.before in (s.requires.1.formed.first, fits_read (at s.before 3) c.column_bits-arg-1.given (first s.before) (each s.before).first))
    (λ c. search rules)
    (λ c κs. let s = c.before.before.before.before in (joined_room (one c.before.before) s.args.s.v2.width (room s.before.before), s.requires.1.formed.second, fits_read (at s.before.before 4) c.with-arg-1.given (second s.before.before) (each s.before.before).second))
    returns)
