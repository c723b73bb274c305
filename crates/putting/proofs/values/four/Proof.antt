-- `putting::values::four` meets its contract. Assumes nothing.
use Rattle.bits.proofs.Words.{[], ◌∷◌, ℕ, ◌+◌, ◌≤◌, arith, rules, get_or, ℤ, pos}
use Rattle.format.specs.Rows.{Column, shape_width}
use Rattle.rows.proofs.Columns.{width_of_lem}
use Rattle.rows.specs.Shapes.{column_of}
use Rattle.putting.proofs.RowBits.{Joined, joined_one, joined_more, joined_room, FourFit, four_fit, value_read, fits_read}
use Rattle.putting.proofs.RowPens.{front_fits, front_value}
use Rattle.putting.proofs.values.four.Statement.{statement}
use Rattle.putting.proofs.values.four.Tie as tie

module _ (s : tie.Start) where
  abbrev first : Column
  first = column_of s.args.s.v1

  abbrev second : Column
  second = column_of s.args.s.v2

  abbrev third : Column
  third = column_of s.args.s.v3

  abbrev fourth : Column
  fourth = column_of s.args.s.v4

  -- the number at a place of the row
  abbrev at : ℕ → ℤ
  at k = get_or s.args.row.now k (pos 0)

  each : FourFit first second third fourth (at 3) (at 4) (at 5) (at 6)
  each = four_fit s.args.row.now s.requires.eight first second third fourth (front_fits s.requires)

  -- room for the next column
  room_2 : shape_width (first ∷ []) + s.args.s.v2.width ≤ 56
  unfolding shape_width
  room_2 = omega (arith, s.requires.formed.window, width_of_lem s.args.s.v1)

  room_3 : shape_width (first ∷ second ∷ []) + s.args.s.v3.width ≤ 56
  unfolding shape_width
  room_3 = omega (arith, s.requires.formed.window, width_of_lem s.args.s.v1, width_of_lem s.args.s.v2)

  room_4 : shape_width (first ∷ second ∷ third ∷ []) + s.args.s.v4.width ≤ 56
  unfolding shape_width
  room_4 = omega (arith, s.requires.formed.window, width_of_lem s.args.s.v1, width_of_lem s.args.s.v2, width_of_lem s.args.s.v3)

-- ---- one value after the other

one : (c : tie.After-column_bits-v1) → let s = c.before.before.before in Joined (first s ∷ []) (at s 3 ∷ []) c.column_bits-v1.result
one c =
    let s = c.before.before.before in
    joined_one s.args.s.v1 (at s 3) (each s).first (rw (value_read (at s 3) c.column_bits-arg-1.given) at c.column_bits-v1.ensures)

two : (c : tie.After-with-v2) → let s = c.before.before.before.before.before.before in Joined (first s ∷ second s ∷ []) (at s 3 ∷ at s 4 ∷ []) c.with-v2.result
two c =
    let s = c.before.before.before.before.before.before in
    joined_more (one c.before.before.before) s.args.s.v2 (at s 4) (each s).second (rw (value_read (at s 4) c.with-arg-1.given) at c.with-v2.ensures)

three : (c : tie.After-with-v3) → let s = c.before.before.before.before.before.before.before.before.before in Joined (first s ∷ second s ∷ third s ∷ []) (at s 3 ∷ at s 4 ∷ at s 5 ∷ []) c.with-v3.result
three c =
    let s = c.before.before.before.before.before.before.before.before.before in
    joined_more (two c.before.before.before) s.args.s.v3 (at s 5) (each s).third (rw (value_read (at s 5) c.with-arg-3-1.given) at c.with-v3.ensures)

returns : tie.Need-returns
returns c =
    let s = c.before.before.before.before.before.before.before.before.before.before.before.before in
    let all = joined_more (three c.before.before.before) s.args.s.v4 (at s 6) (each s).fourth (rw (value_read (at s 6) c.with-arg-5-1.given) at c.with.ensures) in
    front_value s.requires all

pub four_spec : {M : Type 1} → statement M
four_spec =
    tie.close
    (tie.spec (λ c. search rules) (λ c κs. let s = c.before.before in (s.requires.formed.first, fits_read (at s 3) c.column_bits-arg-1.given (first s) (each s).first)) (λ c. search rules)
    (λ c κs. let s = c.before.before.before.before.before in (joined_room (one c.before.before) s.args.s.v2.width (room_2 s), s.requires.formed.second, fits_read (at s 4) c.with-arg-1.given (second s) (each s).second))
    (λ c. search rules)
    (λ c κs. let s = c.before.before.before.before.before.before.before.before in (joined_room (two c.before.before) s.args.s.v3.width (room_3 s), s.requires.formed.third, fits_read (at s 5) c.with-arg-3-1.given (third s) (each s).third))
    (λ c. search rules)
    (λ c κs. let s = c.before.before.before.before.before.before.before.before.before.before.before in (joined_room (three c.before.before) s.args.s.v4.width (room_4 s), s.requires.formed.fourth, fits_read (at s 6) c.with-arg-5-1.given (fourth s) (each s).fourth))
    returns)
