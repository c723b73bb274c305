-- `rows::row::tested` meets its contract. Assumes nothing.
use Rattle.bits.proofs.Words.{ap, ◌∙◌, arith, rules}
use native.Mathlib.Nat.{mod-eq_of_lt}
use mir.Syntax.{w32}
use mir.Facts.{to_z-of_z}
use Rattle.bits.proofs.Fields.{field_lt}
use Rattle.format.specs.Rows.{value_of}
use Rattle.rows.proofs.Columns.{gap_of}
use Rattle.rows.proofs.Cuts.{cut_by, front_lt}
use Rattle.rows.specs.Shapes.{column_of}
use Rattle.rows.proofs.row.tested.Statement.{statement}
use Rattle.rows.proofs.row.tested.Tie as tie

value-requires : tie.Need-value-requires
value-requires c κs =
    let s = c in
    (front_lt s.args.bytes.now s.args.at s.args.c.width c.read_field.ensures (omega (arith, s.requires.narrow)), s.requires)

returns-then-c-gt0 : tie.Need-returns-then-c-gt0
returns-then-c-gt0 c =
    let r = c.before in
    let s = r in
    to_z-of_z {w = w32} (record { sfits = c.value.type_inv }) ∙ c.value.ensures ∙ ap (cut_by s.args.c) r.read_field.ensures
    ∙ ap (value_of (column_of s.args.c)) (mod-eq_of_lt (field_lt s.args.bytes.now s.args.at s.args.c.width))

-- a column of no bits is a gap
returns : tie.Need-returns
unfolding value_of
returns c = rw (gap_of c.args.c (omega (arith, c.if-c-gt0.false)))

pub tested_spec : {M : Type 1} → statement M
tested_spec = tie.close (tie.spec (λ c κs. search rules) value-requires returns-then-c-gt0 returns)
