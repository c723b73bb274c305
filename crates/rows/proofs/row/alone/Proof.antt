-- `rows::row::alone` meets its contract. Assumes nothing.
use Rattle.bits.proofs.Words.{ap, ◌∙◌, ◌-◌, ◌%◌, arith, rules}
use mir.Syntax.{w32}
use mir.Facts.{to_z-of_z}
use Rattle.rows.proofs.Cuts.{cut_by, half_lt, front_cut, column_cut}
use Rattle.rows.proofs.row.alone.Statement.{statement}
use Rattle.rows.proofs.row.alone.Tie as tie

value-requires : tie.Need-value-requires
value-requires c κs =
    let s = c in
    let x = s.args in
    (rw (front_cut x.bytes.now x.at c.eight-front.ensures x.c.width s.requires.0.narrow) (half_lt x.bytes.now x.at c.eight-front.ensures _), s.requires.0)

returns : tie.Need-returns
returns c =
    let w = c.before.before in
    let s = w in
    let x = s.args in
    to_z-of_z {w = w32} (record { sfits = c.value.type_inv }) ∙ c.value.ensures
    ∙ ap (cut_by x.c) (front_cut x.bytes.now x.at w.eight-front.ensures x.c.width s.requires.0.narrow)
    ∙ column_cut x.bytes.now x.at w.eight-front.ensures x.c x.at (63 - x.at % 8 - x.c.width) (omega arith) (omega arith)

pub alone_spec : {M : Type 1} → statement M
alone_spec = tie.close (tie.spec (λ c κs. search rules) (λ c. search rules) (λ c. search rules) (λ c. search rules) value-requires returns)
