-- `putting::values::last` meets its contract. Assumes nothing.
use Rattle.bits.proofs.Words.{get_or, rules, pos}
use Rattle.rows.specs.Shapes.{column_of}
use Rattle.putting.proofs.RowBits.{value_read, fits_read}
use Rattle.putting.proofs.RowPens.{last_fits, last_same}
use Rattle.putting.proofs.values.last.Statement.{statement}
use Rattle.putting.proofs.values.last.Tie as tie

column_bits-requires : tie.Need-column_bits-requires
column_bits-requires c κs =
    let s = c in
    (s.requires.formed.fifth, fits_read (get_or s.args.row.now 7 (pos 0)) c.column_bits-arg-1.given (column_of s.args.s.v5) (last_fits s.requires))

returns : tie.Need-returns
returns c =
    let s = c in
    last_same s.requires (rw (value_read (get_or s.args.row.now 7 (pos 0)) c.column_bits-arg-1.given) at c.column_bits.ensures)

pub last_spec : {M : Type 1} → statement M
last_spec = tie.close (tie.spec (λ c. search rules) column_bits-requires returns)
