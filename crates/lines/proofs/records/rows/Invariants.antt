use Rattle.std.proofs.Common.{◌≡◌, ◌+◌, ◌*◌, ◌/◌, ◌≤◌, length}
use Rattle.text.proofs.Stores.{Left}
use Rattle.lines.specs.Records.{row_long}
use Rattle.lines.proofs.RowTexts.{rows_text}
use Rattle.lines.proofs.records.rows.Given as goal

-- the rows that are left, and room for each
abbrev pub invariant-loop-values : goal.invariant-loop-values
invariant-loop-values l =
    let left = l.values-iterator.rest.now in
    (l.values-iterator.size ≡ 8)
    × (l.place + row_long * (length left / 8) ≤ l.fn.at + row_long * l.fn.n)
    × Left l.fn.out l.fn.at (rows_text l.fn.n l.rows) l.out l.place (rows_text (length left / 8) left)
