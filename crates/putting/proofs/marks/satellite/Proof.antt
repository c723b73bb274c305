-- `putting::marks::satellite` meets its contract. Assumes nothing.
use Rattle.bits.proofs.Words.{◌≡◌, sym, ap, ◌∙◌, Bool, true, false, ◌+◌, ◌*◌, ◌^◌, ◌<◌, arith, rules}
use Rattle.format.specs.Masks.{Satellite}
use Rattle.putting.specs.Marking.{has_row, told_by}
use Rattle.putting.proofs.Marking.{row_left}
use Rattle.putting.proofs.marks.satellite.Statement.{statement}
use Rattle.putting.proofs.marks.satellite.Tie as tie

module _ (c : tie.After-has_row) where
  abbrev start : tie.Start
  start = c.before.before

  abbrev sat : Satellite
  sat = record { system = start.args.system; number = start.args.number }

  told : (b : Bool) → c.has_row.result ≡ b
      → told_by b start.args.own start.args.told ≡ told_by (has_row start.args.rows.now start.args.told.at start.args.own sat) start.args.own start.args.told
  told b e = ap (λ (x : Bool). told_by x start.args.own start.args.told) (sym e ∙ c.has_row.ensures)

  -- a row that is left has room
  room : c.has_row.result ≡ true → start.args.told.at + 8 * start.args.own < 2 ^ 64
  room there =
      omega (arith, row_left start.args.rows.now start.args.told.at start.args.own sat (sym c.has_row.ensures ∙ there), start.requires.2)

returns-then-not-has_row : tie.Need-returns-then-not-has_row
returns-then-not-has_row c = told c.before false c.if-not-has_row.true

returns : tie.Need-returns
returns c = told c.before.before true c.if-not-has_row.false

pub satellite_spec : {M : Type 1} → statement M
satellite_spec =
    tie.close
    (tie.spec (λ c κs. search rules) returns-then-not-has_row (λ c. record { fits = omega (arith, (start c.before).requires.2) }) (λ c. record { fits = room c.before c.if-not-has_row.false })
    (λ c. search rules) returns)
