-- `walk::single::found_in` meets its contract. Assumes nothing.
use mathlib.Core.Path.{◌∙◌, sym, ap}
use borrow.Author.Rules.{rules}
use lib.ListN.{length}
use Rattle.format.specs.Reading.{rows_after}
use Rattle.holding.specs.declared.Outline.{Outline}
use Rattle.holding.specs.Outlines.{whole_of}
use Rattle.holding.specs.Pictures.{sound}
use Rattle.reader.specs.Readings.{outcome_at, sought_at}
use Rattle.walk.proofs.single.found_in.Statement.{statement}
use Rattle.walk.proofs.single.found_in.Tie as tie

seek_under-requires : tie.Need-seek_under-requires
seek_under-requires c κs =
    let o = c.before.before.before.before.before in
    let s = o in
    let h = s.args.holding in
    s.requires ∙ ap (λ (x : Outline). sound (whole_of x h.satellites h.strips)) (sym o.outline-outline.ensures)

returns : tie.Need-returns
returns c =
    let k = c.before in
    let o = k in
    let x = o.args in
    let h = x.holding in (
      k.seek_under.ensures.0 ∙ ap (λ (y : Outline). sought_at (whole_of y h.satellites h.strips) x.bytes.now x.end x.start (length x.rows.now)) o.outline-outline.ensures,
      k.seek_under.ensures.1
          ∙ ap (λ (y : Outline). rows_after (outcome_at (whole_of y h.satellites h.strips) x.bytes.now x.end x.start x.rows.now) x.rows.now) o.outline-outline.ensures,
    )

pub found_in_spec : {M : Type 1} → statement M
found_in_spec = tie.close (tie.spec (λ c κs. search rules) seek_under-requires (λ c. search rules) returns)
