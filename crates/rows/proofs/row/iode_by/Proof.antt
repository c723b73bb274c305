-- `rows::row::iode_by` meets its contract. Assumes nothing.
use Rattle.bits.proofs.Words.{◌≡◌, sym, ap, ◌∙◌, rules}
use borrow.Author.Tests.{ne_eqb}
use lib.Signed.{mag}
use mir.Facts.{to_z-of_z}
use Rattle.format.specs.Messages.{iode_width}
use Rattle.rows.proofs.row.iode_by.Statement.{statement}
use Rattle.rows.proofs.row.iode_by.Tie as tie

far : (m : tie.After-magnitude) → m.magnitude.result ≡ mag m.args.system
far m = m.magnitude.ensures ∙ ap mag (to_z-of_z m.ranges.system)

returns-then-magnitude : tie.Need-returns-then-magnitude
returns-then-magnitude c = c.iode.ensures ∙ ap iode_width (sym c.if-magnitude.true ∙ far c.before.before)

returns : tie.Need-returns
unfolding iode_width
returns c =
    let m = c.before.before in
    c.iode-2.ensures ∙ sym (rw (ne_eqb (mag m.args.system) 2 (λ e. c.if-magnitude.false (far m ∙ e))))

pub iode_by_spec : {M : Type 1} → statement M
iode_by_spec = tie.close (tie.spec (λ c κs. search rules) (λ c. search rules) (λ c κs. search rules) returns-then-magnitude (λ c κs. search rules) returns)
