-- `writer::plan::network_fits` meets its contract. Assumes nothing.
use Rattle.bits.proofs.Words.{◌≡◌, sym, ◌∙◌, pos, rules}
use mir.Facts.{to_z-of_z}
use Rattle.format.specs.Rows.{absent}
use Rattle.format.specs.Same.{sameℤ}
use Rattle.writer.proofs.Plans.{no_network, network_zero, some_network}
use Rattle.writer.proofs.plan.network_fits.Statement.{statement}
use Rattle.writer.proofs.plan.network_fits.Tie as tie

none : (c : tie.After-is_absent) → sameℤ c.args.network absent ≡ c.is_absent.result
none c = sym (rw (to_z-of_z c.ranges.network) at c.is_absent.ensures)

zero : (c : tie.After-is) → sameℤ c.args.network (pos 0) ≡ c.is.result
zero c = sym (rw (to_z-of_z c.ranges.network) at c.is.ensures)

returns : tie.Need-returns
returns c =
    let e = c.before.before.before in
    rw (to_z-of_z c.ranges.network) at c.fits.ensures ∙ sym (some_network c.args.network (none e.before ∙ e.if-is_absent.false) (zero c.before.before ∙ c.if-is.false))

pub network_fits_spec : {M : Type 1} → statement M
network_fits_spec =
    tie.close
    (tie.spec (λ c κs. search rules) (λ c. sym (no_network _ (none c.before ∙ c.if-is_absent.true))) (λ c κs. search rules) (λ c. sym (network_zero _ (zero c.before ∙ c.if-is.true)))
    (λ c κs. search rules) returns)
