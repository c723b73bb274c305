-- `matching::fits::values::values_fit` meets its contract. Assumes nothing.
use Rattle.bits.proofs.Words.{◌≡◌, sym, ap, ◌∙◌, List, ℕ}
use Rattle.format.specs.Rows.{Column}
use Rattle.format.specs.Writing.{rows_in}
use Rattle.rows.specs.Shapes.{columns_in}
use Rattle.matching.specs.Values.{rows_valued}
use Rattle.matching.proofs.ValueTests.{orbit_alike}
use Rattle.matching.proofs.fits.values.values_fit.Statement.{statement}
use Rattle.matching.proofs.fits.values.values_fit.Tie as tie

-- the same columns tell the same
by : (s : tie.Start) {f : ℕ → List Column} → f ≡ columns_in s.args.s
    → rows_valued f (rows_in s.args.count s.args.rows.now) ≡ rows_valued (columns_in s.args.s) (rows_in s.args.count s.args.rows.now)
by s e = ap (λ (g : ℕ → List Column). rows_valued g (rows_in s.args.count s.args.rows.now)) e

pub values_fit_spec : {M : Type 1} → statement M
values_fit_spec =
    tie.close
    (tie.spec (λ c κs. (c.requires.1, c.requires.0.fifth))
    (λ c. let s = c.before.before.before in c.orbits.ensures ∙ by s (sym (orbit_alike s.args.s.v1.width s.args.s.v5) ∙ ap columns_in (sym (s.requires.0.orbit c.if-s.true))))
    (λ c κs. (c.requires.1, c.requires.0.fifth)) (λ c. let s = c.before.before.before in c.lasts.ensures ∙ by s (ap columns_in (sym (s.requires.0.last c.if-s.false)))))
