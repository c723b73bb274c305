-- `matching::fits::rows_fit` meets its contract. Assumes nothing.
use Rattle.bits.proofs.Words.{◌≡◌, sym, ap, ◌∙◌, ◌*◌, rules}
use lib.Seq.{length-take-le}
use Rattle.body.specs.Lent.{view_by}
use Rattle.format.specs.Writing.{rows_in}
use Rattle.table.specs.Bodies.{lines_in}
use Rattle.fitting.specs.Fits.{rows_fit}
use Rattle.matching.proofs.Matching.{ended, all_rows}
use Rattle.matching.proofs.fits.rows_fit.Statement.{statement}
use Rattle.matching.proofs.fits.rows_fit.Tie as tie

-- what the call told says whether all rows fit
told : (c : tie.After-reach-far) → let x = c.args in
    ended (8 * x.count) c.reach-far.result ≡ rows_fit (lines_in (view_by x.ids.now x.masks.now x.strips.now) x.shaped.body) (rows_in x.count x.rows.now)
told c = ap (ended (8 * c.args.count)) c.reach-far.ensures ∙ sym (all_rows _ c.args.count c.args.rows.now c.requires.2)

pub rows_fit_spec : {M : Type 1} → statement M
unfolding ended
rows_fit_spec =
    tie.close
    (tie.spec (λ c. search rules) (λ c. sym (length-take-le (8 * c.args.count) c.args.rows.now c.requires.2)) (λ c κs. search rules)
    (λ c. search rules) (λ c. search rules)
    (λ c. ap (ended (8 * c.args.count)) (sym c.in-Not.is) ∙ told c.before)
    (λ c. ap (ended (8 * c.args.count)) (sym c.in-To.is) ∙ told c.before))
