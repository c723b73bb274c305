-- `matching::fits::satellites::shape_in` meets its contract. Assumes nothing.
use Rattle.bits.proofs.Words.{◌∙◌, rules}
use Rattle.rows.proofs.Laid.{iode_some}
use Rattle.matching.specs.Matching.{shape_on}
use Rattle.matching.proofs.fits.satellites.shape_in.Statement.{statement}
use Rattle.matching.proofs.fits.satellites.shape_in.Tie as tie

pub shape_in_spec : {M : Type 1} → statement M
unfolding shape_on
shape_in_spec =
    tie.close
    (tie.spec (λ c κs. search rules) (λ c κs. iode_some _ c.iode.ensures)
    (λ c. c.orbit.ensures ∙ rw (c.if-s.true, c.iode.ensures)) (λ c. rw c.if-s.false))
