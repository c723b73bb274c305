-- `rows::shapes::shape_of` meets its contract. Assumes nothing.
use Rattle.bits.proofs.Words.{◌∙◌, true, false, rules}
use Rattle.format.specs.Messages.{code_shape, bias_shape}
use Rattle.format.proofs.Tables.{NoneOf}
use Rattle.rows.specs.Table.{shapes, listed, shape_at, shape_in}
use Rattle.rows.proofs.Laid.{iode_some}
use Rattle.rows.proofs.Table.{last_made, orbit_made, gaps_made}
use Rattle.rows.proofs.shapes.shape_of.Statement.{statement}
use Rattle.rows.proofs.shapes.shape_of.Tie as tie

pub shape_of_spec : {M : Type 1} → statement M
unfolding NoneOf shapes listed shape_at shape_in code_shape bias_shape
shape_of_spec =
    tie.close
    (tie.spec (λ c κs. search rules) (λ c κs. search rules) (λ c κs. search rules) (λ c κs. search rules) (λ c κs. iode_some 0 c.iode.ensures)
    (λ c κs. search rules) (λ c κs. search rules) (λ c κs. iode_some 0 c.iode-in-3.ensures) (λ c κs. search rules) (λ c κs. search rules)
    (λ c κs. search rules) (λ c κs. search rules) (λ c κs. search rules) (λ c κs. search rules) (λ c κs. search rules) (λ c κs. search rules) (λ c κs. search rules)
    (λ c κs. search rules)
    (λ c. c.last.ensures ∙ rw (c.counts.ensures, c.in-1.is) (last_made true 0))
    (λ c. c.orbit.ensures ∙ rw (c.gap.ensures, c.iode.ensures, c.in-2.is) (orbit_made false 0))
    (λ c. c.orbit-in-3.ensures ∙ rw (c.counts-in-3.ensures, c.iode-in-3.ensures, c.in-3.is) (orbit_made true 0))
    (λ c. c.clock.ensures ∙ rw c.in-4.is) (λ c. c.code.ensures ∙ rw c.in-5.is)
    (λ c. c.phase.ensures ∙ rw c.in-6.is) (λ c. c.packet.ensures ∙ rw c.in-7.is)
    (λ c. c.phases.ensures ∙ rw c.in-9.is) (λ c. c.code-in-10.ensures ∙ rw c.in-10.is)
    (λ c. c.both.ensures ∙ rw c.in-11.is) (λ c. c.accuracy.ensures ∙ rw c.in-12.is)
    (λ c. c.last-in_default.ensures ∙ rw c.gap-in_default.ensures (gaps_made _ 0 c.in_default.in_default-own.rest)))
