-- `rows::shapes::orbit` meets its contract. Assumes nothing.
use borrow.Author.Rules.{rules}
use Rattle.rows.specs.Shapes.{orbit_of}
use Rattle.rows.proofs.shapes.orbit.Statement.{statement}
use Rattle.rows.proofs.shapes.orbit.Tie as tie

pub orbit_spec : {M : Type 1} → statement M
unfolding orbit_of
orbit_spec =
    tie.close
    (tie.spec (λ c κs. search rules) (λ c κs. search rules) (λ c κs. search rules)
    (λ c. rw (c.plain.ensures, c.counts.ensures, c.counts-across.ensures)))
