-- What a piece is listed under.
use Rattle.lister.specs.Steps.{Good}
use Rattle.listing.proofs.run.Run.list.Given as goal

abbrev pub invariant-loop : goal.invariant-loop
invariant-loop g l = Good l.self.state l.self.line l.self.rows
