-- What a piece is listed under, and what was taken within the piece.
use Rattle.std.proofs.Common.{◌≤◌, length}
use Rattle.lister.specs.Steps.{Good}
use Rattle.listing.proofs.run.Run.pour.Given as goal

abbrev pub invariant-loop : goal.invariant-loop
invariant-loop g l = record {
  good : Good l.state l.self.line l.self.rows;
  taken_in_bounds : l.taken ≤ length l.piece;
}
