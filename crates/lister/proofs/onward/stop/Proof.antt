-- `lister::onward::stop` meets its contract. Assumes nothing.
use borrow.Author.Rules.{rules}
use Rattle.format.specs.Listing.{stop_values}
use Rattle.lister.proofs.onward.stop.Statement.{statement}
use Rattle.lister.proofs.onward.stop.Tie as tie

returns : tie.Need-returns
unfolding stop_values
returns c =
    ((λ i. record { state = c.args.next; taken = 0; given = c.stop-given.ensures.0 i }), (c.stop-given.ensures.1.0, c.stop-given.ensures.1.1))

pub stop_spec : {M : Type 1} → statement M
stop_spec = tie.close (tie.spec (λ c κs. search rules) (λ c. search rules) returns)
