use Rattle.body.specs.Near.{named}
use Rattle.body.proofs.near.body.Goals as goal

pub returns : goal.returns
unfolding named
returns c = rw c.if-not-near.false
