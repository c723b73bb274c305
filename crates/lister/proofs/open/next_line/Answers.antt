use Rattle.std.proofs.Common.{◌≡◌, arith}
use Rattle.lister.specs.declared.Work.TheVariants.{Gathering}
use Rattle.lister.specs.Steps.{counted}
use Rattle.lister.proofs.open.next_line.Goals as goal

pub returns : goal.returns
unfolding counted
returns c =
    let more : c.saturating_add.result ≡ counted c.args.state.number = omega (arith, c.saturating_add.ensures) in
    λ i. record { number = more i; work = Gathering 0; holding = c.args.holding }
