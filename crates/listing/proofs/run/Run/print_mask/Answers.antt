-- The saved line lies within the buffer.
use Rattle.std.proofs.Common.{◌≤◌, length, sym, ◌∙◌, arith}
use Rattle.holding.specs.Pictures.{lent_by}
use Rattle.listing.proofs.Sounds.{saved_fits}
use Rattle.listing.proofs.run.Run.print_mask.Goals as goal

pub shared_ref_as_front-write_all : goal.shared_ref_as_front-write_all
shared_ref_as_front-write_all g c =
    let run = c.args.self.now in
    let fits : c.in-Ok.n ≤ length run.out = saved_fits (lent_by run.state.holding) run.out _ (sym c.save.ensures.value ∙ c.in-Ok.is) in
    omega (arith, fits, c.save.auto.line)
