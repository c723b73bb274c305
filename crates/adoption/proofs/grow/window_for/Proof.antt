-- `adoption::grow::window_for` meets its contract. Assumes nothing.
use native.Mathlib.Omega.{arith}
use borrow.Author.Tests.{lt-ltb, le-ltb}
use Rattle.adoption.specs.Growing.{window_for}
use Rattle.adoption.proofs.grow.window_for.Statement.{statement}
use Rattle.adoption.proofs.grow.window_for.Tie as tie

pub window_for_spec : {M : Type 1} → statement M
unfolding window_for
window_for_spec =
    tie.close
    (tie.spec (λ c. c.requires.2) (λ c. omega (arith, c.requires)) (λ c. rw (lt-ltb _ 64 c.if-at-last-lt64.true)) (λ c κs. omega arith)
    (λ c. omega arith) (λ c. rw (le-ltb _ 64 c.if-at-last-lt64.false, c.window_at.ensures)))
