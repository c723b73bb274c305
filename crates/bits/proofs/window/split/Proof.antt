-- `bits::window::split` meets its contract. Assumes nothing.
use borrow.Author.Rules.{rules}
use Rattle.bits.proofs.Stores.{split_bytes}
use Rattle.bits.proofs.window.split.Statement.{statement}
use Rattle.bits.proofs.window.split.Tie as tie

pub split_spec : {M : Type 1} → statement M
split_spec =
    tie.close
    (tie.spec (λ c. search rules) (λ c. search rules) (λ c. search rules) (λ c. search rules) (λ c. search rules) (λ c. search rules) (λ c. search rules)
    (λ c. search rules) (λ c. split_bytes c.args.window))
