-- `bits::window::store_eight` meets its contract. Assumes nothing.
use Rattle.bits.proofs.Words.{arith, rules}
use lib.ListN.{length-set}
use Rattle.bits.specs.BitLists.{bytes}
use Rattle.bits.proofs.Stores.{stored}
use Rattle.bits.proofs.window.store_eight.Statement.{statement}
use Rattle.bits.proofs.window.store_eight.Tie as tie

pub store_eight_spec : {M : Type 1} → statement M
unfolding bytes
store_eight_spec =
    tie.close
    (tie.spec (λ c κs. search rules) (λ c. search rules) (λ c. search rules) (λ c. search rules) (λ c. simp length-set (omega arith)) (λ c. search rules)
    (λ c. simp length-set (omega arith)) (λ c. search rules) (λ c. simp length-set (omega arith)) (λ c. search rules) (λ c. simp length-set (omega arith))
    (λ c. search rules) (λ c. simp length-set (omega arith)) (λ c. search rules) (λ c. simp length-set (omega arith)) (λ c. search rules)
    (λ c. simp length-set (omega arith)) (λ c. simp length-set)
    (λ c. let s = c in rw c.split-new.ensures (stored s.args.bytes.now s.args.window (λ k. (s.slice_known-1.given k).fits))))
