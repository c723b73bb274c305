-- `body::alike` meets its contract. Assumes nothing.
use Rattle.bits.proofs.Words.{◌*◌, ◌≤◌, arith, rules}
use native.Mathlib.Nat.{mul-le-mul}
use Rattle.body.proofs.alike.Statement.{statement}
use Rattle.body.proofs.alike.Tie as tie

pub alike_spec : {M : Type 1} → statement M
alike_spec =
    tie.close
    (tie.spec (λ c. let less : c.args.rows * c.args.width ≤ 256 * 71 = mul-le-mul c.requires.0 c.requires.1 in omega (arith, less)) (λ c. search rules))
