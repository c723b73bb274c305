-- `body::satellites::size_alike` meets its contract. Assumes nothing.
use Rattle.bits.proofs.Words.{◌∙◌, arith, rules}
use Rattle.body.proofs.Sizes.{few_ones}
use Rattle.body.proofs.satellites.size_alike.Statement.{statement}
use Rattle.body.proofs.satellites.size_alike.Tie as tie

pub size_alike_spec : {M : Type 1} → statement M
size_alike_spec =
    tie.close
    (tie.spec (λ c κs. search rules)
    (λ c κs. let s = c in (omega (arith, few_ones s.args.chosen s.args.n (omega arith) s.requires.0, c.picked.ensures), s.requires.1))
    (λ c. c.alike.ensures ∙ rw c.picked.ensures))
