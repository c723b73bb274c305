-- `body::cells_chosen` meets its contract. Assumes nothing.
use Rattle.bits.proofs.Words.{sym, arith}
use lib.Seq.{length-take-le}
use Rattle.body.proofs.cells_chosen.Statement.{statement}
use Rattle.body.proofs.cells_chosen.Tie as tie

pub cells_chosen_spec : {M : Type 1} → statement M
cells_chosen_spec =
    tie.close
    (tie.spec (λ c. c.requires.2 c.if-chosen-eq-ALL.true) (λ c. sym (length-take-le _ _ c.requires.1))
    (λ c κs. let s = c in omega (arith, s.requires.0, length-take-le s.args.n s.args.strips.now s.requires.1)) (λ c. c.count.ensures))
