-- `body::satellites_size` meets its contract. Assumes nothing.
use Rattle.bits.proofs.Words.{◌≡◌, arith, rules}
use mathlib.Core.Logic.{⊎_elim}
use Rattle.rows.proofs.Table.{width_at}
use Rattle.body.proofs.Bodies.{alike}
use Rattle.body.proofs.satellites_size.Statement.{statement}
use Rattle.body.proofs.satellites_size.Tie as tie

returns-then-shape-lt-ORBIT : tie.Need-returns-then-shape-lt-ORBIT
returns-then-shape-lt-ORBIT c =
    let j = c.before.before in
    let s = j in
    let x = s.args in
    let not-orbit : x.shape ≡ 2 → ⊥ = λ e. ⊎_elim (λ w. omega arith) (λ w. omega arith) j.then-shape-lt-ORBIT.either in
    let not-both : x.shape ≡ 3 → ⊥ = λ e. ⊎_elim (λ w. omega arith) (λ w. omega arith) j.then-shape-lt-ORBIT.either in
    rw c.size_alike.ensures (alike _ x.n s.requires.1 s.requires.2 x.chosen x.shape _ (omega arith) not-orbit not-both c.width_of.ensures)

pub satellites_size_spec : {M : Type 1} → statement M
satellites_size_spec =
    tie.close
    (tie.spec (λ c κs. search rules) (λ c κs. let s = c in (s.requires.2, omega (arith, c.width_of.ensures, width_at 0 s.args.shape))) returns-then-shape-lt-ORBIT (λ c κs. search rules)
    (λ c. c.size.ensures))
