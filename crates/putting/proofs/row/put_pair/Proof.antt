-- `putting::row::put_pair` meets its contract. Assumes nothing.
use Rattle.bits.proofs.Words.{rules}
use Rattle.putting.proofs.RowPens.{pair_shape, last_none, row_inks, push_ready, push_inks, pass_inks, inks_done}
use Rattle.putting.proofs.row.put_pair.Statement.{statement}
use Rattle.putting.proofs.row.put_pair.Tie as tie

returns : tie.Need-returns
returns c =
    let q = c.before.before in
    let r = q.before in
    let s = r in
    let none = last_none s.requires.1.valued (pair_shape s.args.s s.requires.0).fifth in
    inks_done (pass_inks (push_inks (row_inks s.requires.1) r.pair.ensures q.push.ensures.0 q.push.ensures.1) none.0 none.1)

pub put_pair_spec : {M : Type 1} → statement M
put_pair_spec =
    tie.close
    (tie.spec (λ c κs. let s = c in (s.requires.0, s.requires.1.valued)) (λ c κs. push_ready (row_inks c.requires.1) c.pair.ensures) (λ c. search rules) returns)
