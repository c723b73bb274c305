-- `putting::row::put_last` meets its contract. Assumes nothing.
use Rattle.bits.proofs.Words.{[], ◌∷◌, rules}
use Rattle.pens.proofs.Pens.{Inks}
use Rattle.putting.proofs.RowPens.{ends_shape, front_none, row_inks, push_ready, push_inks, pass_inks, inks_done}
use Rattle.putting.proofs.row.put_last.Statement.{statement}
use Rattle.putting.proofs.row.put_last.Tie as tie
use Rattle.putting.specs.Putting.{own_fields, last_field}

-- the first four have no bits
passed : (s : tie.Start) → Inks s.args.pen (own_fields s.args.s s.args.row.now) s.args.bytes.now s.args.pen (last_field s.args.s s.args.row.now ∷ []) s.args.bytes.now
passed s =
    let none = front_none s.requires.1.valued (ends_shape s.args.s s.requires.0) in
    pass_inks (row_inks s.requires.1) none.0 none.1

returns : tie.Need-returns
returns c =
    let q = c.before.before in
    let l = q.before in
    inks_done (push_inks (passed l.before.before.before) l.last.ensures q.push.ensures.0 q.push.ensures.1)

pub put_last_spec : {M : Type 1} → statement M
put_last_spec =
    tie.close
    (tie.spec (λ c κs. c.requires.1.valued) (λ c κs. push_ready (passed c.before.before.before) c.last.ensures) (λ c. search rules) returns)
