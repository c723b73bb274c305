-- `putting::row::put_wide` meets its contract. Assumes nothing.
use Rattle.bits.proofs.Words.{◌≡◌, sym, ap, subst, ◌∙◌, [], ◌∷◌, arith, rules}
use Rattle.pens.proofs.Pens.{Inks}
use Rattle.rows.proofs.Table.{biases_narrow}
use Rattle.rows.specs.declared.shape.Shape.{Shape}
use Rattle.putting.proofs.RowPens.{last_none, row_inks, push_ready, push_inks, pass_inks, inks_done}
use Rattle.putting.proofs.row.put_wide.Statement.{statement}
use Rattle.putting.proofs.row.put_wide.Tie as tie
use Rattle.putting.specs.Putting.{own_fields, last_field, PutsRow}

-- the shape is the one that the compiler knows
module _ (c : tie.After-both) where
  abbrev told : tie.Then-tripled
  told = c.before.before

  abbrev s₁ : tie.Start
  s₁ = told.before.before.before

  same : s₁.args.s ≡ c.both.result
  same = s₁.requires.0 (sym told.tripled.ensures ∙ told.if-tripled.true) ∙ sym c.both.ensures

  puts : PutsRow c.both.result s₁.args.row.now s₁.args.pen s₁.args.bytes.now
  puts = subst (λ (t : Shape). PutsRow t s₁.args.row.now s₁.args.pen s₁.args.bytes.now) same s₁.requires.1

  fifth : c.both.result.v5.width ≡ 0
  fifth = ap (λ (t : Shape). t.v5.width) c.both.ensures ∙ (biases_narrow 3 (omega arith)).fifth

returns-then-tripled : tie.Need-returns-then-tripled
returns-then-tripled c =
    let q = c.before.before in
    let f = q.before in
    let b = f.before in
    let none = last_none (puts b).valued (fifth b) in
    let pushed = push_inks (row_inks (puts b)) f.front.ensures q.push.ensures.0 q.push.ensures.1 in
    rw (same b) (inks_done (pass_inks pushed none.0 none.1))

-- or the first four are pushed, and the fifth is left
module _ (c : tie.After-push-p) where
  abbrev s : tie.Start
  s = c.before.before.before.before.before.before

  pushed : Inks s.args.pen (own_fields s.args.s s.args.row.now) s.args.bytes.now c.push-p.result (last_field s.args.s s.args.row.now ∷ []) c.push-p.new.bytes
  pushed = push_inks (row_inks s.requires.1) c.front-2.ensures c.push-p.ensures.0 c.push-p.ensures.1

returns : tie.Need-returns
returns c =
    let q = c.before.before in
    let l = q.before in
    inks_done (push_inks (pushed l.before.before.before.before) l.last.ensures q.push-2.ensures.0 q.push-2.ensures.1)

pub put_wide_spec : {M : Type 1} → statement M
put_wide_spec =
    tie.close
    (tie.spec (λ c κs. search rules) (λ c κs. search rules) (λ c κs. (puts c).valued) (λ c κs. push_ready (row_inks (puts c.before)) c.front.ensures) (λ c. search rules) returns-then-tripled
    (λ c κs. c.requires.1.valued) (λ c κs. push_ready (row_inks c.requires.1) c.front-2.ensures)
    (λ c κs. (s c.before.before.before).requires.1.valued) (λ c κs. push_ready (pushed c.before.before.before.before) c.last.ensures) (λ c. search rules) returns)
