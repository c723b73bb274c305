-- `putting::row::put_orbit` meets its contract. Assumes nothing.
use Rattle.bits.proofs.Words.{◌≡◌, sym, ap, subst, ◌∙◌, [], ◌∷◌, List, ℕ, ℤ, get_or, rules, pos}
use Rattle.format.specs.Messages.{iode_width}
use Rattle.rows.specs.declared.shape.Shape.{Shape}
use Rattle.rows.specs.Shapes.{orbit_of}
use Rattle.pens.proofs.Pens.{Inks}
use Rattle.putting.proofs.OwnColumns.{row_key}
use Rattle.putting.proofs.RowBits.{value_read}
use Rattle.putting.proofs.RowPens.{row_inks, push_ready, push_inks, inks_done}
use Rattle.putting.proofs.row.put_orbit.Statement.{statement}
use Rattle.putting.proofs.row.put_orbit.Tie as tie
use Rattle.putting.specs.Putting.{system_of, front_field, last_field, own_fields, orbit_on, Valued}

-- the row's shape
module _ (c : tie.After-orbit_in-own) where
  abbrev s : tie.Start
  s = c.before.before.before

  abbrev row : List ℤ
  row = s.args.row.now

  abbrev shape : Shape
  shape = orbit_on s.args.v5 row

  own : c.orbit_in-own.result ≡ shape
  own =
      c.orbit_in-own.ensures
      ∙ ap (λ (n : ℕ). orbit_of (iode_width n) s.args.v5) (ap system_of (value_read (get_or row 0 (pos 0)) c.orbit_in-arg-1.given) ∙ row_key row)

  valued : Valued c.orbit_in-own.result row
  valued = subst (λ (t : Shape). Valued t row) (sym own) s.requires.valued

-- the first four values
module _ (c : tie.After-front) where
  abbrev o : tie.After-orbit_in-own
  o = c.before.before

  first : c.front.result ≡ front_field (shape o) (row o)
  first = c.front.ensures ∙ ap (λ (t : Shape). front_field t (row o)) (own o)

-- they are pushed, and the fifth is left
module _ (c : tie.After-push-p) where
  abbrev a : tie.After-orbit_in-own
  a = o c.before

  pushed : Inks (s a).args.pen (own_fields (shape a) (row a)) (s a).args.bytes.now c.push-p.result (last_field (shape a) (row a) ∷ []) c.push-p.new.bytes
  pushed = push_inks (row_inks (s a).requires) (first c.before) c.push-p.ensures.0 c.push-p.ensures.1

module _ (c : tie.After-last) where
  abbrev p : tie.After-push-p
  p = c.before.before.before.before

  fifth : c.last.result ≡ last_field (shape (a p)) (row (a p))
  fifth = c.last.ensures ∙ ap (λ (t : Shape). last_field t (row (a p))) (own (a p))

returns : tie.Need-returns
returns c =
    let q = c.before.before in
    let l = q.before in
    inks_done (push_inks (pushed (p l)) (fifth l) q.push.ensures.0 q.push.ensures.1)

pub put_orbit_spec : {M : Type 1} → statement M
put_orbit_spec =
    tie.close
    (tie.spec (λ c. search rules) (λ c κs. search rules) (λ c κs. valued c.before) (λ c κs. push_ready (row_inks (s (o c)).requires) (first c)) (λ c κs. valued (a c.before.before.before))
    (λ c κs. push_ready (pushed (p c)) (fifth c)) (λ c. search rules) returns)
