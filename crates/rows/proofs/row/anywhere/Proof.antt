-- `rows::row::anywhere` meets its contract. Assumes nothing.
use Rattle.bits.proofs.Words.{ap, ◌∙◌, List, ◌∷◌, ℕ, ◌^◌, ◌/◌, ◌<◌, arith, rules, ℤ}
use mir.Facts.{to_z-of_z}
use mir.Syntax.{w32}
use Rattle.rows.proofs.Cuts.{front_lt, rest_lt, values_front}
use Rattle.rows.proofs.row.anywhere.Statement.{statement}
use Rattle.rows.proofs.row.anywhere.Tie as tie

module _ (c : tie.After-read_field-four) where
  abbrev s : tie.Start
  s = c.before.before.before.before.before

  -- what is left of the field below a column
  rest : (t : ℕ) → c.read_field-four.result / 2 ^ t < 2 ^ 63
  rest = rest_lt s.args.bytes.now s.args.at _ c.read_field-four.ensures (omega (arith, s.requires.2.window))

returns : tie.Need-returns
returns c =
    let v5 = c.before.before.before in
    let v4 = v5.before in
    let v3 = v4.before in
    let v2 = v3.before in
    let v1 = v2.before in
    let r = v1.before in
    let x = (s r.before.before.before.before.before).args in
    c.store.ensures
    ∙ rw (to_z-of_z {w = w32} (record { sfits = v1.value.type_inv }), to_z-of_z {w = w32} (record { sfits = v2.value-2.type_inv }), to_z-of_z {w = w32} (record { sfits = v3.value-3.type_inv }), to_z-of_z {w = w32} (record { sfits = v4.value-4.type_inv }), to_z-of_z {w = w32} (record { sfits = v5.tested.type_inv }))
    (ap (λ (l : List ℤ). x.key.system ∷ x.key.satellite ∷ x.key.signal ∷ l)
    (values_front x.bytes.now x.at x.s r.read_field-four.ensures _ _ _ _ _ v1.value.ensures v2.value-2.ensures v3.value-3.ensures v4.value-4.ensures v5.tested.ensures))

pub anywhere_spec : {M : Type 1} → statement M
anywhere_spec =
    tie.close
    (tie.spec (λ c. search rules) (λ c. search rules) (λ c. search rules) (λ c κs. search rules) (λ c. search rules) (λ c κs. (rest c.before _, (s c.before).requires.2.first)) (λ c. search rules)
    (λ c κs. let r = c.before in (rest r.before.before _, (s r.before.before).requires.2.second)) (λ c. search rules) (λ c κs. let r = c.before.before in (rest r.before.before.before _, (s r.before.before.before).requires.2.third))
    (λ c κs. let r = c.before.before.before in (front_lt (s r.before.before.before.before).args.bytes.now (s r.before.before.before.before).args.at _ r.read_field-four.ensures (omega (arith, (s r.before.before.before.before).requires.2.window)), (s r.before.before.before.before).requires.2.fourth))
    (λ c. search rules) (λ c κs. search rules) (λ c κs. search rules) (λ c. search rules) returns)
