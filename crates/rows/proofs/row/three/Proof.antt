-- `rows::row::three` meets its contract. Assumes nothing.
use Rattle.bits.proofs.Words.{refl, ap, ◌∙◌, List, ◌∷◌, ℕ, ◌+◌, ◌-◌, ◌%◌, ◌≤◌, arith, rules, ℤ}
use mir.Facts.{to_z-of_z}
use mir.Syntax.{w32}
use Rattle.rows.proofs.Cuts.{down_small, down_lt, values_three}
use Rattle.rows.proofs.row.three.Statement.{statement}
use Rattle.rows.proofs.row.three.Tie as tie

module _ (w : tie.After-eight) where
  abbrev start : tie.Start
  start = w.before.before.before.before

  -- how many bits lie below the third column in the window
  abbrev below : ℕ
  below = let h = start.args.s in 64 - (h.v1.width + (h.v2.width + h.v3.width)) - start.args.at % 8

  some : 1 ≤ below
  some = omega (arith, start.requires.1.window)

returns : tie.Need-returns
returns c =
    let v3 = c.before.before.before in
    let v2 = v3.before in
    let v1 = v2.before in
    let w = v1.before in
    let s = start w.before.before.before in
    let x = s.args in
    c.store.ensures
    ∙ rw (to_z-of_z {w = w32} (record { sfits = v1.value.type_inv }), to_z-of_z {w = w32} (record { sfits = v2.value-2.type_inv }), to_z-of_z {w = w32} (record { sfits = v3.value-3.type_inv }))
    (ap (λ (l : List ℤ). x.key.system ∷ x.key.satellite ∷ x.key.signal ∷ l)
    (values_three x.bytes.now x.at x.s w.eight.ensures s.requires.1 s.requires.2 (below w.before.before.before) refl v1.value.ensures v2.value-2.ensures v3.value-3.ensures))

pub three_spec : {M : Type 1} → statement M
three_spec =
    tie.close
    (tie.spec (λ c. search rules) (λ c. search rules) (λ c κs. search rules) (λ c. search rules) (λ c. search rules) (λ c. search rules)
    (λ c. search rules) (λ c κs. let s = start c.before in (down_lt s.args.bytes.now s.args.at c.eight.ensures (below c.before) _ (some c.before), s.requires.1.first))
    (λ c. search rules) (λ c κs. let w = c.before in let s = start w.before.before in (down_lt s.args.bytes.now s.args.at w.eight.ensures (below w.before.before) _ (some w.before.before), s.requires.1.second))
    (λ c κs. let w = c.before.before in let s = start w.before.before.before in (down_small s.args.bytes.now s.args.at w.eight.ensures (below w.before.before.before) (some w.before.before.before), s.requires.1.third))
    (λ c κs. search rules) (λ c. search rules) returns)
