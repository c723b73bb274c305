-- `rows::row::wide` meets its contract. Assumes nothing.
use Rattle.bits.proofs.Words.{refl, ap, ◌∙◌, List, ◌∷◌, ℕ, ◌+◌, ◌-◌, ◌%◌, rules, ℤ}
use mir.Facts.{to_z-of_z}
use mir.Syntax.{w32}
use Rattle.rows.proofs.Cuts.{half_lt, moved_lt, values_wide}
use Rattle.rows.proofs.row.wide.Statement.{statement}
use Rattle.rows.proofs.row.wide.Tie as tie

abbrev start : tie.After-eight-half → tie.Start
start w = w.before.before.before.before.before

-- how many bits lie below the fourth column in the half window
abbrev below : tie.Start → ℕ
below s = let h = s.args.s in 63 - s.args.at % 8 - (h.v1.width + (h.v2.width + (h.v3.width + h.v4.width)))

returns : tie.Need-returns
returns c =
    let v5 = c.before.before.before in
    let v4 = v5.before in
    let v3 = v4.before in
    let v2 = v3.before in
    let v1 = v2.before in
    let w = v1.before in
    let s = start w.before.before.before.before.before in
    let x = s.args in
    c.store.ensures
    ∙ rw (to_z-of_z {w = w32} (record { sfits = v1.value.type_inv }), to_z-of_z {w = w32} (record { sfits = v2.value-2.type_inv }), to_z-of_z {w = w32} (record { sfits = v3.value-3.type_inv }), to_z-of_z {w = w32} (record { sfits = v4.value-4.type_inv }), to_z-of_z {w = w32} (record { sfits = v5.alone.type_inv }))
    (ap (λ (l : List ℤ). x.key.system ∷ x.key.satellite ∷ x.key.signal ∷ l)
    (values_wide x.bytes.now x.at x.s w.eight-half.ensures s.requires.2 (below s) refl _ _ _ _ _ v1.value.ensures v2.value-2.ensures v3.value-3.ensures v4.value-4.ensures v5.alone.ensures))

pub wide_spec : {M : Type 1} → statement M
wide_spec =
    tie.close
    (tie.spec (λ c. search rules) (λ c. search rules) (λ c. search rules) (λ c κs. search rules) (λ c. search rules) (λ c. search rules) (λ c. search rules)
    (λ c. search rules) (λ c κs. let s = start c.before in (moved_lt s.args.bytes.now s.args.at c.eight-half.ensures (below s) _, s.requires.2.first))
    (λ c. search rules)
    (λ c κs. let w = c.before in let s = start w.before.before in (moved_lt s.args.bytes.now s.args.at w.eight-half.ensures (below s) _, s.requires.2.second))
    (λ c. search rules)
    (λ c κs. let w = c.before.before in let s = start w.before.before.before in (moved_lt s.args.bytes.now s.args.at w.eight-half.ensures (below s) _, s.requires.2.third))
    (λ c κs. let w = c.before.before.before in let s = start w.before.before.before.before in (half_lt s.args.bytes.now s.args.at w.eight-half.ensures _, s.requires.2.fourth))
    (λ c. search rules) (λ c κs. search rules) (λ c κs. search rules) (λ c. search rules) returns)
