-- `rows::row::ends` meets its contract. Assumes nothing.
use Rattle.bits.proofs.Words.{ap, ◌∙◌, List, ◌∷◌, rules, ℤ}
use mir.Facts.{to_z-of_z}
use mir.Syntax.{w32}
use Rattle.rows.proofs.Cuts.{values_ends}
use Rattle.rows.proofs.row.ends.Statement.{statement}
use Rattle.rows.proofs.row.ends.Tie as tie

returns : tie.Need-returns
returns c =
    let v5 = c.before.before.before in
    let v1 = v5.before in
    let s = v1 in
    let x = s.args in
    c.store.ensures
    ∙ rw (to_z-of_z {w = w32} (record { sfits = v1.sole.type_inv }), to_z-of_z {w = w32} (record { sfits = v5.sole-2.type_inv }))
    (ap (λ (l : List ℤ). x.key.system ∷ x.key.satellite ∷ x.key.signal ∷ l)
    (values_ends x.bytes.now x.at x.s s.requires.4 (s.requires.2.fourth s.requires.3) (s.requires.2.others s.requires.3) v1.sole.ensures v5.sole-2.ensures))

pub ends_spec : {M : Type 1} → statement M
ends_spec = tie.close (tie.spec (λ c κs. search rules) (λ c κs. search rules) (λ c κs. search rules) (λ c. search rules) returns)
