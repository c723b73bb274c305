-- `rows::row::store` meets its contract. Assumes nothing.
use Rattle.bits.proofs.Words.{[], ◌∷◌, arith, rules}
use lib.ListN.{length-set}
use mir.Facts.{to_z-of_z}
use mir.Syntax.{w32}
use Rattle.bits.proofs.Lists.{stored_all}
use Rattle.rows.proofs.row.store.Statement.{statement}
use Rattle.rows.proofs.row.store.Tie as tie

returns : tie.Need-returns
returns c =
    let f = c.before.before.before.before.before in
    let s = f in
    let k = s.args.key in
    let v = s.args.v in
    let key = f.struct_told-3-1.given in
    let told = c.struct_told-8-1.given in
    rw (
      to_z-of_z {w = w32} {z = k.system} (record { sfits = key.0.1 }),
      to_z-of_z {w = w32} {z = k.satellite} (record { sfits = key.1.0.1 }),
      to_z-of_z {w = w32} {z = k.signal} (record { sfits = key.1.1.0.1 }),
      to_z-of_z {w = w32} {z = v.v1} (record { sfits = told.0.1 }),
      to_z-of_z {w = w32} {z = v.v2} (record { sfits = told.1.0.1 }),
      to_z-of_z {w = w32} {z = v.v3} (record { sfits = told.1.1.0.1 }),
      to_z-of_z {w = w32} {z = v.v4} (record { sfits = told.1.1.1.0.1 }),
      to_z-of_z {w = w32} {z = v.v5} (record { sfits = told.1.1.1.1.0.1 }),
    )
    (stored_all s.args.row.now (k.system ∷ k.satellite ∷ k.signal ∷ v.v1 ∷ v.v2 ∷ v.v3 ∷ v.v4 ∷ v.v5 ∷ []) s.requires)

pub store_spec : {M : Type 1} → statement M
store_spec =
    tie.close
    (tie.spec (λ c. search rules) (λ c. search rules) (λ c. search rules) (λ c. search rules) (λ c. simp length-set (omega arith))
    (λ c. simp length-set (omega arith)) (λ c. simp length-set (omega arith)) (λ c. simp length-set (omega arith)) (λ c. simp length-set) returns)
