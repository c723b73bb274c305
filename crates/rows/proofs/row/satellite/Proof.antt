-- `rows::row::satellite` meets its contract. Assumes nothing.
use Rattle.bits.proofs.Words.{◌∙◌, arith, rules}
use mir.Facts.{to_z-of_z, to_z_pos}
use mir.Syntax.{w32}
use Rattle.rows.proofs.Laid.{iode_some, orbit_formed, orbit_columns, bare_columns}
use Rattle.rows.proofs.row.satellite.Statement.{statement}
use Rattle.rows.proofs.row.satellite.Tie as tie

wide-requires : tie.Need-wide-requires
wide-requires c κs =
    let s = c in
    let formed = orbit_formed c.iode.result s.args.s.v5 (iode_some s.args.system c.iode.ensures) s.requires.2.fifth in
    (s.requires.0, s.requires.1, rw c.orbit.ensures formed, s.requires.4)

returns-then-s : tie.Need-returns-then-s
returns-then-s c =
    let o = c.before.before in
    let t = o.before.before.before in
    let s = t in
    let x = s.args in
    c.wide.ensures ∙ rw (to_z_pos w32 {n = x.system} (omega arith), to_z-of_z s.ranges.number, o.orbit.ensures, o.iode.ensures, orbit_columns x.s s.requires.3 x.system t.if-s.true)

returns-then-s-eq0 : tie.Need-returns-then-s-eq0
returns-then-s-eq0 c =
    let e = c.before.before.before.before.before in
    let s = e in
    let x = s.args in
    c.ends.ensures ∙ rw (to_z_pos w32 {n = x.system} (omega arith), to_z-of_z s.ranges.number, bare_columns x.s s.requires.3 x.system e.if-s.false)

returns-else-s-eq0 : tie.Need-returns-else-s-eq0
returns-else-s-eq0 c =
    let e = c.before.before.before.before.before in
    let s = e in
    let x = s.args in
    c.wide-else-s-eq0.ensures ∙ rw (to_z_pos w32 {n = x.system} (omega arith), to_z-of_z s.ranges.number, bare_columns x.s s.requires.3 x.system e.if-s.false)

pub satellite_spec : {M : Type 1} → statement M
satellite_spec =
    tie.close
    (tie.spec (λ c. search rules) (λ c κs. search rules) (λ c κs. iode_some _ c.iode.ensures) wide-requires (λ c. search rules) (λ c κs. search rules) (λ c κs. search rules)
    (λ c. search rules) returns-then-s (λ c. search rules) returns-then-s-eq0 (λ c. search rules) returns-else-s-eq0)
