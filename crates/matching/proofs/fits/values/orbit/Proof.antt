-- `matching::fits::values::orbit` meets its contract. Assumes nothing.
use Rattle.bits.proofs.Words.{◌≡◌, sym, ap, ◌∙◌, List, ℕ, arith, rules, get_or, drop, ℤ, pos}
use mir.Syntax.{w32}
use mir.Facts.{to_z-of_z}
use Rattle.format.specs.Messages.{iode_width}
use Rattle.format.specs.Rows.{Column}
use Rattle.rows.proofs.Laid.{iode_some, orbit_formed}
use Rattle.rows.specs.Shapes.{columns_of, columns_in, orbit_of}
use Rattle.fitting.specs.Fits.{values_fit}
use Rattle.matching.specs.Values.{own_system, row_valued}
use Rattle.matching.proofs.ValueTests.{orbit_own}
use Rattle.matching.proofs.fits.values.orbit.Statement.{statement}
use Rattle.matching.proofs.fits.values.orbit.Tie as tie

-- the columns by which the values are tested
tested : (c : tie.After-orbit) → let s = c.before.before.before.before.before in
    columns_of c.orbit.result ≡ columns_in (orbit_of 8 s.args.v5) (own_system (get_or s.args.row.now 0 (pos 0)))
tested c =
    let o = c.before in
    let s = o.before.before.before.before in
    let key : ℤ = get_or s.args.row.now 0 (pos 0) in
    let wide : o.own_iode.result ≡ iode_width (own_system key) = o.own_iode.ensures ∙ ap (λ (k : ℤ). iode_width (own_system k)) (to_z-of_z {w = w32} (record { sfits = o.own_iode-arg-1.given })) in
    ap columns_of c.orbit.ensures ∙ ap (λ (w : ℕ). columns_of (orbit_of w s.args.v5)) wide ∙ orbit_own s.args.v5 (own_system key)

returns-then-not-absent_at : tie.Need-returns-then-not-absent_at
unfolding row_valued
returns-then-not-absent_at c = rw (sym c.absent_at.ensures ∙ c.if-not-absent_at.true)

returns : tie.Need-returns
unfolding row_valued
returns c =
    let e = c.before.before.before.before in
    let s = e in
    rw (sym e.absent_at.ensures ∙ e.if-not-absent_at.false) (c.valued.ensures ∙ ap (λ (cs : List Column). values_fit cs (drop 3 s.args.row.now)) (tested c.before))

pub orbit_spec : {M : Type 1} → statement M
orbit_spec =
    tie.close
    (tie.spec (λ c κs. omega (arith, c.requires.0)) returns-then-not-absent_at (λ c. omega (arith, c.requires.0)) (λ c κs. search rules) (λ c κs. iode_some _ c.own_iode.ensures)
    (λ c κs. let o = c.before in let s = o in (s.requires.0, rw c.orbit.ensures (orbit_formed o.own_iode.result s.args.v5 (iode_some _ o.own_iode.ensures) s.requires.1))) returns)
