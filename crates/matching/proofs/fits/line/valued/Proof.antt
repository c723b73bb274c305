-- `matching::fits::line::valued` meets its contract. Assumes nothing.
use Rattle.bits.proofs.Words.{◌≡◌, sym, ◌∙◌, Bool, ℕ, rules, get_or, pos}
use Rattle.rows.specs.declared.shape.Column.{Column as CodeColumn}
use Rattle.rows.specs.Shapes.{column_of}
use Rattle.fitting.specs.Fits.{column_fits}
use Rattle.matching.proofs.RowTests.{read_fits, shape_by}
use Rattle.matching.proofs.fits.line.valued.Statement.{statement}
use Rattle.matching.proofs.fits.line.valued.Tie as tie

-- whether a column fits its value, of which it is known that it has 32 bits
abbrev fits : tie.Start → CodeColumn → ℕ → Bool
fits s c i = column_fits (column_of c) (get_or s.args.row.now i (pos 0))

-- what each call told
first : (c : tie.After-column_fits) → let s = c.before.before.before in c.column_fits.result ≡ fits s s.args.s.v1 3
first c = let s = c.before.before.before in read_fits s.args.s.v1 _ (record { sfits = c.column_fits-arg-1.given }) c.column_fits.ensures

second : (c : tie.After-column_fits-2) → let s = c.before.before.before.before.before.before.before in c.column_fits-2.result ≡ fits s s.args.s.v2 4
second c =
    let s = c.before.before.before.before.before.before.before in
    read_fits s.args.s.v2 _ (record { sfits = c.column_fits-arg-3-1.given }) c.column_fits-2.ensures

fifth : (c : tie.After-column_fits-3) → let s = c.before.before.before.before.before.before.before.before.before.before.before.before.before in c.column_fits-3.result ≡ fits s s.args.s.v5 7
fifth c =
    let s = c.before.before.before.before.before.before.before.before.before.before.before.before.before in
    read_fits s.args.s.v5 _ (record { sfits = c.column_fits-arg-5-1.given }) c.column_fits-3.ensures

returns-then-not-column_fits : tie.Need-returns-then-not-column_fits
returns-then-not-column_fits c =
    rw (shape_by c.args.row.now c.requires.0 c.args.s, sym (first c.before) ∙ c.if-not-column_fits.true)

returns-then-not-column_fits-2 : tie.Need-returns-then-not-column_fits-2
returns-then-not-column_fits-2 c =
    let e = c.before.before.before.before in
    rw (shape_by e.args.row.now e.requires.0 e.args.s, sym (first e.before) ∙ e.if-not-column_fits.false, sym (second c.before) ∙ c.if-not-column_fits-2.true)

returns-then-not-middle : tie.Need-returns-then-not-middle
returns-then-not-middle c =
    let f = c.before.before in
    let e = f.before.before.before.before in
    rw (
      shape_by e.args.row.now e.requires.0 e.args.s,
      sym (first e.before) ∙ e.if-not-column_fits.false,
      sym (second f.before) ∙ f.if-not-column_fits-2.false,
      sym c.middle.ensures ∙ c.if-not-middle.true,
    )

returns : tie.Need-returns
returns c =
    let g = c.before.before.before in
    let f = g.before.before in
    let e = f.before.before.before.before in
    rw (
      shape_by e.args.row.now e.requires.0 e.args.s,
      sym (first e.before) ∙ e.if-not-column_fits.false,
      sym (second f.before) ∙ f.if-not-column_fits-2.false,
      sym g.middle.ensures ∙ g.if-not-middle.false,
    )
    (fifth c)

pub valued_spec : {M : Type 1} → statement M
valued_spec =
    tie.close
    (tie.spec (λ c. search rules) (λ c κs. search rules) returns-then-not-column_fits (λ c. search rules) (λ c κs. search rules) returns-then-not-column_fits-2 (λ c κs. search rules) returns-then-not-middle
    (λ c. search rules) (λ c κs. search rules) returns)
