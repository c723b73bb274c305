-- `matching::fits::line::cell_valued` meets its contract. Assumes nothing.
use Rattle.bits.proofs.Words.{◌≡◌, sym, ◌∙◌, Bool, true, ℕ, arith, rules, get_or, pos}
use Rattle.rows.specs.declared.shape.Column.{Column as CodeColumn}
use Rattle.rows.specs.Shapes.{column_of}
use Rattle.fitting.specs.Fits.{column_fits}
use Rattle.matching.proofs.RowTests.{read_fits, cell_by}
use Rattle.matching.proofs.fits.line.cell_valued.Statement.{statement}
use Rattle.matching.proofs.fits.line.cell_valued.Tie as tie

-- whether a column fits its value
abbrev fits : tie.Start → CodeColumn → ℕ → Bool
fits s c i = column_fits (column_of c) (get_or s.args.row.now i (pos 0))

-- what each call told
first : (c : tie.After-column_fits) → let s = c.before.before in c.column_fits.result ≡ fits s s.args.v1 3
first c = let s = c.before.before in read_fits s.args.v1 _ (record { sfits = c.column_fits-arg-1.given }) c.column_fits.ensures

second : (c : tie.After-column_fits-2) → let s = c.before.before.before.before.before in c.column_fits-2.result ≡ fits s s.args.v2 4
second c =
    let s = c.before.before.before.before.before in
    read_fits s.args.v2 _ (record { sfits = c.column_fits-arg-2-1.given }) c.column_fits-2.ensures

-- both columns fit
module _ (e : tie.Else-not-column_fits-2) where
  abbrev start : tie.Start
  start = e.before.before.before.before.before.before

  one : fits start start.args.v1 3 ≡ true
  one = let d = e.before.before.before in sym (first d.before) ∙ d.if-not-column_fits.false

  two : fits start start.args.v2 4 ≡ true
  two = sym (second e.before) ∙ e.if-not-column_fits-2.false

returns-then-not-column_fits : tie.Need-returns-then-not-column_fits
returns-then-not-column_fits c =
    rw (cell_by c.args.row.now c.requires.0 (column_of c.args.v1) (column_of c.args.v2) (column_of c.args.v3), sym (first c.before) ∙ c.if-not-column_fits.true)

returns-then-not-column_fits-2 : tie.Need-returns-then-not-column_fits-2
returns-then-not-column_fits-2 c =
    let d = c.before.before.before in
    rw (
      cell_by d.args.row.now d.requires.0 (column_of d.args.v1) (column_of d.args.v2) (column_of d.args.v3),
      sym (first d.before) ∙ d.if-not-column_fits.false,
      sym (second c.before) ∙ c.if-not-column_fits-2.true,
    )

returns-then-not-third : tie.Need-returns-then-not-third
returns-then-not-third c =
    let e = c.before.before in
    let s = start e in
    rw (cell_by s.args.row.now s.requires.0 (column_of s.args.v1) (column_of s.args.v2) (column_of s.args.v3), one e, two e, sym c.third.ensures ∙ c.if-not-third.true)

returns-then-not-absent_at : tie.Need-returns-then-not-absent_at
returns-then-not-absent_at c =
    let f = c.before.before in
    let e = f.before.before in
    let s = start e in
    rw (
      cell_by s.args.row.now s.requires.0 (column_of s.args.v1) (column_of s.args.v2) (column_of s.args.v3),
      one e,
      two e,
      sym f.third.ensures ∙ f.if-not-third.false,
      sym c.absent_at.ensures ∙ c.if-not-absent_at.true,
    )

returns : tie.Need-returns
returns c =
    let g = c.before in
    let f = g.before.before in
    let e = f.before.before in
    let s = start e in
    rw (
      cell_by s.args.row.now s.requires.0 (column_of s.args.v1) (column_of s.args.v2) (column_of s.args.v3),
      one e,
      two e,
      sym f.third.ensures ∙ f.if-not-third.false,
      sym g.absent_at.ensures ∙ g.if-not-absent_at.false,
    )
    c.absent_at-2.ensures

pub cell_valued_spec : {M : Type 1} → statement M
cell_valued_spec =
    tie.close
    (tie.spec (λ c. search rules) (λ c κs. search rules) returns-then-not-column_fits (λ c. search rules) (λ c κs. search rules) returns-then-not-column_fits-2 (λ c κs. search rules) returns-then-not-third
    (λ c κs. omega (arith, (start c.before.before).requires.0)) returns-then-not-absent_at (λ c κs. omega (arith, (start c.before.before.before.before).requires.0)) returns)
