-- `matching::fits::line::middle` meets its contract. Assumes nothing.
use Rattle.bits.proofs.Words.{◌≡◌, sym, ◌∙◌, Bool, ℕ, arith, rules, get_or, pos}
use Rattle.rows.specs.declared.shape.Column.{Column as CodeColumn}
use Rattle.rows.specs.Shapes.{column_of}
use Rattle.fitting.specs.Fits.{column_fits}
use Rattle.matching.proofs.RowTests.{gap_fits, read_fits}
use Rattle.matching.proofs.fits.line.middle.Statement.{statement}
use Rattle.matching.proofs.fits.line.middle.Tie as tie

-- whether a column fits its value
abbrev fits : tie.Start → CodeColumn → ℕ → Bool
fits s c i = column_fits (column_of c) (get_or s.args.row.now i (pos 0))

-- both are gaps
none : (c : tie.After-absent_at) → let s = c.before.before.before in c.absent_at.result ≡ fits s s.args.s.v3 5
none c = let s = c.before.before.before in c.absent_at.ensures ∙ gap_fits s.args.s.v3 _ (omega (arith, c.if-s-eq0.true))

none-either : (c : tie.After-absent_at-then-s-eq0) → let s = c.before.before.before.before.before in c.absent_at-then-s-eq0.result ≡ fits s s.args.s.v4 6
none-either c = c.absent_at-then-s-eq0.ensures ∙ gap_fits c.args.s.v4 _ (omega (arith, c.if-s-eq0.true))

-- neither is a gap
third : (c : tie.After-column_fits) → let s = c.before.before.before.before.before in c.column_fits.result ≡ fits s s.args.s.v3 5
third c = let s = c.before.before.before.before.before in read_fits s.args.s.v3 _ (record { sfits = c.column_fits-arg-1.given }) c.column_fits.ensures

fourth : (c : tie.After-column_fits-2) → let s = c.before.before.before.before.before.before.before.before.before in c.column_fits-2.result ≡ fits s s.args.s.v4 6
fourth c =
    let s = c.before.before.before.before.before.before.before.before.before in
    read_fits s.args.s.v4 _ (record { sfits = c.column_fits-arg-3-1.given }) c.column_fits-2.ensures

pub middle_spec : {M : Type 1} → statement M
middle_spec =
    tie.close
    (tie.spec (λ c. omega (arith, c.requires.1.window)) (λ c κs. omega (arith, c.requires.0)) (λ c. rw (sym (none c.before) ∙ c.if-not-absent_at.true))
    (λ c κs. omega (arith, c.requires.0)) (λ c. let e = c.before in rw (sym (none e.before) ∙ e.if-not-absent_at.false) (none-either c)) (λ c. search rules) (λ c κs. search rules)
    (λ c. rw (sym (third c.before) ∙ c.if-not-column_fits.true)) (λ c. search rules) (λ c κs. search rules)
    (λ c. let e = c.before.before.before in rw (sym (third e.before) ∙ e.if-not-column_fits.false) (fourth c)))
