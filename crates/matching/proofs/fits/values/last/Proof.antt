-- `matching::fits::values::last` meets its contract. Assumes nothing.
use Rattle.bits.proofs.Words.{◌≡◌, sym, ◌∙◌, true, ℕ, arith, get_or, pos}
use Rattle.format.specs.Rows.{absent}
use Rattle.format.specs.Same.{sameℤ}
use Rattle.matching.proofs.RowTests.{read_fits}
use Rattle.matching.proofs.ValueTests.{last_by}
use Rattle.matching.proofs.fits.values.last.Statement.{statement}
use Rattle.matching.proofs.fits.values.last.Tie as tie

-- a number of the row is absent
abbrev Gone : tie.Start → ℕ → Type 0
Gone s i = sameℤ (get_or s.args.row.now i (pos 0)) absent ≡ true

-- what each test told, the one behind the other
one : (e : tie.Else-not-absent_at) → Gone e.before.before 2
one e = sym e.absent_at.ensures ∙ e.if-not-absent_at.false

two : (e : tie.Else-not-absent_at-2) → Gone e.before.before.before.before 3
two e = sym e.absent_at-2.ensures ∙ e.if-not-absent_at-2.false

three : (e : tie.Else-not-absent_at-3) → Gone e.before.before.before.before.before.before 4
three e = sym e.absent_at-3.ensures ∙ e.if-not-absent_at-3.false

four : (e : tie.Else-not-absent_at-4) → Gone e.before.before.before.before.before.before.before.before 5
four e = sym e.absent_at-4.ensures ∙ e.if-not-absent_at-4.false

five : (e : tie.Else-not-absent_at-5) → Gone e.before.before.before.before.before.before.before.before.before.before 6
five e = sym e.absent_at-5.ensures ∙ e.if-not-absent_at-5.false

returns-then-not-absent_at : tie.Need-returns-then-not-absent_at
returns-then-not-absent_at c =
    rw (last_by c.args.row.now c.requires.0 c.args.v5, sym c.absent_at.ensures ∙ c.if-not-absent_at.true)

returns-then-not-absent_at-2 : tie.Need-returns-then-not-absent_at-2
returns-then-not-absent_at-2 c =
    let e = c.before.before in
    let s = e in
    rw (last_by s.args.row.now s.requires.0 s.args.v5, one e, sym c.absent_at-2.ensures ∙ c.if-not-absent_at-2.true)

returns-then-not-absent_at-3 : tie.Need-returns-then-not-absent_at-3
returns-then-not-absent_at-3 c =
    let f = c.before.before in
    let e = f.before.before in
    let s = e in
    rw (last_by s.args.row.now s.requires.0 s.args.v5, one e, two f, sym c.absent_at-3.ensures ∙ c.if-not-absent_at-3.true)

returns-then-not-absent_at-4 : tie.Need-returns-then-not-absent_at-4
returns-then-not-absent_at-4 c =
    let g = c.before.before in
    let f = g.before.before in
    let e = f.before.before in
    let s = e in
    rw (last_by s.args.row.now s.requires.0 s.args.v5, one e, two f, three g, sym c.absent_at-4.ensures ∙ c.if-not-absent_at-4.true)

returns-then-not-absent_at-5 : tie.Need-returns-then-not-absent_at-5
returns-then-not-absent_at-5 c =
    let h = c.before.before in
    let g = h.before.before in
    let f = g.before.before in
    let e = f.before.before in
    let s = e in
    rw (last_by s.args.row.now s.requires.0 s.args.v5, one e, two f, three g, four h, sym c.absent_at-5.ensures ∙ c.if-not-absent_at-5.true)

returns : tie.Need-returns
returns c =
    let a = c.before in
    let k = a.before in
    let h = k.before.before in
    let g = h.before.before in
    let f = g.before.before in
    let e = f.before.before in
    let s = e in
    rw (last_by s.args.row.now s.requires.0 s.args.v5, one e, two f, three g, four h, five k)
    (read_fits s.args.v5 (get_or s.args.row.now 7 (pos 0)) (record { sfits = a.column_fits-arg-1.given }) c.column_fits.ensures)

pub last_spec : {M : Type 1} → statement M
last_spec =
    tie.close
    (tie.spec (λ c κs. omega (arith, c.requires.0)) returns-then-not-absent_at (λ c κs. omega (arith, c.requires.0)) returns-then-not-absent_at-2 (λ c κs. omega (arith, c.requires.0)) returns-then-not-absent_at-3
    (λ c κs. omega (arith, c.requires.0)) returns-then-not-absent_at-4 (λ c κs. omega (arith, c.requires.0)) returns-then-not-absent_at-5
    (λ c. omega (arith, c.requires.0)) (λ c κs. c.requires.1) returns)
