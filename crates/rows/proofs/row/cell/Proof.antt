-- `rows::row::cell` meets its contract. Assumes nothing.
use Rattle.bits.proofs.Words.{◌≡◌, sym, ap, subst, ◌∙◌, false, ◌&&◌, List, ◌∷◌, ℕ, zero, suc, ◌≤◌, arith, rules, eqb, ltb, ℤ}
use mathlib.Core.Bool.{and-eq-true_iff, false≢true}
use mathlib.Core.Logic.{inl}
use borrow.Author.Tests.{eqb-true, ltb-true, lt-ltb}
use mir.Facts.{to_z-of_z}
use mir.Syntax.{w32}
use Rattle.format.specs.Messages.{bias_shape}
use Rattle.format.specs.Rows.{value_of}
use Rattle.rows.specs.declared.shape.Shape.{Shape}
use Rattle.rows.specs.At.{values_at}
use Rattle.rows.specs.Shapes.{columns_of, FormedShape, Narrow}
use Rattle.rows.specs.Table.{shapes, listed, shape_at, shape_in, shape_for}
use Rattle.rows.proofs.Columns.{gap_of}
use Rattle.rows.proofs.Cuts.{up_lt, values_ends, values_pair}
use Rattle.rows.proofs.row.cell.Statement.{statement}
use Rattle.rows.proofs.row.cell.Tie as tie

-- of two columns
abbrev start : tie.After-eight → tie.Start
start w = w.before.before.before.before

two : (w : tie.After-eight) → let s = (start w).args.s in (1 ≤ s.v1.width) × (s.v3.width ≡ 0)
two w =
    let s = (start w).args.s in
    let both = (and-eq-true_iff (eqb s.v3.width 0) (ltb 0 s.v1.width)).0 (sym w.paired.ensures ∙ w.if-paired.true) in
    (ltb-true 0 s.v1.width both.1, eqb-true s.v3.width 0 both.0)

returns-then-paired : tie.Need-returns-then-paired
returns-then-paired c =
    let v2 = c.before.before.before in
    let v1 = v2.before in
    let w = v1.before.before.before in
    let s = start w.before.before in
    let x = s.args in
    c.store.ensures
    ∙ rw (to_z-of_z {w = w32} (record { sfits = v1.value.type_inv }), to_z-of_z {w = w32} (record { sfits = v2.value-then-paired.type_inv }))
    (ap (λ (l : List ℤ). x.key.system ∷ x.key.satellite ∷ x.key.signal ∷ l)
    (values_pair x.bytes.now x.at x.s w.eight.ensures s.requires.2 s.requires.3 (two w.before.before).1 v1.value.ensures v2.value-then-paired.ensures))

-- of three: those of a combined bias
module _ (c : tie.Then-s-gt0) where
  abbrev own : tie.Start
  own = c.before.before.before.before.before

  third : 1 ≤ own.args.s.v3.width
  third = go own.args.s.v3.width (sym c.paired.ensures ∙ c.if-paired.false)
    where
      go : (n : ℕ) → (eqb n 0 && ltb 0 own.args.s.v1.width) ≡ false → 1 ≤ n
      go zero e = absurd (false≢true (sym e ∙ lt-ltb 0 own.args.s.v1.width c.if-s-gt0.true))
      go (suc n) e = omega arith

  whole : own.args.s ≡ shape_for 11
  unfolding shapes listed shape_at shape_in bias_shape
  whole = own.requires.3.whole c.if-s-gt0.true third

combined : (c : tie.After-both) → (own c.before.before).args.s ≡ c.both.result
combined c = whole c.before.before ∙ sym c.both.ensures

three-requires : tie.Need-three-requires
three-requires c κs =
    let t = c.before.before in
    let s = own t in
    let fits : FormedShape c.both.result × Narrow c.both.result × (1 ≤ c.both.result.v1.width) =
    subst (λ (h : Shape). FormedShape h × Narrow h × (1 ≤ h.v1.width)) (combined c) (s.requires.2, s.requires.3, t.if-s-gt0.true) in
    (s.requires.0, fits.0, fits.1, omega (arith, s.requires.4), fits.2)

returns-then-s-gt0 : tie.Need-returns-then-s-gt0
returns-then-s-gt0 c =
    let b = c.before.before in
    let x = (own b.before.before).args in
    c.three.ensures
    ∙ ap (λ (h : Shape). x.key.system ∷ x.key.satellite ∷ x.key.signal ∷ values_at (columns_of h) x.bytes.now x.at) (sym (combined b))

-- of none
returns-else-s-gt0-2 : tie.Need-returns-else-s-gt0-2
unfolding value_of
returns-else-s-gt0-2 c =
    let t = c.before.before.before in
    let first = t.before.before in
    let s = first in
    let x = s.args in
    let bare = s.requires.3.none (omega (arith, first.if-s-gt0.false)) (omega (arith, t.if-s-gt0-2.false)) in
    c.gaps.ensures
    ∙ ap (λ (l : List ℤ). x.key.system ∷ x.key.satellite ∷ x.key.signal ∷ l)
    (values_ends x.bytes.now x.at x.s (omega (arith, bare, t.if-s-gt0-2.false)) s.requires.3.fourth (inl s.requires.3.fifth) (rw (gap_of x.s.v1 (omega (arith, first.if-s-gt0.false)))) (rw (gap_of x.s.v5 s.requires.3.fifth)))

pub cell_spec : {M : Type 1} → statement M
cell_spec =
    tie.close
    (tie.spec (λ c κs. search rules) (λ c κs. search rules) (λ c. search rules) (λ c. search rules) (λ c. search rules)
    (λ c. omega (arith, (two c.before.before).0))
    (λ c κs. let w = c.before.before in let s = start w.before in (up_lt s.args.bytes.now s.args.at w.eight.ensures _ (omega (arith, s.requires.2.first.narrow)), s.requires.2.first))
    (λ c. omega (arith, (two c.before.before.before.before).0))
    (λ c κs. let w = c.before.before.before in let s = start w.before.before in (up_lt s.args.bytes.now s.args.at w.eight.ensures _ (omega (arith, s.requires.2.window)), s.requires.2.second))
    (λ c κs. search rules) (λ c κs. search rules) three-requires (λ c κs. search rules) (λ c κs. search rules) (λ c. search rules) returns-then-paired (λ c. search rules) returns-then-s-gt0 (λ c. search rules)
    (λ c. search rules) (λ c. search rules) returns-else-s-gt0-2)
