-- `writer::plan::flagged` meets its contract. Assumes nothing.
use Rattle.bits.proofs.Words.{◌≡◌, ◌+◌, ◌*◌, rules}
use Rattle.format.specs.Rows.{absent}
use Rattle.format.specs.Same.{sameℤ}
use mathlib.Core.Bool.{not, cond, ◌&&◌}
use Prim.Native.Nat.{ℕ}
use lib.IntN.{ℤ}
use Rattle.pens.specs.Numbers.{word_of}
use Rattle.writer.specs.Plans.{flagged_plan}
use Rattle.pens.proofs.Numbers.{of_struct}
use Rattle.writer.proofs.plan.flagged.Statement.{statement}
use Rattle.writer.proofs.plan.flagged.Tie as tie

returns : tie.Need-returns
unfolding flagged_plan
returns c =
    let o = c.before in
    let n = o.before in
    let m = n.before.before.before in
    let w2 = m.before.before.before in
    let w1 = w2 in
    let x = w1.args in
    let a : w1.word.result ≡ word_of x.head.a = of_struct word_of _ w1.struct_told-1.given.1.1.1.1.1.0.1 w1.word.ensures.0 in
    let b : w2.word-2.result ≡ word_of x.head.b = of_struct word_of _ w2.struct_told-2-1.given.1.1.1.1.1.1.0.1 w2.word-2.ensures.0 in
    let marked = of_struct (λ (z : ℤ). cond {A = ℕ} (sameℤ z absent) 0 x.n) _ m.struct_told-3-1.given.1.1.1.1.1.1.1.0.1 m.marks_of.ensures in
    let none = of_struct (λ (z : ℤ). sameℤ z absent) _ n.struct_told-4-1.given.1.1.1.1.1.1.1.0.1 n.is_absent.ensures in
    λ i. record {
      pen = m.flagged.ensures i;
      marked = marked i;
      chosen = x.selected.word;
      keyed = not x.layout.cells && not (none i);
      told = x.selected.told;
      body = record { keys = o.over.ensures i; shape = x.layout.shape + (a i * 2 + b i) };
    }

pub flagged_spec : {M : Type 1} → statement M
flagged_spec =
    tie.close
    (tie.spec (λ c κs. search rules) (λ c. search rules) (λ c κs. search rules) (λ c. search rules) (λ c κs. search rules) (λ c κs. search rules) (λ c κs. search rules) (λ c κs. search rules) (λ c. search rules) returns)
