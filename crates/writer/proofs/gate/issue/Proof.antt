-- `writer::gate::issue` meets its contract. Assumes nothing.
use Rattle.bits.proofs.Words.{◌≡◌, sym, ◌∙◌, pos, Bool, rules, ℤ}
use Rattle.format.specs.Same.{sameℤ}
use Rattle.writer.specs.Kinds.{issue_gate}
use Rattle.pens.proofs.Numbers.{of_struct}
use Rattle.writer.proofs.gate.issue.Statement.{statement}
use Rattle.writer.proofs.gate.issue.Tie as tie

same : (c : tie.After-is) → sameℤ c.args.head.iod (pos c.args.iod) ≡ c.is.result
same c =
    let x = c.args in
    let test : ℤ → Bool = λ z. sameℤ z (pos x.iod) in
    sym (of_struct test x.head.iod c.struct_told-1.given.1.1.1.1.0.1 c.is.ensures)

returns-then-not-held : tie.Need-returns-then-not-held
unfolding issue_gate
returns-then-not-held c = rw c.if-not-held.true

returns-then-not-is : tie.Need-returns-then-not-is
unfolding issue_gate
returns-then-not-is c = rw (c.if-not-held.false, same c.before ∙ c.if-not-is.true)

returns : tie.Need-returns
unfolding issue_gate
returns c = rw (c.if-not-held.false, same c.before ∙ c.if-not-is.false)

pub issue_spec : {M : Type 1} → statement M
issue_spec = tie.close (tie.spec returns-then-not-held (λ c κs. search rules) returns-then-not-is returns)
