-- `saved::load` meets its contract: the parts, together again. Assumes nothing.
use mathlib.Core.Path.{ap, ◌∙◌}
use borrow.Author.Rules.{rules}
use Rattle.holding.specs.declared.Holding.{Holding}
use Rattle.saved.proofs.load.Statement.{statement}
use Rattle.saved.proofs.load.Tie as tie

returns : tie.Need-returns
returns c =
    let p = c.load_parts-parts in
    ap (λ (h : Holding). record { answer = p.result.answer; holding = h }) c.with.ensures ∙ p.ensures

pub load_spec : {M : Type 1} → statement M
load_spec = tie.close (tie.spec (λ c κs. search rules) (λ c κs. search rules) returns)
