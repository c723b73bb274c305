-- `adoption::keeping` meets its contract. Assumes nothing.
use mathlib.Core.Path.{ap, ◌∙◌}
use mathlib.Core.Bool.{true}
use borrow.Author.Rules.{rules}
use Rattle.holding.specs.declared.Outline.{Outline}
use Rattle.holding.specs.Outlines.{outline_of}
use Rattle.adoption.proofs.keeping.Statement.{statement}
use Rattle.adoption.proofs.keeping.Tie as tie

returns : tie.Need-returns
returns c =
    let x = c.args in
    ap (λ (o : Outline). record { ending = x.ending; kept = true; outline = o }) (c.outline.ensures ∙ ap outline_of c.empty-empty.ensures)

pub keeping_spec : {M : Type 1} → statement M
keeping_spec = tie.close (tie.spec (λ c κs. search rules) (λ c κs. search rules) returns)
