-- `saved::systems::after_tab` meets its contract. Assumes nothing.
use mathlib.Core.List.{[], ◌∷◌}
use borrow.Author.Rules.{rules}
use Rattle.format.specs.Text.{tab, decimal}
use Rattle.text.proofs.Stores.{wrote, told, then_wrote}
use Rattle.saved.proofs.systems.after_tab.Statement.{statement}
use Rattle.saved.proofs.systems.after_tab.Tie as tie

returns : tie.Need-returns
returns c =
    let n = c.before.before in
    let p = n in
    let x = p.args in
    told (then_wrote (wrote x.line.now (tab ∷ []) p.put-from.ensures) (wrote _ (decimal x.n) n.number.ensures))

pub after_tab_spec : {M : Type 1} → statement M
after_tab_spec = tie.close (tie.spec (λ c κs. search rules) (λ c κs. search rules) (λ c. search rules) returns)
