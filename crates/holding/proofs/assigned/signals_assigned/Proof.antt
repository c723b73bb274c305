-- `holding::assigned::signals_assigned` meets its contract: the rule over the table. Assumes nothing.
use Rattle.bits.proofs.Words.{refl, ap, ◌∙◌, ℕ, suc, arith, rules, drop}
use Rattle.bits.specs.BitLists.{spell}
use Rattle.format.specs.Assigned.{signal_places, blank, assigned}
use Rattle.holding.specs.Bounds.{every}
use Rattle.holding.proofs.Bounds.{below_at}
use Rattle.holding.proofs.assigned.signals_assigned.Statement.{statement}
use Rattle.holding.proofs.assigned.signals_assigned.Tie as tie

pub signals_assigned_spec : {M : Type 1} → statement M
unfolding every signal_places assigned
signals_assigned_spec =
    tie.close
    (tie.spec (λ c κs. search rules)
    (λ c κs. let s = c in (omega (arith, c.highest-last.ensures, below_at 16 signal_places refl s.args.id s.requires.0), omega arith, s.requires.1))
    (λ c. c.ends_by.ensures ∙ ap (λ (n : ℕ). blank (drop (suc n) (spell 16 c.args.mask))) c.highest-last.ensures))
