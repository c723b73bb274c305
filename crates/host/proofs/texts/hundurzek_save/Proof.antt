-- `host::texts::hundurzek_save` meets its contract. Assumes nothing.
use mathlib.Core.Path.{◌≡◌, sym, ap, ◌∙◌}
use mathlib.Core.List.{List}
use Prim.Native.Nat.{ℕ}
use borrow.Author.Rules.{rules}
use Rattle.format.specs.Saved.{Saved, saving, done_saving, buffer_after}
use Rattle.holding.specs.Pictures.{mask_of, lent_by}
use Rattle.host.specs.Texts.{done_handed}
use Rattle.host.proofs.texts.hundurzek_save.Statement.{statement}
use Rattle.host.proofs.texts.hundurzek_save.Tie as tie
use Rattle.passing.specs.Passing.{holding_in}
use Rattle.saved.specs.Saves.{saving_by, done_by}
use Rattle.saved.proofs.SavedLines.{saving_said}

-- how saving ends, under the holding that the lent bytes say
module _ (c : tie.After-saved_in) where
  abbrev s : tie.Start
  s = c.before.before.before.before

  abbrev lent : List ℕ
  lent = s.args.holding.now

  abbrev ended : Saved
  ended = saving (lent_by (holding_in lent)) s.args.line.now

  said : (c.saved_in.result ≡ saving_by ended) × (c.saved_in.new.line ≡ buffer_after ended (mask_of (holding_in lent)) s.args.line.now)
  said = c.saved_in.ensures

  answered : done_by c.saved_in.result ≡ done_saving ended
  answered = ap done_by said.0 ∙ saving_said ended

returns-in-Ok : tie.Need-returns-in-Ok
unfolding done_by
returns-in-Ok c =
    let k = c.before.before.before.before in
    (c.finish.ensures ∙ ap done_handed (sym (ap done_by c.in-Ok.is) ∙ answered k), (said k).1)

returns-in-Err : tie.Need-returns-in-Err
unfolding done_by
returns-in-Err c =
    let k = c.before.before.before.before in
    (c.refuse.ensures ∙ ap done_handed (sym (ap done_by c.in-Err.is) ∙ answered k), (said k).1)

pub hundurzek_save_spec : {M : Type 1} → statement M
hundurzek_save_spec =
    tie.close
    (tie.spec (λ c κs. search rules) (λ c. search rules) (λ c κs. search rules) (λ c. search rules) (λ c κs. search rules)
    (λ c. search rules) returns-in-Ok (λ c. search rules) returns-in-Err)
