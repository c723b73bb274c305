-- `body::satellites::picked` meets its contract. Assumes nothing.
use Rattle.bits.proofs.Words.{sym, ap, ◌∙◌, ℕ, ◌-◌, ◌/◌, ◌^◌, rules}
use native.Mathlib.Nat.{div-eq_of_lt}
use lib.Count.{ones}
use Rattle.body.proofs.Selected.{all_picked}
use Rattle.body.proofs.satellites.picked.Statement.{statement}
use Rattle.body.proofs.satellites.picked.Tie as tie

pub picked_spec : {M : Type 1} → statement M
unfolding ones
picked_spec =
    tie.close
    (tie.spec (λ c. let s = c.before in sym (ap (λ (m : ℕ). ones (s.args.chosen / 2 ^ (64 - m))) c.if-n-eq0.true ∙ ap ones (div-eq_of_lt s.ranges.chosen.fits)))
    (λ c. search rules) (λ c. search rules) (λ c. search rules) (λ c. search rules)
    (λ c. let s = c.before.before in sym (ap ones c.if-first-n.true ∙ all_picked s.args.n s.requires)) (λ c κs. search rules) (λ c. search rules))
