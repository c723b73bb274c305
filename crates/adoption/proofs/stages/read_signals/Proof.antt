-- `adoption::stages::read_signals` meets its contract. Assumes nothing.
use Rattle.bits.proofs.Words.{◌≡◌, refl, sym, ◌∙◌, List, ℕ, ◌^◌, ◌<◌, arith, rules}
use Rattle.format.specs.Messages.{system_signals}
use Rattle.format.proofs.Ends.{fits, bits_short}
use Rattle.adoption.proofs.StageEnds.{first_taken, signals_end}
use Rattle.adoption.specs.Stages.{end_masked, FitsMasked}
use Rattle.bits.specs.BitLists.{spell}
use Rattle.std.specs.Prelude.{Ok}
use Rattle.bits.specs.Short.{taken_at}
use Rattle.heads.specs.Fronts.{Opens}
use Rattle.adoption.proofs.stages.read_signals.Statement.{statement}
use Rattle.adoption.proofs.stages.read_signals.Tie as tie

-- the mask, where its bits are there
module _ (c : tie.In-Ok) where
  abbrev took : tie.After-taken-taken
  took = c.before

  abbrev s : tie.Start
  s = took.before

  there : {bs : List ℕ} → Opens bs s.args.f → taken_at bs s.args.f.end s.args.f.start 16 ≡ Ok c.in-Ok.signals
  there opens = first_taken opens 16 took.taken-taken.ensures c.in-Ok.is

  low : c.in-Ok.signals < 2 ^ 16
  low = let o = s.requires.2.opens in fits o.within 16 (there o)

returns-then-not-signals_assigned : tie.Need-returns-then-not-signals_assigned
unfolding end_masked FitsMasked
returns-then-not-signals_assigned c =
    let p = c.before.before in
    let x = (s p).args in
    (λ bs opens. sym (signals_end opens.within x.id (spell 40 x.satellites) (there p opens) ∙ rw (sym c.signals_assigned.ensures ∙ c.if-not-signals_assigned.true)), λ bs opens. tt)

returns-else-not-signals_assigned : tie.Need-returns-else-not-signals_assigned
unfolding end_masked FitsMasked
returns-else-not-signals_assigned c =
    let p = c.before.before in
    let x = (s p).args in
    (λ bs opens. sym (signals_end opens.within x.id (spell 40 x.satellites) (there p opens) ∙ rw (sym c.signals_assigned.ensures ∙ c.if-not-signals_assigned.false)), λ bs opens. ((s p).requires.1, opens, refl))

pub read_signals_spec : {M : Type 1} → statement M
unfolding end_masked FitsMasked system_signals
read_signals_spec =
    tie.close
    (tie.spec (λ c κs. (c.requires.2, omega arith, omega (arith, c.requires.2.opens.within))) (λ c. search rules) (λ c. search rules) (λ c κs. (search rules, low c))
    returns-then-not-signals_assigned (λ c. omega (arith, low c.before.before))
    (λ c. (λ bs opens. sym (bits_short opens.within 16 (first_taken opens 16 c.taken-taken.ensures c.in-Err.is) _), λ bs opens. tt))
    returns-else-not-signals_assigned)
