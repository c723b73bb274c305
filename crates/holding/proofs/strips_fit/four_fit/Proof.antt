-- `holding::strips_fit::four_fit` meets its contract. Assumes nothing.
use Rattle.bits.proofs.Words.{ap₂, ◌∙◌, ℕ, ◌^◌, ◌<◌, arith, rules, get_or}
use Rattle.holding.specs.Testing.{strip_fits}
use Rattle.holding.proofs.Fours.{fit_joined}
use Rattle.holding.proofs.strips_fit.four_fit.Statement.{statement}
use Rattle.holding.proofs.strips_fit.four_fit.Tie as tie

returns : tie.Need-returns
returns c =
    let read = c.before.before in
    let start = read in
    let x = start.args in
    let small : (k : ℕ) → get_or x.strips.now k 0 < 2 ^ 16 = λ k. (read.shared_slice_known-5-1.given k).fits in
    c.strip_fits.ensures ∙ ap₂ (strip_fits x.flag) read.joined-all.ensures c.joined.ensures
    ∙ fit_joined x.flag x.signals x.strips.now x.i start.ranges.signals.fits (omega arith) small

pub four_fit_spec : {M : Type 1} → statement M
four_fit_spec =
    tie.close
    (tie.spec (λ c κs. search rules) (λ c. search rules) (λ c. search rules) (λ c. search rules) (λ c. search rules) (λ c. search rules)
    (λ c. search rules) (λ c. search rules) (λ c. search rules) (λ c. search rules) (λ c. search rules) (λ c. search rules) (λ c κs. search rules)
    (λ c κs. search rules) returns)
