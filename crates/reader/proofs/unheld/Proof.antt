-- `reader::unheld` meets its contract.
-- Assumes nothing.
use Rattle.bits.proofs.Words.{◌≡◌, refl, sym, ◌∙◌, Bool, true, false, List, [], ◌∷◌, ℕ, arith, rules}
use Rattle.format.specs.declared.Refusal.{Refusal}
use Rattle.format.specs.declared.Refusal.TheVariants.{Room, Place, Value}
use Rattle.format.specs.Reading.{lent_tests}
use Rattle.format.specs.Tests.{Test, verdict}
use Rattle.reader.specs.declared.Verdict.TheVariants.{Good, Refused}
use Rattle.reader.specs.Readings.{tested_by}
use Rattle.reader.proofs.unheld.Statement.{statement}
use Rattle.reader.proofs.unheld.Tie as tie

-- the tests, by whether each holds
abbrev tests : Bool → Bool → Bool → List Test
tests roomy inside held = record { holds = roomy; else = Room } ∷ record { holds = inside; else = Place } ∷ record { holds = held; else = Value } ∷ []

-- what refuses it with a holding refuses it without one
as_with : (roomy inside : Bool) {r : Refusal} → tested_by (tests roomy inside true) ≡ Refused r → tested_by (tests roomy inside false) ≡ Refused r
unfolding tested_by verdict
as_with true true e = absurd (let z : ◌≡◌ {A = ℕ} 0 1 = cc in omega arith)
as_with true false e = e
as_with false inside e = e

-- where nothing else does, that there is none does
only_that : (roomy inside : Bool) → tested_by (tests roomy inside true) ≡ Good → tested_by (tests roomy inside false) ≡ Refused Value
unfolding tested_by verdict
only_that true true e = refl
only_that true false e = absurd (let z : ◌≡◌ {A = ℕ} 0 1 = cc in omega arith)
only_that false inside e = absurd (let z : ◌≡◌ {A = ℕ} 0 1 = cc in omega arith)

returns-in-Refused : tie.Need-returns-in-Refused
unfolding lent_tests
returns-in-Refused c = as_with _ _ (sym c.tested-verdict.ensures ∙ c.in-Refused.is)

returns-in-Good : tie.Need-returns-in-Good
unfolding lent_tests
returns-in-Good c = only_that _ _ (sym c.tested-verdict.ensures ∙ c.in-Good.is)

pub unheld_spec : {M : Type 1} → statement M
unheld_spec = tie.close (tie.spec (λ c κs. search rules) (λ c. search rules) (λ c. search rules) returns-in-Refused returns-in-Good)
