-- `holding::assigned::highest` meets its contract. Assumes nothing.
use Rattle.bits.proofs.Words.{◌≡◌, sym, ap, ℕ, arith, get_or}
use Rattle.holding.specs.declared.assigned.Places.{Places}
use Rattle.holding.specs.Assigning.{places_of}
use Rattle.holding.proofs.assigned.highest.Statement.{statement}
use Rattle.holding.proofs.assigned.highest.Tie as tie

-- a row of the table, by its ID
row : (p : Places) {id : ℕ} (k : ℕ) → id ≡ k → get_or (places_of p) k 0 ≡ get_or (places_of p) id 0
row p k e = ap (λ (n : ℕ). get_or (places_of p) n 0) (sym e)

pub highest_spec : {M : Type 1} → statement M
highest_spec =
    tie.close
    (tie.spec (λ c. row _ 0 c.in-0.is) (λ c. row _ 1 c.in-1.is) (λ c. row _ 2 c.in-2.is) (λ c. row _ 3 c.in-3.is)
    (λ c. row _ {id = c.args.id} 4 (omega (arith, c.in_default.in_default-own.rest, c.requires))))
