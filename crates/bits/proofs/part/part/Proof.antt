-- `bits::part::part` meets its contract. Assumes nothing.
use Rattle.bits.proofs.Words.{◌≡◌, refl, Bool, true, false, ℕ, ◌+◌, ◌*◌, ◌≤◌, arith, rules, ltb, length}
use native.Mathlib.Nat.{add-sub_cancel_left}
use borrow.Author.Tests.{ltb-true}
use Rattle.bits.specs.Parts.{start_of, count_of, part_of}
use Rattle.bits.proofs.part.part.Statement.{statement}
use Rattle.bits.proofs.part.part.Tie as tie

-- the part ends within the string
ends_within : (from to n : ℕ) → to ≤ 8 * n → start_of from to + count_of from to ≤ n
unfolding start_of count_of
ends_within from to n few = go (ltb from to) refl
  where
    go : (b : Bool) → ltb from to ≡ b → start_of from to + count_of from to ≤ n
    go true e = rw e (omega (arith, ltb-true from to e))
    go false e = rw e (omega arith)

within : (c : tie.After-counts) → c.begins-first.result + c.counts.result ≤ length c.args.bytes.now
within c =
    let s = c in
    rw (c.begins-first.ensures, c.counts.ensures) (ends_within s.args.from s.args.to _ s.requires)

pub part_spec : {M : Type 1} → statement M
unfolding part_of
part_spec =
    tie.close
    (tie.spec (λ c κs. search rules) (λ c κs. search rules) (λ c. omega (arith, within c)) (λ c. search rules) (λ c. search rules) (λ c. omega (arith, within c))
    (λ c. let k = c in record { bytes = rw (add-sub_cancel_left, k.begins-first.ensures, k.counts.ensures); memory = refl; offset = omega (arith, k.begins-first.ensures) }))
