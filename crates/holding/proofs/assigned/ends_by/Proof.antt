-- `holding::assigned::ends_by` meets its contract. Assumes nothing.
use Rattle.bits.proofs.Words.{◌≡◌, sym, ap, ◌∙◌, ℕ, suc, ◌-◌, ◌*◌, ◌%◌, ◌^◌, arith, rules, eqb}
use lib.Pow.{pow_pos}
use Rattle.bits.proofs.Windows.{one_shifted}
use Rattle.holding.proofs.Places.{assigned_number}
use Rattle.holding.proofs.assigned.ends_by.Statement.{statement}
use Rattle.holding.proofs.assigned.ends_by.Tie as tie

module _ (c : tie.Start) where
  -- how many bits stand past the place
  abbrev free : ℕ
  free = c.args.w - 1 - c.args.highest

  power : 1 * 2 ^ free % 2 ^ 64 ≡ 2 ^ free
  power = one_shifted free (omega arith)

returns : tie.Need-returns
returns c =
    let x = c.args in
    let same : free c ≡ x.w - suc x.highest = omega arith in
    ap (λ (p : ℕ). eqb (x.mask % p) 0) (power c ∙ ap (λ (k : ℕ). 2 ^ k) same)
    ∙ sym (assigned_number x.w x.highest x.mask c.requires.0 c.requires.2)

pub ends_by_spec : {M : Type 1} → statement M
ends_by_spec = tie.close (tie.spec (λ c. search rules) (λ c. search rules) (λ c. search rules) (λ c. rw (power c) (pow_pos (free c))) returns)
