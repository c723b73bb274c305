-- `bits::signed::in_range` meets its contract. Assumes nothing.
use Rattle.bits.proofs.Words.{◌≡◌, ap₂, ℕ, ◌*◌, arith, rules, ltb}
use lib.Signed.{mag}
use mir.Facts.{to_z-of_z}
use Rattle.bits.proofs.Windows.{one_shifted}
use Rattle.bits.proofs.signed.in_range.Statement.{statement}
use Rattle.bits.proofs.signed.in_range.Tie as tie

found : (c : tie.After-magnitude) → c.magnitude.result ≡ mag c.args.z
found c = rw (to_z-of_z c.ranges.z) at c.magnitude.ensures

pub in_range_spec : {M : Type 1} → statement M
in_range_spec =
    tie.close
    (tie.spec (λ c κs. search rules) (λ c. omega (arith, found c, c.ranges.z.sfits)) (λ c. search rules)
    (λ c. ap₂ (λ (m p : ℕ). ltb (m * 2) p) (found c) (one_shifted c.args.w (omega arith))))
