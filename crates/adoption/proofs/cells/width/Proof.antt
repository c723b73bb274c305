-- `adoption::cells::width` meets its contract. Assumes nothing.
use Rattle.bits.proofs.Words.{◌≡◌, ap₂, ◌*◌, arith, rules}
use lib.Count.{ones}
use Rattle.adoption.proofs.Strips.{few_bits}
use Rattle.adoption.proofs.cells.width.Statement.{statement}
use Rattle.adoption.proofs.cells.width.Tie as tie

module _ (c : tie.After-count-2) where
  abbrev s : tie.Start
  s = c.before.before.before.before

  wide : c.count.result * c.count-2.result ≡ ones s.args.m.satellites * ones s.args.m.signals
  wide = ap₂ ◌*◌ c.count.ensures c.count-2.ensures

pub width_spec : {M : Type 1} → statement M
width_spec =
    tie.close
    (tie.spec (λ c. rw c.if-not-flag.true) (λ c κs. search rules) (λ c. search rules) (λ c κs. search rules)
    (λ c. omega (arith, wide c, few_bits (s c).args.m (s c).requires (omega (arith, c.struct_known-1.given))))
    (λ c. rw (c.if-not-flag.false) (wide c)))
