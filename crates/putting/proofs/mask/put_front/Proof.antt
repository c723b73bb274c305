-- `putting::mask::put_front` meets its contract. Assumes nothing.
use Rattle.bits.proofs.Words.{◌^◌, ◌<◌, arith, rules}
use Rattle.putting.proofs.MaskPens.{flagged_fits_lem, named_fits, named_ready, flagged_ready, front_put}
use Rattle.putting.proofs.mask.put_front.Statement.{statement}
use Rattle.putting.proofs.mask.put_front.Tie as tie

module _ (c : tie.After-struct_known-2-1) where
  abbrev s : tie.Start
  s = c.before.before.before

  byte : s.args.s.id < 2 ^ 8
  byte = omega (arith, c.struct_known-2-1.given)

  small : s.args.s.signals < 2 ^ 16
  small = omega (arith, c.struct_known-2-1.given)

push-requires : tie.Need-push-requires
push-requires c κs =
    let p = c.before.before.before in
    let k = p.before.before.before.before in
    flagged_ready (s k).args.s (byte k) (small k) (s k).requires p.push-behind.ensures.0 p.push-behind.ensures.1

returns : tie.Need-returns
returns c =
    let last = c.before.before in
    let p = last.before.before.before.before in
    let k = p.before.before.before.before in
    front_put (s k).args.s (byte k) (small k) (s k).requires p.push-behind.ensures.0 p.push-behind.ensures.1 last.push.ensures.0 last.push.ensures.1

pub put_front_spec : {M : Type 1} → statement M
put_front_spec =
    tie.close
    (tie.spec
    (λ c. search rules)
    (λ c. search rules)
    (λ c. search rules)
    (λ c. record { fits = named_fits (s c).args.s (byte c) (small c) (s c).requires })
    (λ c. search rules)
    (λ c. search rules)
    (λ c. search rules)
    (λ c. search rules)
    (λ c. let k = c.before.before in record { fits = flagged_fits_lem (s k).args.s (byte k) (small k) })
    (λ c κs. let k = c.before.before.before in named_ready (s k).args.s (byte k) (small k) (s k).requires)
    push-requires
    (λ c. search rules)
    returns)
