-- `putting::mask::put_system` meets its contract. Assumes nothing.
use Rattle.bits.proofs.Words.{◌≡◌, sym, true, false, arith, rules}
use borrow.Author.Tests.{not-true, not-false}
use lib.Seq.{length-take-le}
use Rattle.putting.proofs.MaskPens.{front_ready, bare_put, strips_ready, system_put}
use Rattle.putting.proofs.mask.put_system.Statement.{statement}
use Rattle.putting.proofs.mask.put_system.Tie as tie

returns-then-not-s : tie.Need-returns-then-not-s
returns-then-not-s c =
    let p = c.before.before.before.before in
    let s = p in
    let off : s.args.s.flag ≡ false = not-true _ c.if-not-s.true in
    bare_put s.args.s s.args.strips.now s.requires.1 p.put_front-behind.ensures.0 p.put_front-behind.ensures.1 off

module _ (c : tie.After-put_strips-arg-1) where
  abbrev counted : tie.After-count-n
  counted = c.before

  abbrev front : tie.After-put_front-behind
  front = counted.before.before.before.before.before

  abbrev s : tie.Start
  s = front.before.before.before.before

  on : s.args.s.flag ≡ true
  on = not-false _ counted.if-not-s.false

slice_bounds-put_strips-end : tie.Need-slice_bounds-put_strips-end
slice_bounds-put_strips-end c = sym (length-take-le (counted c).count-n.result (s c).args.strips.now (omega (arith, (counted c).count-n.ensures, (s c).requires.0)))

put_strips-requires : tie.Need-put_strips-requires
put_strips-requires c κs =
    strips_ready (s c).args.s (s c).args.strips.now (s c).requires.1 (front c).put_front-behind.ensures.0 (front c).put_front-behind.ensures.1 (on c) (counted c).count-n.ensures

returns : tie.Need-returns
returns c =
    let p = c.before.before in
    let k = p.before in
    system_put (s k).args.s (s k).args.strips.now (s k).requires.1 (front k).put_front-behind.ensures.0 (front k).put_front-behind.ensures.1 (on k) (counted k).count-n.ensures
    p.put_strips.ensures.0 p.put_strips.ensures.1

pub put_system_spec : {M : Type 1} → statement M
put_system_spec =
    tie.close
    (tie.spec
    (λ c κs. let s = c in front_ready s.args.s s.args.strips.now s.requires.1)
    (λ c. search rules)
    returns-then-not-s
    (λ c κs. search rules)
    slice_bounds-put_strips-end
    put_strips-requires
    (λ c. search rules)
    returns)
