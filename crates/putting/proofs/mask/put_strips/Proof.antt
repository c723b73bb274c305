-- `putting::mask::put_strips` meets its contract. The loop's invariant: what is put out, and the strips that are left. Assumes nothing.
use Rattle.bits.proofs.Words.{◌-◌, arith, rules, length}
use Rattle.putting.proofs.MaskPens.{StripsLeft, all_strips, strip_ready, strip_pushed, strips_put}
use Rattle.putting.proofs.mask.put_strips.Statement.{statement}
use Rattle.putting.proofs.mask.put_strips.Tie as tie

abbrev invariant-loop-i : tie.invariant-loop-i
invariant-loop-i bytes₀ signals strips width behind₀ i₀ bytes behind i = StripsLeft behind₀ bytes₀ signals strips behind bytes i

abbrev decreases-loop-i : tie.decreases-loop-i
decreases-loop-i bytes₀ signals strips width behind₀ i₀ bytes behind i = length strips - i

push-behind-requires : tie.Need-push-behind-requires invariant-loop-i decreases-loop-i
push-behind-requires c κs =
    let g = c.before in
    let l = g in
    strip_ready l.loop-i.invariant g.loop-i-test.true l.count-width.ensures g.gather-value.ensures

loop-again : tie.Need-loop-i-preserved invariant-loop-i decreases-loop-i
loop-again c =
    let p = c.before.before in
    let g = p.before.before in
    let l = g in
    strip_pushed l.loop-i.invariant g.loop-i-test.true l.count-width.ensures g.gather-value.ensures p.push-behind.ensures.0 p.push-behind.ensures.1

pub put_strips_spec : {M : Type 1} → statement M
put_strips_spec =
    tie.close
    (tie.spec
    invariant-loop-i
    decreases-loop-i
    (λ c κs. search rules)
    (λ c. let s = c in all_strips s.args.signals s.args.strips.now s.requires)
    (λ c. search rules)
    (λ c. search rules)
    (λ c κs. search rules)
    push-behind-requires
    (λ c. search rules)
    (λ c. search rules)
    loop-again
    (λ c. omega (arith, c.loop-i.invariant.inks.same))
    (λ c. strips_put c.loop-i.invariant c.loop-i-test.false))
