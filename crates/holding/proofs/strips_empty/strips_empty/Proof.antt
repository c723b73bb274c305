-- `holding::strips_empty::strips_empty` meets its contract. The loop's invariant: nothing is gathered just if none of the strips passed is used, nor one of
-- the last sixteen. Assumes nothing.
use Rattle.bits.proofs.Words.{◌≡◌, sym, ap, ◌∙◌, Bool, ◌&&◌, ◌+◌, ◌-◌, ◌≤◌, arith, rules, eqb, take, drop}
use native.Mathlib.Nat.{sub_self}
use lib.Bits.{bit_or}
use lib.ListN.{length-drop}
use lib.Seq.{take_all}
use Rattle.holding.specs.Bounds.{every}
use Rattle.holding.specs.Gathering.{nought}
use Rattle.holding.specs.Testing.{empty_strips}
use Rattle.holding.proofs.Noughts.{or_nought}
use Rattle.holding.proofs.Tests.{and_swap, every_parts, every_last}
use Rattle.holding.proofs.strips_empty.strips_empty.Statement.{statement}
use Rattle.holding.proofs.strips_empty.strips_empty.Tie as tie

abbrev invariant-loop-i : tie.invariant-loop-i
invariant-loop-i strips from any₀ i₀ any i =
    (from ≤ i) × (i ≤ 64) × (nought any ≡ (empty_strips (take (i - from) (drop from strips)) && empty_strips (drop 48 strips)))

abbrev decreases-loop-i : tie.decreases-loop-i
decreases-loop-i strips from any₀ i₀ any i = 64 - i

loop-holds : tie.Need-loop-i-init invariant-loop-i decreases-loop-i
unfolding every
loop-holds c =
    let x = c.args in
    let all = take_all 16 (drop 48 x.strips.now) (omega (arith, length-drop 48 x.strips.now)) in
    (omega arith, omega arith, c.sixteen-any.ensures ∙ rw (all, sub_self))

loop-again : tie.Need-loop-i-preserved invariant-loop-i decreases-loop-i
loop-again c =
    let x = c.args in
    let s = c.loop-i in
    let next = empty_strips (take 16 (drop s.i x.strips.now)) in
    let width : s.i + 16 - s.i ≡ 16 = omega arith in
    let more = rw width at (every_parts (λ n. eqb n 0) x.strips.now x.from s.i (s.i + 16) s.invariant.0 (omega arith)) in
    let last = empty_strips (drop 48 x.strips.now) in
    let swap = and_swap (empty_strips (take (s.i - x.from) (drop x.from x.strips.now))) last next in
    (omega arith, omega arith, c.sixteen-any-in-loop-i.ensures ∙ ap (λ (t : Bool). t && next) s.invariant.2 ∙ swap ∙ ap (λ (t : Bool). t && last) (sym more))

returns : tie.Need-returns invariant-loop-i decreases-loop-i
returns c =
    let s = c in
    let x = s.args in
    let g = s.loop-i.any in
    let none : eqb (bit_or g.a (bit_or g.b (bit_or g.c g.d))) 0 ≡ nought g = rw (or_nought g.a, or_nought g.b, or_nought g.c) in
    none ∙ s.loop-i.invariant.2 ∙ every_last (λ n. eqb n 0) x.strips.now x.from 48 s.loop-i.i (omega arith) (omega arith)

pub strips_empty_spec : {M : Type 1} → statement M
strips_empty_spec =
    tie.close
    (tie.spec invariant-loop-i decreases-loop-i (λ c κs. search rules) (λ c. c.each_empty.ensures) (λ c κs. omega arith) loop-holds (λ c κs. omega arith)
    (λ c. omega arith) (λ c. omega arith) loop-again returns)
