-- `passing::give::numbers` meets its contract. Assumes nothing.
use Rattle.std.proofs.Common.{List, ℕ, refl, sym, ◌≡◌, ◌∙◌, ap, ◌++◌, ◌+◌, ◌*◌, ◌-◌, map, length, take, arith}
use lib.ListN.{length-map}
use lib.Seq.{length-take-le, take_all}
use Rattle.format.specs.Reading.{over}
use Rattle.passing.specs.Bytes.{parts, parts_of}
use Rattle.passing.proofs.Parts.{length_parts, length_parts_of, parts_more}
use Rattle.passing.proofs.Placing.{over_more, over_all}
use Rattle.passing.proofs.give.numbers.Goals as goal

pub loop-i-init : goal.loop-i-init
unfolding over parts_of
loop-i-init g c = refl

pub loop-i-preserved : goal.loop-i-preserved
loop-i-preserved g c =
    let k = g.row.K in
    let value = g.T.Number.value in
    let ns = c.args.ns.now in
    let i = c.loop-i.i in
    let x = c.index-ns-i.result in
    let done = parts_of k (map value (take i ns)) in
    let few : length done ≡ k * i = length_parts_of k (map value (take i ns)) ∙ rw (length-map (take i ns) value, length-take-le i ns (omega arith)) in
    let new : c.copy_from_slice.new.self ≡ parts k (value x) = c.copy_from_slice.ensures.after ∙ c.bytes.ensures in
    let more = parts_more k value ns i x (omega arith) ∙ ap (λ (y : g.row.T.Denot). done ++ parts k (value y)) (sym c.index-ns-i.is) in
    rw (c.loop-i.invariant, new) (over_more _ _ done (parts k (value x)) c.args.part.now (few ∙ omega arith) (length_parts k (value x) ∙ omega arith) ∙ ap (λ (l : List ℕ). over l c.args.part.now) (sym more))

pub returns : goal.returns
returns g c =
    let ns = c.args.ns.now in
    let value = g.T.Number.value in
    let all : take c.loop-i.i ns ≡ ns = take_all c.loop-i.i ns (omega arith) in
    c.loop-i.invariant ∙ rw all (over_all (parts_of g.row.K (map value ns)) c.args.part.now (rw (length_parts_of g.row.K (map value ns), length-map ns value) (omega arith)))
