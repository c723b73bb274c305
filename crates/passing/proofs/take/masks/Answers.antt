-- `passing::take::masks` meets its contract. Assumes nothing.
use Rattle.std.proofs.Common.{◌≢◌, ◌<◌, ◌∙◌, sym, length, drop, arith, below_more, length-set, get_or-set_other, get_or-set_same}
use Rattle.std.proofs.lemmas.Grind.{same_number_lists}
use Rattle.passing.specs.Bytes.{littles}
use Rattle.passing.proofs.Littles.{littles_length, number_there}
use Rattle.passing.proofs.take.masks.Goals as goal

pub loop-i-preserved : goal.loop-i-preserved
loop-i-preserved c =
    let bs = c.args.bytes.now in
    let i = c.loop-i.i in
    let inside : i < length (littles 8 5 (drop 26 bs)) = omega (arith, littles_length 8 5 (drop 26 bs)) in
    let room : i < length c.loop-i.to = omega (arith, c.loop-i.invariant.long) in
    let here = rw c.part.ensures at c.from_le_bytes.ensures in
    record {
      long = length-set c.loop-i.to i c.from_le_bytes.result ∙ c.loop-i.invariant.long;
      same =
          below_more _ _
          (λ k h. let other : k ≢ i = omega arith in rw get_or-set_other (c.loop-i.invariant.same k h))
          (rw get_or-set_same (here ∙ sym (number_there 7 5 i 26 bs inside)));
    }

pub returns : goal.returns
returns c =
    let all = littles 8 5 (drop 26 c.args.bytes.now) in
    let long = littles_length 8 5 (drop 26 c.args.bytes.now) in
    same_number_lists _ all (omega (arith, long, c.loop-i.invariant.long)) (λ k inside. c.loop-i.invariant.same k (omega (arith, c.loop-i.invariant.long)))
