-- `passing::take::outline` meets its contract. Assumes nothing.
use Rattle.std.proofs.Common.{◌≡◌, rules, arith, length, drop, map}
use lib.ListN.{length-drop}
use lib.Seq.{length-take-le}
use Rattle.passing.specs.Passing.{truth, said}
use Rattle.passing.proofs.Littles.{little_worth}
use Rattle.passing.proofs.Made.{mapped}
use Rattle.passing.proofs.take.outline.Goals as goal

pub returns : goal.returns
unfolding said truth
returns c =
    let bs = c.args.bytes.now in
    let five : length c.part-2.result ≡ 5 = rw c.part-2.ensures (length-take-le 5 (drop 11 bs) (rw length-drop (omega arith))) in
    let flags : c.map.result ≡ map truth c.part-2.result = mapped _ _ truth 0 (λ p q b y k. search rules) five c.map.ensures.items in
    rw (c.part.ensures, flags, c.part-2.ensures, c.words.ensures, c.from_le_bytes.ensures, c.part-3.ensures, little_worth 1 (drop 4 bs))
