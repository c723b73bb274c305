-- `passing::give::flags` meets its contract. Assumes nothing.
use Rattle.std.proofs.Common.{◌∙◌, sym, false, map, get_or, arith}
use Rattle.std.proofs.lemmas.Grind.{same_number_lists}
use Rattle.std.proofs.lemmas.List.{get_or-map}
use lib.ListN.{length-map}
use Rattle.bits.specs.BitLists.{digit}
use Rattle.passing.proofs.Parts.{truth_byte}
use Rattle.passing.proofs.give.flags.Goals as goal

pub returns : goal.returns
returns c =
    let flags = c.args.flags.now in
    same_number_lists _ (map digit flags) (omega (arith, length-map flags digit))
    (λ k inside. c.loop-i.invariant k (omega arith) ∙ truth_byte (get_or flags k false) ∙ sym (get_or-map digit flags k false 0 (omega arith)))
