-- `adoption::head` meets its contract. Assumes nothing.
use Rattle.bits.proofs.Words.{arith}
use Rattle.adoption.proofs.StageEnds.{first_there}
use Rattle.bits.specs.Short.{bits_of, widths_of}
use Rattle.bits.proofs.Short.{field_short}
use Rattle.heads.proofs.Commons.{taken_whole, taken_short}
use Rattle.adoption.proofs.head.Goals as goal

pub short_by-missing-requires : goal.short_by-missing-requires
unfolding bits_of widths_of
short_by-missing-requires c = (field_short _ _ _ 29 _ (first_there c.requires.opens 29 c.in_default.ensures)).0

pub returns-in_default : goal.returns-in_default
unfolding widths_of
returns-in_default c =
    λ bs opens. taken_short opens.within 20 (first_there opens 29 c.in_default.ensures) c.short_by-missing.ensures

pub returns : goal.returns
returns c = λ bs opens. taken_whole opens.within 20 (first_there opens 29 c.in-Ok.ensures) c.parted.ensures
