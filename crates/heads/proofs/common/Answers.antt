-- `heads::common` meets its contract. Assumes nothing.
use Rattle.bits.proofs.Words.{sym}
use Rattle.bits.specs.Short.{bits_of, widths_of}
use Rattle.bits.proofs.Short.{field_short}
use Rattle.format.proofs.Ends.{onward}
use Rattle.heads.proofs.Commons.{taken_whole, taken_short}
use Rattle.heads.proofs.common.Goals as goal

pub short_by-missing-requires : goal.short_by-missing-requires
unfolding bits_of widths_of
short_by-missing-requires c = (field_short _ _ _ 21 _ (sym (c.in_default.ensures _ c.requires.0.opens))).0

pub returns-in_default : goal.returns-in_default
unfolding widths_of
returns-in_default c =
    λ bs opens. taken_short (onward opens.within c.requires.1) 12 (sym (c.in_default.ensures bs opens)) c.short_by-missing.ensures

pub returns : goal.returns
returns c =
    λ bs opens. taken_whole (onward opens.within c.requires.1) 12 (sym (c.in-Ok.ensures bs opens)) c.parted.ensures
