-- `passing::give::holding_over` meets its contract. Assumes nothing.
use Rattle.std.proofs.Common.{◌≡◌, ap, ◌∙◌, List, [], ◌∷◌, ◌++◌, map, map-id, ℕ, append_assoc, length-append, arith, length}
use lib.ListN.{length-map}
use Rattle.bits.specs.BitLists.{digit}
use Rattle.format.specs.Reading.{over}
use Rattle.holding.specs.declared.Holding.{Holding}
use Rattle.holding.proofs.Sounds.{sounds}
use Rattle.holding.specs.Outlines.{whole_of}
use Rattle.passing.specs.Bytes.{parts, parts_of}
use Rattle.passing.specs.Passing.{bytes_of}
use Rattle.passing.proofs.Parts.{truth_byte, length_parts, length_parts_of}
use Rattle.passing.proofs.Placing.{laid_none, laid_set, laid_more}
use Rattle.passing.proofs.give.holding_over.Goals as goal

regroup : (a b c d e f : List ℕ) → a ++ b ++ c ++ (d ++ e) ++ f ≡ a ++ (b ++ (c ++ (d ++ (e ++ f))))
regroup a b c d e f = simp append_assoc

all_parts : (h : Holding) → (digit h.held ∷ h.iod ∷ h.count ∷ h.nsat ∷ []) ++ parts 2 h.ncell ++ h.ids ++ map digit h.flags ++ (parts_of 2 h.signals ++ parts_of 8 h.satellites) ++ parts_of 2 h.strips ≡ bytes_of h
unfolding bytes_of
all_parts h = regroup (digit h.held ∷ h.iod ∷ h.count ∷ h.nsat ∷ parts 2 h.ncell) h.ids (map digit h.flags) (parts_of 2 h.signals) (parts_of 8 h.satellites) (parts_of 2 h.strips)

pub overflow_cast-outline : goal.overflow_cast-outline
overflow_cast-outline c = omega (arith, (sounds _ c.requires.1).few_cells_lem)

pub returns : goal.returns
returns c =
    let x = c.args in
    let o = x.outline in
    let l = x.bytes.now in
    let h = whole_of o x.satellites.now x.strips.now in
    let sizes = (sounds h c.requires.1).shaped in
    let cells : c.copy_from_slice.new.self ≡ parts 2 o.ncell = c.copy_from_slice.ensures.after ∙ c.bytes.ensures in
    let strips : c.numbers.new.part ≡ parts_of 2 x.strips.now = c.numbers.ensures ∙ ap (parts_of 2) (map-id x.strips.now) in
    let masks = parts_of 2 o.signals ++ parts_of 8 x.satellites.now in
    let long : length masks ≡ 50 = rw length-append (omega (arith, length_parts_of 2 o.signals, sizes.signals, length_parts_of 8 x.satellites.now, sizes.satellites)) in
    let laid = laid_set (digit o.held) (laid_none l) (omega arith) in
    let laid = laid_set o.iod laid (omega arith) in
    let laid = laid_set o.count laid (omega arith) in
    let laid = laid_set o.nsat laid (omega arith) in
    let laid = laid_more {b = 2} (parts 2 o.ncell) laid (length_parts 2 o.ncell) in
    let laid = laid_more {b = 5} o.ids laid sizes.ids in
    let laid = laid_more {b = 5} (map digit o.flags) laid (length-map o.flags digit ∙ sizes.flags) in
    let laid = laid_more {b = 50} masks laid long in
    let laid = laid_more {b = 128} (parts_of 2 x.strips.now) laid (omega (arith, length_parts_of 2 x.strips.now, sizes.strips)) in
    rw (truth_byte o.held, cells, c.ids.ensures, c.flags.ensures, c.masks.ensures, strips) (laid.there ∙ ap (λ (t : List ℕ). over t l) (all_parts h))
