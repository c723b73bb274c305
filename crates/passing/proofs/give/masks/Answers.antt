-- `passing::give::masks` meets its contract. Assumes nothing.
use Rattle.std.proofs.Common.{◌≡◌, ◌∙◌, map-id, ap, arith}
use Rattle.passing.specs.Bytes.{parts_of}
use Rattle.passing.proofs.Parts.{length_parts_of}
use Rattle.passing.proofs.Placing.{laid_first, laid_more, laid_all}
use Rattle.passing.proofs.give.masks.Goals as goal

pub returns : goal.returns
returns c =
    let x = c.args in
    let signals : c.numbers.new.part ≡ parts_of 2 x.signals.now = c.numbers.ensures ∙ ap (parts_of 2) (map-id x.signals.now) in
    let masks : c.numbers-2.new.part ≡ parts_of 8 x.satellites.now = c.numbers-2.ensures ∙ ap (parts_of 8) (map-id x.satellites.now) in
    let laid = laid_first {a = 10} (parts_of 2 x.signals.now) x.part.now (omega (arith, length_parts_of 2 x.signals.now)) in
    let laid = laid_more {b = 40} (parts_of 8 x.satellites.now) laid (omega (arith, length_parts_of 8 x.satellites.now)) in
    rw (signals, masks) (laid_all laid (omega arith))
