-- `host::hundurzek_empty` meets its contract. Assumes nothing.
use Rattle.std.proofs.Common.{◌≡◌, refl, ap, ◌∙◌, arith, length}
use borrow.Author.Tests.{le-leb}
use Rattle.format.specs.Good.{good}
use Rattle.format.specs.Masks.{nothing}
use Rattle.format.specs.Reading.{over}
use Rattle.holding.proofs.Pictured.{sound_picture}
use Rattle.holding.specs.declared.Holding.{Holding}
use Rattle.holding.specs.declared.Outline.{Outline}
use Rattle.holding.specs.Outlines.{whole_of, outline_of}
use Rattle.holding.specs.Pictures.{picture_of, sound}
use Rattle.passing.specs.Passing.{size, bytes_of}
use Rattle.host.specs.Handing.{emptied}
use Rattle.host.proofs.hundurzek_empty.Goals as goal

-- a holding in parts is that holding
whole : (h e : Holding) (o : Outline) → h ≡ e → o ≡ outline_of h → whole_of o h.satellites h.strips ≡ e
whole h e o same parts = ap (λ (p : Outline). whole_of p h.satellites h.strips) parts ∙ same

pub holding_over-requires : goal.holding_over-requires
unfolding good
holding_over-requires c =
    let empty = whole c.empty-empty.result (picture_of nothing) c.outline.result c.empty-empty.ensures c.outline.ensures in
    (omega arith, ap sound empty ∙ sound_picture nothing refl)

pub returns-clause-holding_after : goal.returns-clause-holding_after
unfolding emptied
returns-clause-holding_after c =
    let bs = c.args.holding.now in
    let empty = whole c.empty-empty.result (picture_of nothing) c.outline.result c.empty-empty.ensures c.outline.ensures in
    rw (le-leb size (length bs) (omega arith)) (c.holding_over.ensures ∙ ap (λ (h : Holding). over (bytes_of h) bs) empty)
