-- What the code makes of a mask message, by how crate format's program ends.
use Rattle.std.specs.Prelude.{true, cond, List, ℕ, ◌+◌, pos}
use Rattle.adoption.specs.declared.Adoption.{Adoption}
use Rattle.adoption.specs.declared.Ending.{Ending}
use Rattle.adoption.specs.declared.Ending.TheVariants.{Behind, Refused}
use Rattle.adoption.specs.declared.settle.Offer.{Offer}
use Rattle.bits.specs.Places.{field}
use Rattle.format.specs.declared.Head.{Head}
use Rattle.format.specs.declared.Refusal.TheVariants.{Changed}
use Rattle.format.specs.Masks.{nothing, mask}
use Rattle.format.specs.Messages.{Adopted, mask_type}
use Rattle.format.specs.Programs.{Ended, well, badly}
use Rattle.format.specs.Rows.{absent}
use Rattle.format.specs.Steady.{steady}
use Rattle.heads.specs.Headings.{head_with}
use Rattle.heads.specs.Heads.{head_from}
use Rattle.holding.specs.Comparing.{steady_by}
use Rattle.holding.specs.declared.Holding.{Holding}
use Rattle.holding.specs.declared.Outline.{Outline}
use Rattle.holding.specs.Outlines.{outline_of, whole_of}
use Rattle.holding.specs.Pictures.{picture_of, mask_of}

-- where it ends, and what is held after it
pub record Made : Type 0 where
  pub ending : Ending
  pub holding : Holding

-- of an adoption under what is held, with what it leaves in the arrays lent for masks and strips
abbrev pub made : Outline → Adoption → List ℕ → List ℕ → Made
made held a satellites strips = record { ending = a.ending; holding = whole_of (cond a.kept held a.outline) satellites strips }

-- an ending that leaves what is held
abbrev pub keeping : Ending → Adoption
keeping ending = record { ending = ending; kept = true; outline = outline_of (picture_of nothing) }

-- another mask under the held number is refused, and drops what is held (document 02, Ask 2)
abbrev pub dropped : Made
dropped = record { ending = Refused Changed 0; holding = picture_of nothing }

-- a mask that is offered to a holding: adopted where it may follow it
unfoldable pub settled_by : Holding → Offer → List ℕ → List ℕ → Made
settled_by h o satellites strips =
    let new = whole_of o.outline satellites strips in
    cond (steady_by h new) (record { ending = Behind o.next; holding = new }) dropped

-- a mask message under a holding: every other refusal leaves it
unfoldable pub made_by : Holding → Ended Adopted → Made
made_by h (well d next) =
    cond (steady (mask_of h) (mask d.made)) (record { ending = Behind next; holding = picture_of (mask d.made) }) dropped
made_by h (badly r missing) = record { ending = Refused r missing; holding = h }

-- its head, by the 33 bits at the place behind its number and sub type: the common head's and the number of systems
unfoldable pub head_at : List ℕ → ℕ → Head
head_at bs place = head_with mask_type (head_from (field bs place 29)) (pos (field bs (place + 29) 4)) absent absent
