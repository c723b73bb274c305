-- Reading a message by its sub type, at places of a byte string. proofs/Sorted.antt shows that this is crate format's reading.
use Rattle.std.specs.Prelude.{List, [], ℕ, zero, suc, ◌+◌, ◌-◌, take}
use Rattle.format.specs.declared.Refusal.TheVariants.{Short, SubType}
use Rattle.format.specs.Masks.{Held, mask, lent, Sky}
use Rattle.format.specs.Messages as Messages
use Rattle.format.specs.Messages.{Adopted, packet}
use Rattle.format.specs.Programs.{Program, refuse, Ended, well, badly}
use Rattle.format.specs.Reading.{Outcome, accepted, refused, settled, bits_from}
use Rattle.format.specs.Rows.{body_width, rows_of}
use Rattle.format.specs.Table.{Message}
use Rattle.heads.specs.declared.heading.Seen.{Seen}
use Rattle.heads.specs.declared.heading.Under.{Under}
use Rattle.heads.specs.Headings.{under_by}
use Rattle.holding.specs.Held.{is_held, issue_of, satellites_held, cells_held}
use Rattle.table.specs.declared.Kind.{Kind}
use Rattle.table.specs.declared.Kind.TheVariants.{Other, Mask, Packet, Masked}
use Rattle.table.specs.declared.Layout.{Layout}

abbrev pub under_with : Seen → Layout → Under
under_with s l = record { held = s.held; iod = s.iod; n = s.n; subtype = s.subtype; layout = l }

-- what is held, as a message of a sub type sees it
abbrev pub sky_held : Held → Sky
sky_held held = record { satellites = satellites_held held; cells = cells_held held }

abbrev pub seen_of : Held → ℕ → ℕ → Seen
seen_of held count n = record { held = is_held held; iod = issue_of held; n = count; subtype = n }

-- what a message of a kind says before its body
unfoldable pub heading_for : Kind → Seen → Sky → Program Messages.Heading
heading_for Other s sky = refuse SubType
heading_for Mask s sky = refuse SubType
heading_for Packet s sky = packet
heading_for (Masked l) s sky = under_by (under_with s l) sky

-- ---- what reading comes to, from what a message says before its body

-- by how many bits of the body are missing
unfoldable pub bodied_by : Held → Message → ℕ → ℕ → Outcome
bodied_by held m next zero = accepted m next
bodied_by held m next (suc missing) = refused Short (suc missing) (lent held)

-- from a heading that ended at a place
unfoldable pub headed_at : Held → List ℕ → ℕ → Ended Messages.Heading → Outcome
headed_at held bs end (well d at) =
    let w = body_width d.lines in
    bodied_by held (record { content = record { head = d.head; rows = rows_of d.lines (take w (bits_from bs end at)) }; after = held }) (at + w) (w - (end - at))
headed_at held bs end (badly r missing) = refused r missing (lent held)

-- a mask message, by how its program ended at a place: it is taken where it may follow what is held
abbrev pub mask_said : Adopted → Message
mask_said d = record { content = record { head = d.head; rows = [] }; after = mask d.made }

unfoldable pub adopted_by : Held → ℕ → Ended Adopted → Outcome
adopted_by held place (well d taken) = settled held (mask_said d) (place + taken)
adopted_by held place (badly r missing) = refused r missing (lent held)
