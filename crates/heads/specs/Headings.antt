-- What a message says before its body: what the code's answer means to whoever sees so many satellites, and the programs that it answers to.
use Rattle.std.specs.Prelude.{◌≡◌, Bool, true, cond, List, ℕ, ◌+◌, ◌-◌, ◌*◌, ◌/◌, ◌%◌, ◌^◌, ◌≤◌, eqb, ℤ, pos, length}
use Rattle.bits.specs.Places.{field}
use Rattle.format.specs.declared.Head.{Head}
use Rattle.format.specs.declared.Refusal.TheVariants.{NoMask, OtherIssue}
use Rattle.format.specs.Masks.{Sky}
use Rattle.format.specs.Messages as Messages
use Rattle.format.specs.Messages.{Selected, Keys, selection, common, lines_of}
use Rattle.format.specs.Programs.{Program, done, refuse, ◌>>=◌, ◌>>◌, require, Ended, well, badly}
use Rattle.format.specs.Rows.{Column}
use Rattle.format.proofs.Selections.{Distinct}
use Rattle.holding.specs.Bounds.{narrow}
use Rattle.holding.specs.Held.{View}
use Rattle.heads.specs.declared.CommonHead.{CommonHead}
use Rattle.heads.specs.declared.heading.Heading.{Heading}
use Rattle.heads.specs.declared.heading.Heading.TheVariants.{Rows, Refused}
use Rattle.heads.specs.declared.heading.Under.{Under}
use Rattle.heads.specs.Heads.{common_of}
use Rattle.table.specs.declared.Body.{Body}
use Rattle.table.specs.declared.Keys.TheVariants.{Parts}
use Rattle.table.specs.declared.Kind.{Kind}
use Rattle.table.specs.declared.Kind.TheVariants.{Other, Mask, Packet, Masked}
use Rattle.table.specs.declared.Layout.{Layout}
use Rattle.table.specs.Bodies.{lines_in, Fits}
use Rattle.table.specs.Kinds.{keys_for, keys_by, program_by}
use Rattle.table.specs.Shapes.{shapes_from}

-- the eight numbers, from the common head
unfoldable pub head_with : ℕ → CommonHead → ℤ → ℤ → ℤ → Head
head_with subType h a b c = Messages.head_of subType (common_of h) a b c

-- n bits at a place, moved up to the front of 64
unfoldable pub chosen_at : List ℕ → ℕ → ℕ → ℕ
chosen_at bs place n = field bs place n * 2 ^ (64 - n)

-- a view of n satellites, no two of them the same, with these strips
pub record Shows (v : View) (n : ℕ) (own : List ℕ) : Type 0 where
  pub count : length v.satellites ≡ n
  pub few : n ≤ 64
  pub apart : Distinct v.satellites
  pub strips : v.strips ≡ own
  pub covered : n ≤ length own
  pub most : length own ≤ 64
  pub thin : narrow 16 own ≡ true

-- what an answer means: a heading that ended at a place, or a refusal
unfoldable pub said_by : View → Heading → Ended Messages.Heading
said_by v (Rows head body at) = well (record { head = head; lines = lines_in v body }) at
said_by v (Refused r missing) = badly r missing

unfoldable pub FitsHeading : Heading → Type 0
FitsHeading (Rows head body at) = Fits body
FitsHeading (Refused r missing) = Unit {0}

-- the body is this one, where there is one
unfoldable pub HasBody : Body → Heading → Type 0
HasBody b (Rows head body at) = body ≡ b
HasBody b (Refused r missing) = Unit {0}

-- what holds of an answer: its body fits its keys, and is this one
pub record Bodied (b : Body) (r : Heading) : Type 0 where
  pub fits : FitsHeading r
  pub this : HasBody b r

-- ---- bodies: their keys and the number of their shape

-- of the satellites that n bits at a place choose
unfoldable pub chosen_body : List ℕ → ℕ → ℕ → Bool → ℕ → Body
chosen_body bs place n cells shape = record { keys = keys_for cells (chosen_at bs place n); shape = shape }

-- by three flags of a message from a start on: the last says whether there is a selection
unfoldable pub flagged_body : List ℕ → ℕ → ℕ → Layout → ℕ → Body
flagged_body bs start n l flags =
    cond (eqb (flags % 2) 0) (record { keys = keys_for l.cells (2 ^ 64 - 1); shape = l.shape + flags / 2 })
    (chosen_body bs (start + 40 + 5) n l.cells (l.shape + flags / 2))

-- of a sub type that is read under the mask
unfoldable pub masked_body : List ℕ → ℕ → ℕ → Layout → Body
masked_body bs start n l =
    cond l.flagged (flagged_body bs start n l (field bs (start + 37) 3)) (record { keys = keys_for l.cells (2 ^ 64 - 1); shape = l.shape })

-- of a packet's part
unfoldable pub packet_body : List ℕ → ℕ → Body
packet_body bs start = record { keys = Parts (field bs (start + 16) 6 % 4 + 1); shape = 7 }

-- by the kind; a mask, and what is none of ours, have none
unfoldable pub body_for : Kind → List ℕ → ℕ → ℕ → Body
body_for Other bs start n = packet_body bs start
body_for Mask bs start n = packet_body bs start
body_for Packet bs start n = packet_body bs start
body_for (Masked l) bs start n = masked_body bs start n l

-- ---- programs

-- the head with its network, and the rows of the satellites chosen, over their keys
unfoldable pub networked : Head → ℤ → Head
networked h network =
    record { subtype = h.subtype; epoch = h.epoch; interval = h.interval; indicator = h.indicator; iod = h.iod; a = h.a; b = h.b; c = network }

unfoldable pub rowed : Keys → Sky → Head → (ℕ → List Column) → Selected → Program Messages.Heading
rowed keys sky h shape s = done (record { head = networked h s.network; lines = lines_of keys shape sky s.chosen })

-- a network and its selection
unfoldable pub network_by : Keys → Sky → Head → (ℕ → List Column) → Program Messages.Heading
network_by keys sky h shape = selection keys sky 1 >>= rowed keys sky h shape

-- behind the three flags
unfoldable pub after_flags : Under → CommonHead → ℕ → Sky → Program Messages.Heading
after_flags u h flags sky =
    selection (keys_by u.layout) sky (flags % 2)
    >>= (λ s.
    done
    (record {
      head = head_with u.subtype h (pos (flags / 4)) (pos (flags / 2 % 2)) s.network;
      lines = lines_of (keys_by u.layout) (shapes_from u.layout.shape (eqb (flags / 4) 1) (eqb (flags / 2 % 2) 1)) sky s.chosen;
    }))

-- the gate after IOD SSR: 6, then 7, by what is held
unfoldable pub gate_by : Bool → ℕ → ℕ → Program (Unit {0})
gate_by held iod issue = cond held (require (eqb issue iod) OtherIssue) (refuse NoMask)

-- after the common head, and from it on
unfoldable pub gated_by : Under → Sky → Messages.Common → Program Messages.Heading
gated_by u sky h = gate_by u.held u.iod h.iod >> program_by u.subtype u.layout sky h

unfoldable pub under_by : Under → Sky → Program Messages.Heading
under_by u sky = common 12 >>= gated_by u sky
