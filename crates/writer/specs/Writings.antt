-- Which plan a message has by the kind of its sub type, and what writing comes to past the gate.
use Rattle.std.specs.Prelude.{◌≡◌, Bool, cond, ◌&&◌, List, ℕ, ◌*◌, ◌≤◌, leb, ℤ, length, take}
use Rattle.format.specs.declared.Head.{Head}
use Rattle.format.specs.Masks.{Satellite}
use Rattle.format.specs.Rows.{absent}
use Rattle.format.specs.Same.{sameℤ}
use Rattle.format.specs.Table.{spelled}
use Rattle.format.specs.Writing as Writing
use Rattle.format.specs.Writing.{rows_in, exact}
use Rattle.body.specs.Lent.{Slots}
use Rattle.holding.specs.declared.Holding.{Holding}
use Rattle.holding.specs.declared.Outline.{Outline}
use Rattle.holding.specs.Held.{View, slot_satellites}
use Rattle.holding.specs.Pictures.{mask_of}
use Rattle.table.specs.declared.Kind.{Kind}
use Rattle.table.specs.declared.Kind.TheVariants.{Other, Mask, Packet, Masked}
use Rattle.table.specs.declared.Layout.{Layout}
use Rattle.writer.specs.declared.planning.Asked.{Asked}
use Rattle.writer.specs.declared.planning.Planned.{Planned}
use Rattle.writer.specs.declared.planning.Planned.TheVariants.{Message, Never}
use Rattle.putting.specs.declared.marks.Selected.{Selected}
use Rattle.putting.specs.Marking.{owns_of, marked_by}
use Rattle.writer.specs.declared.gate.Gate.TheVariants.{Open}
use Rattle.writer.specs.Kinds.{kind_at, gate_by}
use Rattle.writer.specs.Plans.{everyone, alone_head, alone_plan, flagged_head, flagged_plan, packet_head, packet_plan}
use Rattle.writer.specs.Stages.{behind}

-- ---- which plan a message has

-- the satellites of a holding's slots, its masks lent beside it
abbrev pub slots_in : Outline → List ℕ → List Satellite
slots_in o masks = slot_satellites (take o.count o.ids) masks

-- what they show with the strips that are lent, too
abbrev pub view_in : Outline → List ℕ → List ℕ → View
view_in o masks strips = record { satellites = slots_in o masks; strips = strips }

-- as a sound holding has them
pub record Slotted (o : Outline) (masks strips : List ℕ) : Type 0 where
  pub counted : o.count ≤ length o.ids
  pub slots : Slots (take o.count o.ids) masks
  pub few : length (slots_in o masks) ≤ 64
  pub many : length (slots_in o masks) ≡ o.nsat
  pub covered : length (slots_in o masks) ≤ length strips

-- the satellites that a network selects: those that have rows, of cells or of their own; all of them without one, which no row tells
unfoldable pub selected_by : Bool → View → ℤ → List (List ℤ) → Selected
selected_by cells v network rows =
    cond (sameℤ network absent) (record { word = everyone; told = 0 }) (marked_by (owns_of cells v.strips v.satellites) v.satellites rows)

unfoldable pub masked_plan : View → Layout → Head → ℕ → List (List ℤ) → Planned
masked_plan v l h start rows =
    cond l.flagged
    (cond (flagged_head h) (Message (flagged_plan h l start (selected_by l.cells v h.c rows) (length v.satellites))) Never)
    (cond (alone_head h) (Message (alone_plan h l start)) Never)

unfoldable pub plan_for : Kind → View → Head → ℕ → List (List ℤ) → Planned
plan_for Other v h start rows = Never
plan_for Mask v h start rows = Never
plan_for Packet v h start rows = cond (packet_head h) (Message (packet_plan h start)) Never
plan_for (Masked l) v h start rows = masked_plan v l h start rows

-- ---- past the gate

-- what is asked is of the head's kind, which is no mask, and the gate is open for it
pub record Passed (o : Outline) (a : Asked) : Type 0 where
  pub known : a.kind ≡ kind_at a.head.subtype
  pub other : a.kind ≡ Mask → ⊥
  pub opens : gate_by a.kind o.held o.iod a.head ≡ Open

-- the last tests of what head and rows spell
unfoldable pub past_gate : Holding → Asked → List ℤ → List ℕ → Writing.Written
past_gate holding a numbers bytes =
    let rows = rows_in a.count numbers in
    behind (leb (8 * a.count) (length numbers) && exact (mask_of holding) a.head rows) (spelled (mask_of holding) a.head rows) bytes a.start
