-- The sub types as the code has them: what each asks of head and rows, and the gate before it; and what a plan comes to.
use Rattle.std.specs.Prelude.{Bool, cond, ◌&&◌, List, ◌++◌, ℕ, ◌-◌, ◌/◌, ◌^◌, ℤ, pos, negsuc}
use Rattle.bits.specs.BitLists.{spell}
use Rattle.format.specs.declared.Head.{Head}
use Rattle.format.specs.declared.Refusal.TheVariants.{SubType, NoMask, OtherIssue, Network}
use Rattle.format.specs.Rows.{spell_rows}
use Rattle.format.specs.Same.{sameℤ}
use Rattle.holding.specs.Held.{View}
use Rattle.table.specs.declared.Kind.{Kind}
use Rattle.table.specs.declared.Kind.TheVariants.{Other, Mask, Packet, Masked}
use Rattle.table.specs.Bodies.{lines_in}
use Rattle.table.specs.Kinds.{kind_for, over_by, keys_by}
use Rattle.table.specs.Shapes.{shapes_from}
use Rattle.writer.specs.declared.gate.Gate.{Gate}
use Rattle.writer.specs.declared.gate.Gate.TheVariants.{Open, Shut}
use Rattle.writer.specs.declared.plan.Plan.{Plan}
use Rattle.fitting.specs.FitHeads.{Asks, never, freely, under_issue, of_mask, mask_fits, packet_fits, alone_fits, flagged_fits}

-- the kind of a head's sub type
unfoldable pub kind_at : ℤ → Kind
kind_at (pos n) = kind_for n
kind_at (negsuc n) = Other

-- what it asks of head and rows
unfoldable pub asks_of : Kind → Asks
asks_of Other = never
asks_of Mask = of_mask mask_fits
asks_of Packet = freely packet_fits
asks_of (Masked l) = under_issue (cond l.flagged (flagged_fits (keys_by l) (shapes_from l.shape)) (alone_fits (over_by l)))

-- the gate: 5, then under the mask, where one is held of so many an issue, 6, 7 and 11
unfoldable pub issue_gate : Bool → ℕ → Head → Gate → Gate
issue_gate held iod h behind = cond held (cond (sameℤ h.iod (pos iod)) behind (Shut OtherIssue)) (Shut NoMask)

unfoldable pub gate_by : Kind → Bool → ℕ → Head → Gate
gate_by Other held iod h = Shut SubType
gate_by Packet held iod h = Open
gate_by Mask held iod h = issue_gate held iod h Open
gate_by (Masked l) held iod h = issue_gate held iod h (cond (l.flagged && sameℤ h.c (pos 0)) (Shut Network) Open)

-- a plan's bits with rows under what a holding shows: what is gathered, the selection, the body
unfoldable pub plan_bits : View → Plan → List (List ℤ) → List Bool
plan_bits v p rows = spell p.pen.width p.pen.gathered ++ (spell p.marked (p.chosen / 2 ^ (64 - p.marked)) ++ spell_rows (lines_in v p.body) rows)
