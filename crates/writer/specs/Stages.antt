-- Writing in its order, stage by stage: what is lent, the gate, then head and rows and the room.
use Rattle.std.specs.Prelude.{Bool, not, ◌&&◌, List, [], ◌∷◌, ℕ, ◌+◌, leb, pos, length}
use Rattle.format.specs.declared.Head.{Head}
use Rattle.format.specs.declared.Refusal.TheVariants.{Room, SubType, NoMask, OtherIssue, Network, Value}
use Rattle.format.specs.Masks.{Held}
use Rattle.format.specs.Same.{sameℤ}
use Rattle.format.specs.Table.{Kind}
use Rattle.format.specs.Tests.{Test, verdict}
use Rattle.format.specs.Writing as Written
use Rattle.format.specs.Writing.{is_ours, has_mask, of_issue, has_network, limit}
use Rattle.writer.specs.declared.gate.Gate.{Gate}
use Rattle.writer.specs.declared.gate.Gate.TheVariants.{Open, Shut}
use Rattle.writer.specs.declared.Writing.{Writing}
use Rattle.writer.specs.declared.Writing.TheVariants.{Done, Refused}

-- the gate's tests
unfoldable pub gate_tests : Kind → Held → Head → List Test
gate_tests kind held h =
    record { holds = is_ours kind; else = SubType }
    ∷ record { holds = has_mask kind held; else = NoMask }
    ∷ record { holds = of_issue kind held h.iod; else = OtherIssue }
    ∷ record { holds = not (has_network h.subtype && sameℤ h.c (pos 0)); else = Network }
    ∷ []

-- those behind it, for a message of some bits
unfoldable pub last_tests : Bool → List Bool → List ℕ → ℕ → List Test
last_tests exact bits bytes start = record { holds = exact; else = Value } ∷ record { holds = leb (start + length bits) (limit bytes); else = Room } ∷ []

-- what writing comes to behind the gate
unfoldable pub behind : Bool → List Bool → List ℕ → ℕ → Written.Written
behind exact bits bytes start = verdict Written.refused (Written.wrote bits) (last_tests exact bits bytes start)

-- and by the gate
unfoldable pub by_gate : Gate → Written.Written → Written.Written
by_gate Open w = w
by_gate (Shut r) w = Written.refused r

-- the code's answer to how writing ends: the place after the message, or the refusal
unfoldable pub answered : ℕ → Written.Written → Writing
answered start (Written.wrote bits) = Done (start + length bits)
answered start (Written.refused r) = Refused r
