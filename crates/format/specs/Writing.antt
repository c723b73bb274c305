-- Writing one message: what head, rows and mask spell, if that reads back to exactly these.
use Rattle.std.specs.Prelude.{Bool, true, false, cond, not, ◌&&◌, List, [], ◌∷◌, ℕ, zero, suc, ◌+◌, ◌*◌, min, leb, eqb, ℤ, pos, length, take, drop}
use Rattle.bits.specs.BitLists.{set_bytes}
use Rattle.format.specs.declared.Head.{Head}
use Rattle.format.specs.declared.Refusal.{Refusal}
use Rattle.format.specs.declared.Refusal.TheVariants.{Room, Place, SubType, NoMask, OtherIssue, Network, Value}
use Rattle.format.specs.Answers.{Done, done, undone_at}
use Rattle.format.specs.Good.{is_holding}
use Rattle.format.specs.Masks.{Held, nothing, mask, Lent, held_in}
use Rattle.format.specs.Programs.{Ended, well, badly, run}
use Rattle.format.specs.Reading.{stretch_limit}
use Rattle.format.specs.Same.{same_list, sameℤ, same_head, same_held}
use Rattle.format.specs.Tests.{Test, verdict}
use Rattle.format.specs.Table.{Kind, other, free, masked, adopts, table, kind_of, Message, message, spelled}

-- the lent numbers as rows of eight, as many as counted
unfoldable pub rows_in : ℕ → List ℤ → List (List ℤ)
rows_in zero numbers = []
rows_in (suc n) numbers = take 8 numbers ∷ rows_in n (drop 8 numbers)

-- a program that ended well, with just that message and having taken so many bits
unfoldable pub ended_with : Message → ℕ → Ended Message → Bool
ended_with m bits (badly r missing) = false
ended_with m bits (well n taken) =
    eqb taken bits && (same_head n.content.head m.content.head
    && (same_list (same_list sameℤ) n.content.rows m.content.rows && same_held n.after m.after))

-- the message spelled reads back to exactly this under this mask, and leaves this mask held: for sub type 1 by adopting it
unfoldable pub exact : Held → Head → List (List ℤ) → Bool
exact held h rows =
    let bits = spelled held h rows in
    ended_with (record { content = record { head = h; rows = rows }; after = held }) (length bits) (run (message held) bits)

-- ---- the writer's order: 2, 12, 5, 6, 7, 11, 12, 1

unfoldable pub is_ours : Kind → Bool
is_ours other = false
is_ours (free k) = true
is_ours (masked k) = true
is_ours (adopts k) = true

unfoldable pub has_mask : Kind → Held → Bool
has_mask other held = true
has_mask (free k) held = true
has_mask (masked k) nothing = false
has_mask (masked k) (mask m) = true
has_mask (adopts k) nothing = false
has_mask (adopts k) (mask m) = true

unfoldable pub of_issue : Kind → Held → ℤ → Bool
of_issue other held iod = true
of_issue (free k) held iod = true
of_issue (masked k) nothing iod = true
of_issue (masked k) (mask m) iod = sameℤ iod (pos m.iod)
of_issue (adopts k) nothing iod = true
of_issue (adopts k) (mask m) iod = sameℤ iod (pos m.iod)

-- sub types with a network
unfoldable pub has_network : ℤ → Bool
has_network subType = cond (sameℤ subType (pos 6)) true (sameℤ subType (pos 11))

-- How writing ends: with the bits written, or with the refusal of the first test that fails.
pub data Written : Type 0 where
  wrote : List Bool → Written
  refused : Refusal → Written

-- bits up to 50,850 or the bytes' end, the smaller
unfoldable pub limit : List ℕ → ℕ
limit bytes = min stretch_limit (8 * length bytes)

unfoldable pub writing : Lent → Head → List ℤ → ℕ → List ℕ → ℕ → Written
writing holding h rows count bytes start =
    let held = held_in holding in
    let kind = kind_of table h.subtype in
    let bits = spelled held h (rows_in count rows) in
    verdict refused (wrote bits)
    (record { holds = leb start (limit bytes); else = Place }
    ∷ record { holds = is_holding holding; else = Value }
    ∷ record { holds = is_ours kind; else = SubType }
    ∷ record { holds = has_mask kind held; else = NoMask }
    ∷ record { holds = of_issue kind held h.iod; else = OtherIssue }
    ∷ record { holds = not (has_network h.subtype && sameℤ h.c (pos 0)); else = Network }
    ∷ record { holds = leb (8 * count) (length rows) && exact held h (rows_in count rows); else = Value }
    ∷ record { holds = leb (start + length bits) (limit bytes); else = Room }
    ∷ [])

-- what it answers: the place after the message, or the refusal's number and the start asked for
unfoldable pub done_writing : ℕ → Written → Done
done_writing start (wrote bits) = done (start + length bits)
done_writing start (refused r) = undone_at start r

-- what writing leaves in the lent bytes
unfoldable pub bytes_after : Written → List ℕ → ℕ → List ℕ
bytes_after (wrote bits) bytes start = set_bytes bytes start bits
bytes_after (refused r) bytes start = bytes
