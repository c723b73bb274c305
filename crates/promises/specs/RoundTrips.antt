-- Demand 2: "Writing the records gives back the very bits; reading what was written gives back the records." And of demand 1 what a writer's refusal leaves.
-- Of a function that writes and one that reads, by what their promises allow; any outcome that they allow.
use Rattle.std.specs.Prelude.{◌≡◌, cond, List, ℕ, ◌+◌, ◌-◌, ◌*◌, ◌≤◌, eqb, ℤ, length, take, drop}
use contract.Lifetimes.{Lfts}
use denote.Ref.{Bor, MutBor, at_last}
use Rattle.bits.specs.BitLists.{bits, set_bytes}
use Rattle.bits.proofs.Windows.{Bytes}
use Rattle.format.specs.declared.Head.{Head}
use Rattle.format.specs.declared.Refusal.{Refusal}
use Rattle.format.specs.Answers.{Said, message, Done, done, undone, undone_at, number_of}
use Rattle.format.specs.Reading.{row_room, over}
use Rattle.format.specs.Writing.{limit}
use Rattle.holding.specs.declared.Holding.{Holding}
use Rattle.host_write.proofs as host_write
use Rattle.host_write.specs.declared.Done as Handed
use Rattle.host_write.specs.Writes.{done_number}
use Rattle.host_write.specs.Writes.{head_in}
use Rattle.promises.specs.Determination.{Allows}
use Rattle.writer.proofs as writer
use Rattle.writer.specs.declared.Writing.{Writing}
use Rattle.writer.specs.declared.Writing.TheVariants as Writings

-- ---- what is claimed

-- "gives back the records": the message of that head, with the place after it and the row count; those rows first in the row buffer, eight numbers each, its old
-- numbers after them; and what was held, which for sub type 1 is the mask that the message makes
pub record TheRecords {H : Type 0} (holding : H) (head : Head) (rows : List ℤ) (count next : ℕ) (buffer : List ℤ) (said : Said) (left : H) (after : List ℤ) : Type 0 where
  pub answer : said ≡ message head next count
  pub numbers : after ≡ over (take (8 * count) rows) buffer
  pub held : left ≡ holding

-- "gives back the very bits": those that the message had from start to next of its stretch stand from the place on, and all others are as they were
pub record TheVeryBits (bytes : List ℕ) (start next : ℕ) (others : List ℕ) (place : ℕ) (said : Done) (written : List ℕ) : Type 0 where
  pub answer : said ≡ done (place + (next - start))
  pub very : take (next - start) (drop place (bits written)) ≡ take (next - start) (drop start (bits bytes))
  pub before : take place (bits written) ≡ take place (bits others)
  pub behind : drop (place + (next - start)) (bits written) ≡ drop (place + (next - start)) (bits others)
  -- all of it in one equation
  pub set : written ≡ set_bytes others place (take (next - start) (drop start (bits bytes)))

-- `Writes` says what may be answered to a holding, a head, so many rows of some numbers, and a place of lent bytes, and what is left of the bytes;
-- `Reads` the same of a stretch, its length, a holding, a place and a row buffer.
module _ {H : Type 0} (Writes : H → Head → List ℤ → ℕ → List ℕ → ℕ → Done → List ℕ → Type 0) (Reads : List ℕ → ℕ → H → ℕ → List ℤ → Said → H → List ℤ → Type 0) where
  -- "reading what was written gives back the records": whatever stands around it, in a stretch of any length that has all of it
  unfoldable pub ReadingGivesBack : Type 0
  ReadingGivesBack =
      (holding : H) (head : Head) (rows : List ℤ) (count : ℕ) (bytes : List ℕ) (start next : ℕ) (written : List ℕ)
      → Writes holding head rows count bytes start (done next) written
      → (end : ℕ) → next ≤ end → end ≤ limit written → (buffer : List ℤ) → row_room ≤ length buffer
      → (said : Said) (left : H) (after : List ℤ) → Reads written end holding start buffer said left after
      → TheRecords holding head rows count next buffer said left after

  -- "Writing the records gives back the very bits": with what reading left, into any bytes with room
  unfoldable pub WritingGivesBack : Type 0
  WritingGivesBack =
      (bytes : List ℕ) (end : ℕ) (holding : H) (start : ℕ) (rows : List ℤ) (head : Head) (next count : ℕ) (left : H) (after : List ℤ)
      → Reads bytes end holding start rows (message head next count) left after
      → (others : List ℕ) (place : ℕ) → place + (next - start) ≤ limit others
      → (said : Done) (written : List ℕ) → Writes left head after count others place said written
      → TheVeryBits bytes start next others place said written

  -- so where it stood nothing changes
  unfoldable pub WritingInPlace : Type 0
  WritingInPlace =
      (bytes : List ℕ) (end : ℕ) (holding : H) (start : ℕ) (rows : List ℤ) (head : Head) (next count : ℕ) (left : H) (after : List ℤ)
      → Reads bytes end holding start rows (message head next count) left after
      → (said : Done) (written : List ℕ) → Writes left head after count bytes start said written
      → (said ≡ done next) × (written ≡ bytes)

-- demand 1: "Each call ends with an answer or one refusal from the list": never with two, wherever the slices lie
unfoldable pub OneAnswer : {H : Type 0} → (H → Head → List ℤ → ℕ → List ℕ → ℕ → Done → List ℕ → Type 0) → Type 0
OneAnswer {H} Writes =
    (holding : H) (head : Head) (rows : List ℤ) (count : ℕ) (bytes : List ℕ) (start : ℕ) (said other : Done) (left rest : List ℕ)
    → Writes holding head rows count bytes start said left → Writes holding head rows count bytes start other rest
    → (said ≡ other) × (left ≡ rest)

-- "one refusal from the list", with the start asked for; "A refusal changes neither the held mask nor a lent buffer" (the holding is passed in, not back)
unfoldable pub RefusalLeaves : {H : Type 0} → (H → Head → List ℤ → ℕ → List ℕ → ℕ → Done → List ℕ → Type 0) → Type 0
RefusalLeaves {H} Writes =
    (holding : H) (head : Head) (rows : List ℤ) (count : ℕ) (bytes : List ℕ) (start number place : ℕ) (left : List ℕ)
    → Writes holding head rows count bytes start (undone number place) left
    → (left ≡ bytes) × ((place ≡ start) × ((r : Refusal) × (number ≡ number_of r)))

-- ---- a call as the contract of its function allows it, for slices of these contents, wherever they lie

-- what an answer of `write` says
unfoldable pub done_by : ℕ → Writing → Done
done_by start (Writings.Done place) = done place
done_by start (Writings.Refused r) = undone_at start r

-- `write` in Rattle
pub record CodeWrite (holding : Holding) (head : Head) (rows : List ℤ) (count : ℕ) (bytes : List ℕ) (start : ℕ) (said : Done) (left : List ℕ) : Type 0 where
  pub κs : Lfts 2
  pub numbers : Bor (List ℤ)
  pub target : MutBor (List ℕ)
  pub octets : Bytes bytes
  pub result : Writing
  pub says : done_by start result ≡ said
  pub allowed :
      Allows writer.write.Kinds.ps writer.write.Kinds.r writer.write.Reads.Learnt κs
      (holding, (head, (record numbers { now = rows }, (count, (at_last target bytes, (start, tt)))))) result (tt, (tt, (tt, (tt, (left, (tt, tt))))))

-- what the numbers that C is handed say: 255 done, every other a refusal
unfoldable pub done_in : Handed.Done → Done
done_in r = cond (eqb r.answer done_number) (done r.place) (undone r.answer r.place)

-- `hundurzek_write`: numbers that say the head
pub record HostWrite (holding : List ℕ) (head : Head) (rows : List ℤ) (count : ℕ) (bytes : List ℕ) (start : ℕ) (said : Done) (left : List ℕ) : Type 0 where
  pub κs : Lfts 4
  pub lent : Bor (List ℕ)
  pub headed : Bor (List ℤ)
  pub numbers : Bor (List ℤ)
  pub target : MutBor (List ℕ)
  pub words : List ℤ
  pub heads : head_in words ≡ head
  pub octets : Bytes bytes
  pub held_octets : Bytes holding
  pub result : Handed.Done
  pub says : done_in result ≡ said
  pub allowed :
      Allows host_write.hundurzek_write.Kinds.ps host_write.hundurzek_write.Kinds.r host_write.hundurzek_write.Reads.Learnt κs
      (record lent { now = holding }, (record headed { now = words }, (record numbers { now = rows }, (count, (at_last target bytes, (start, tt)))))) result
      (tt, (tt, (tt, (tt, (left, (tt, tt))))))
