-- Document 01, "How far the promises go": the promises of both functions that write shut out the useless builds. What they allow is computed at a few calls.
-- Assumes nothing.
use mathlib.Core.Path.{◌≡◌, refl, sym, ap, subst, ◌∙◌}
use mathlib.Core.Bool.{true, false}
use mathlib.Core.List.{List, [], ◌∷◌, ◌++◌}
use Prim.Native.Nat.{ℕ}
use borrow.Author.Tests.{eqb-false}
use lib.Dec.{eqb}
use lib.IntN.{ℤ, pos}
use lib.ListN.{replicate, get_or}
use Rattle.bits.specs.BitLists as BitLists
use Rattle.bits.specs.Signed as Signed
use Rattle.format.specs.Answers as Answers
use Rattle.format.specs.Answers.{Done, done, undone}
use Rattle.format.specs.Rows as Rows
use Rattle.format.specs.Rows.{absent}
use Rattle.format.specs.Same as Same
use Rattle.format.specs.Spelling as Spelling
use Rattle.format.specs.Table as Table
use Rattle.format.specs.Writing as Writing
use Rattle.format.specs.Writing.{writing, done_writing, bytes_after}
use Rattle.holding.specs.Pictures.{lent_by}
use Rattle.host_write.proofs as host_write
use Rattle.host_write.specs.Writes as Writes
use Rattle.host_write.specs.Writes.{head_in}
use Rattle.passing.specs.Passing.{size, holding_in}
use Rattle.promises.specs.RoundTrips as RoundTrips
use Rattle.promises.specs.Useless as Useless
use Rattle.promises.specs.Useless.{ShutsOut}
use Rattle.promises.specs.UselessWriter as Calls
use Rattle.promises.specs.UselessWriter.{askable, Asked, Beside, Left, Fixed, BothDone, SaysTheSame, OneHead, OneBody, UselessWriter, refuses_everything, fixed_answer, fixed_place, fixed_bits, ignores_rows, ignores_head, writes_nothing, writes, host_writes}
use Rattle.promises.proofs.Useless.{near_apart, passed}
use Rattle.writer.proofs as writer
use Rattle.writer.specs.Stages as Stages

-- ---- calls that write a packet at place 3 of zeros

-- a packet of sub type 10: its counter, how many rows more than one, and its rows
packet : ℕ → ℕ → List ℤ
packet counter more = pos 10 ∷ absent ∷ absent ∷ pos 1 ∷ absent ∷ pos counter ∷ pos more ∷ absent ∷ []

row : ℕ → ℕ → List ℤ
row k last = absent ∷ absent ∷ pos k ∷ pos 1 ∷ pos 2 ∷ pos 3 ∷ pos 4 ∷ pos last ∷ []

ask : (head rows : List ℤ) (count : ℕ) → askable (replicate size 0) head rows count (replicate 16 0) 3 ≡ true → Asked
ask head rows count real = record { holding = replicate size 0; head = head; rows = rows; count = count; bytes = replicate 16 0; start = 3; real = real }

-- what these compute with
asking : Unit {0}
unfolding passed packet row ask Calls.askable
asking = tt

short : Asked
unfolding asking
short = ask (packet 5 0) (row 1 5) 1 refl

other_row : Asked
unfolding asking
other_row = ask (packet 5 0) (row 1 6) 1 refl

other_head : Asked
unfolding asking
other_head = ask (packet 6 0) (row 1 5) 1 refl

long : Asked
unfolding asking
long = ask (packet 5 1) (row 1 5 ++ row 2 5) 2 refl

-- what is said and left, by the definitions
write_here : Asked → Left
write_here c =
    let o = writing (lent_by (holding_in c.holding)) (head_in c.head) c.rows c.count c.bytes c.start in
    record { said = done_writing c.start o; bytes = bytes_after o c.bytes c.start }

-- a number of what is said, and a byte
place_said : Done → ℕ
place_said (done next) = next
place_said (undone number place) = 0

byte_at : ℕ → List ℕ → ℕ
byte_at k bytes = get_or bytes k 0

-- what they compute with
seeing : Unit {0}
unfolding asking short other_row other_head long write_here place_said byte_at Calls.Fixed Calls.BothDone Calls.SaysTheSame Calls.OneHead Calls.OneBody Calls.writes Calls.host_writes RoundTrips.done_by RoundTrips.done_in Useless.ShutsOut Writes.head_in Writes.written_handed Stages.answered Writing.writing Writing.done_writing Writing.bytes_after Writing.limit Writing.rows_in Writing.exact Writing.ended_with Writing.is_ours Writing.has_mask Writing.of_issue Writing.has_network Answers.undone_at Same.sameℤ Same.same_head Same.same_held Table.spelled Table.spelled_by Table.spell_kind Table.kind_of Spelling.put Spelling.put_packet Rows.spell_rows Rows.spell_values BitLists.set_bytes BitLists.set_bits Signed.unsigned
seeing = tt

-- ---- a writer that shows what the definitions say

record Shows (f : Asked → Left) : Type 0 where
  short_is : f short ≡ write_here short
  row_is : f other_row ≡ write_here other_row
  head_is : f other_head ≡ write_here other_head
  long_is : f long ≡ write_here long

module _ (f : Asked → Left) (is : Shows f) where
  -- it says other places after messages of one sub type
  other_place : (Alike : Asked → Asked → Left → Left → Type 0) → Alike short long (write_here short) (write_here long) → Fixed Alike (λ s. s.said) f → ⊥
  unfolding seeing
  other_place Alike alike same =
      near_apart f (λ c d s t. Beside c d × Alike c d s t) (λ s. s.said) place_said is.short_is is.long_is
      (record { holding = refl; bytes = refl; start = refl }, alike) refl (λ c d near. same c d near.0 near.1)

  -- and leaves other bytes
  other_bytes : (Alike : Asked → Asked → Left → Left → Type 0) (d : Asked) (k : ℕ) → f d ≡ write_here d → Beside short d → Alike short d (write_here short) (write_here d)
      → eqb (byte_at k (write_here short).bytes) (byte_at k (write_here d).bytes) ≡ false → Fixed Alike (λ s. s.bytes) f → ⊥
  unfolding Fixed
  other_bytes Alike d k there beside alike other same =
      near_apart f (λ c d s t. Beside c d × Alike c d s t) (λ s. s.bytes) (byte_at k) is.short_is there (beside, alike) other
      (λ c d near. same c d near.0 near.1)

  useful_writer : UselessWriter f → ⊥
  unfolding seeing
  useful_writer (refuses_everything never) = never short 65 (ap (λ (s : Left). s.said) is.short_is)
  useful_writer (fixed_answer same) = other_place (λ c d s t. Unit {0}) tt same
  useful_writer (fixed_place same) = other_place BothDone ((65, refl), ((105, refl), refl)) same
  useful_writer (fixed_bits same) =
      other_bytes SaysTheSame other_row 8 is.row_is (record { holding = refl; bytes = refl; start = refl }) refl refl same
  useful_writer (ignores_rows same) =
      other_bytes OneHead other_row 8 is.row_is (record { holding = refl; bytes = refl; start = refl }) (refl, refl) refl same
  useful_writer (ignores_head same) =
      other_bytes OneBody other_head 2 is.head_is (record { holding = refl; bytes = refl; start = refl }) (refl, refl) refl same
  useful_writer (writes_nothing leaves) =
      eqb-false _ _ refl (ap (byte_at 0) (ap (λ (s : Left). s.bytes) (sym is.short_is) ∙ leaves short 65 (ap (λ (s : Left). s.said) is.short_is)))

-- from Rattle
pub write_useful : ShutsOut writer.write.Kinds.ps writer.write.Kinds.r writer.write.Reads.Learnt writes UselessWriter
unfolding seeing
write_useful κs result content meets useless =
    useful_writer _ (record { short_is = refl; row_is = refl; head_is = refl; long_is = refl })
    (subst UselessWriter (λ i c. writes.seen κs c ((meets c).0 i) (tt, (tt, (tt, (tt, ((meets c).1 i, (tt, tt))))))) useless)

-- from C
pub hundurzek_write_useful : ShutsOut host_write.hundurzek_write.Kinds.ps host_write.hundurzek_write.Kinds.r host_write.hundurzek_write.Reads.Learnt host_writes UselessWriter
unfolding seeing
hundurzek_write_useful κs result content meets useless =
    useful_writer _ (record { short_is = refl; row_is = refl; head_is = refl; long_is = refl })
    (subst UselessWriter (λ i c. host_writes.seen κs c ((meets c).0 i) (tt, (tt, (tt, (tt, ((meets c).1 i, (tt, tt))))))) useless)
