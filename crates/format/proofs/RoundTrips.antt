-- What was read, written again, is the very bits that were taken, over a table of sub types; so what can be written exactly is what can be read.
-- Assumes nothing.
use mathlib.Core.Path.{◌≡◌, refl, ap, ◌∙◌}
use mathlib.Core.Bool.{Bool, true, false≢true}
use mathlib.Core.List.{List, ◌++◌, append-nil, append_assoc}
use Prim.Native.Nat.{ℕ, ◌<◌, ◌^◌}
use native.Mathlib.Omega.{arith}
use borrow.Author.Tests.{eqb-true}
use lib.Dec.{eqb}
use lib.IntN.{ℤ, pos}
use lib.ListN.{length, take}
use lib.Seq.{take-length}
use Rattle.bits.specs.BitLists.{spell}
use Rattle.bits.specs.Signed.{unsigned}
use Rattle.format.specs.declared.Head.{Head}
use Rattle.format.specs.declared.Refusal.TheVariants.{SubType}
use Rattle.format.specs.Good.{good}
use Rattle.format.specs.Masks.{Held, nothing, mask, Sky, sky_of}
use Rattle.format.specs.Messages.{Common, head_of, orbit_shape, clock_shape, code_shape, phase_shape, bias_shape, accuracy_shape, over_satellites, over_cells, by_satellite, by_cell, combined_shape}
use Rattle.format.specs.Programs.{Ended, well, badly, run}
use Rattle.format.specs.Rows.{Line}
use Rattle.format.specs.Same.{same_list, sameℤ, same_head}
use Rattle.format.specs.Spelling.{put, put_common}
use Rattle.format.specs.Table.{Message, Kind, other, free, masked, adopts, alone, with_flags, kinds, table, by_kind, opening, message_by, message, kind_of, spell_kind, spelled_by, spelled, under_mask}
use Rattle.format.specs.Writing.{ended_with, exact}
use Rattle.format.proofs.Bodies.{Threes}
use Rattle.format.proofs.Makes.{common_gives, mask_spelled_lem}
use Rattle.format.proofs.Runs.{run_append}
use Rattle.format.proofs.Sames.{and_true, same_list_sound, same_list_refl, sameℤ_sound, sameℤ_refl, same_head_sound, same_head_refl, same_held_sound, same_held_refl, eqb_refl}
use Rattle.format.proofs.Selections.{Distinct, satellites_distinct}
use Rattle.format.proofs.Spells.{satellite_threes, cell_threes, alone_spelled, packet_spelled, flagged_spelled, Spells}
use Rattle.format.proofs.Steps.{Gives, gives_done, gives_refuse, gives_bind, gives_so, gives_both, gives_itself, Reads, reads_require, reads_numbered, reads_bind, reads_end, reads_done}
use Rattle.format.proofs.Tables.{Each, end, then, in_table, gives_message, keeping_gives, keeps, under_nothing, under_gives}

-- What a kind promises at a sub type n: what its program reads is of that sub type, and its spelling of that is the bits taken.
-- Where a common head stands before, the head read keeps its columns.
unfoldable pub Lawful : ℕ → Kind → Type 0
Lawful n other = Unit {0}
Lawful n (free k) = Gives k.program (λ d b. (d.head.subtype ≡ pos n) × Spells k.spelling d b)
Lawful n (masked k) =
    (sky : Sky) → Distinct sky.satellites → (h : Common)
    → Gives (k.program sky h) (λ d b. (d.head ≡ head_of n h d.head.a d.head.b d.head.c) × Spells (k.spelling sky) d b)
Lawful n (adopts k) = Gives k.program (λ d b. (d.head.subtype ≡ pos n) × (k.spelling d.made d.head ≡ b))

-- ---- what was read, written again under the holding that it left, is the bits that were taken

-- behind the sub type
kind_spelled : (n : ℕ) (k : Kind) → Lawful n k → (held : Held) → good held ≡ true
    → Gives (by_kind k held) (λ m b. (m.content.head.subtype ≡ pos n) × (spell_kind k m.after m.content.head m.content.rows ≡ b))
unfolding Lawful by_kind spell_kind head_of sky_of
kind_spelled n other law held fine = gives_refuse SubType
kind_spelled n (free k) law held fine = keeping_gives held law λ d b l it whole. (it.0, it.1 l whole)
kind_spelled n (masked k) law nothing fine = keeping_gives {P = λ d b. ⊥} nothing (under_nothing k) λ d b l none whole. absurd none
kind_spelled n (masked k) law (mask m) fine =
    keeping_gives {P = λ d b. (d.head.subtype ≡ pos n) × Spells (λ g rows. put_common 12 g ++ k.spelling (sky_of m) g rows) d b} (mask m)
    (under_gives k m (common_gives 12) λ h a front _.
    gives_so (law (sky_of m) (satellites_distinct m fine) h) λ d b it.
    let head : put_common 12 d.head ≡ a = ap (put_common 12) it.0 ∙ front.1 n d.head.a d.head.b d.head.c in
    (ap (λ (g : Head). g.subtype) it.0, λ l whole. rw (head, it.1 l whole, append_assoc)))
    λ d b l it whole. (it.0, it.1 l whole)
kind_spelled n (adopts k) law held fine = gives_bind law λ d b it. gives_done (rw append-nil it)

-- from the number on
message_spelled : (t : ℕ → Kind) → ((n : ℕ) → Lawful n (t n)) → (held : Held) → good held ≡ true
    → Gives (message_by t held) (λ m b. spelled_by t m.after m.content.head m.content.rows ≡ b)
unfolding spelled_by kind_of put unsigned
message_spelled t law held fine = gives_message t held λ n _. gives_so (kind_spelled n (t n) (law n) held fine) λ m b it. cc (it.0, it.1)

pub read_spelled : (t : ℕ → Kind) → ((n : ℕ) → Lawful n (t n)) → (held : Held) → good held ≡ true → (l : List Bool) (m : Message) (taken : ℕ)
    → run (message_by t held) l ≡ well m taken → spelled_by t m.after m.content.head m.content.rows ≡ take taken l
read_spelled t law held fine = (message_spelled t law held fine).gives

-- ---- reading leaves a holding under which the same bits read the same again

-- what is held after is what was held before, or what was held before was not asked for
kind_again : (k : Kind) (held : Held) → Gives (by_kind k held) (λ m b. by_kind k m.after ≡ by_kind k held)
unfolding by_kind
kind_again other held = gives_refuse SubType
kind_again (free k) held = keeps held k.program λ c b. refl
kind_again (masked k) held = keeps held (under_mask k held) λ c b. refl
kind_again (adopts k) held = gives_so (gives_itself (by_kind (adopts k) held)) λ m b _. refl

-- the number and the sub type
pub opening_reads : (n : ℕ) → n < 2 ^ 4 → Reads opening (spell 12 4073 ++ spell 4 n) n
unfolding opening
opening_reads n small =
    reads_numbered _ 12 4073 (omega arith) (reads_require _ _ _ refl (reads_end (spell 4 n) (reads_numbered _ 4 n small reads_done)))

-- so the bits taken read, under what is held after, to the same message
message_again : (t : ℕ → Kind) (held : Held) → Gives (message_by t held) (λ m b. Reads (message_by t m.after) b m)
unfolding message_by
message_again t held =
    gives_message t held λ n small.
    gives_so (gives_both (kind_again (t n) held) (gives_itself (by_kind (t n) held))) λ m b it.
    rw (← append_assoc) (reads_bind _ (opening_reads n small) (rw it.0 it.1))

-- ---- writing

-- to have ended with a message, as the writer tests it
ended_sound : (m : Message) (bits : ℕ) (e : Ended Message) → ended_with m bits e ≡ true → e ≡ well m bits
unfolding ended_with
ended_sound m bits (badly r missing) h = absurd (false≢true h)
ended_sound m bits (well n taken) h =
    let size = and_true (eqb taken bits) _ h in
    let head = and_true (same_head n.content.head m.content.head) _ size.1 in
    let rows = and_true (same_list (same_list sameℤ) n.content.rows m.content.rows) _ head.1 in
    let heads = same_head_sound n.content.head m.content.head head.0 in
    let all = same_list_sound (same_list sameℤ) (same_list_sound sameℤ sameℤ_sound) n.content.rows m.content.rows rows.0 in
    let holdings = same_held_sound n.after m.after rows.1 in
    λ i. well (record { content = record { head = heads i; rows = all i }; after = holdings i }) (eqb-true taken bits size.0 i)

ended_refl : (m : Message) (bits : ℕ) → ended_with m bits (well m bits) ≡ true
unfolding ended_with
ended_refl m bits =
    rw (eqb_refl bits, same_head_refl m.content.head, same_list_refl (same_list sameℤ) (same_list_refl sameℤ sameℤ_refl) m.content.rows) (same_held_refl m.after)

-- what is written exactly reads back, whatever stands behind it
pub exact_reads : (held : Held) (h : Head) (rows : List (List ℤ)) → exact held h rows ≡ true → (more : List Bool)
    → run (message held) (spelled held h rows ++ more) ≡ well (record { content = record { head = h; rows = rows }; after = held }) (length (spelled held h rows))
unfolding exact
exact_reads held h rows e more =
    let m : Message = record { content = record { head = h; rows = rows }; after = held } in
    let bits : List Bool = spelled held h rows in
    run_append (message held) bits more m (length bits) (ended_sound m (length bits) (run (message held) bits) e)

-- ---- the table

alone_lawful : (n : ℕ) (over : Sky → List Line) → ((sky : Sky) → Threes (over sky)) → Lawful n (alone n over)
unfolding Lawful alone head_of
alone_lawful n over threes sky distinct h = gives_so (alone_spelled n over sky (threes sky) h) λ d b it. (rw it.0, it.1)

kinds_lawful : Each Lawful 0 kinds
unfolding kinds with_flags Lawful over_satellites over_cells
kinds_lawful =
    then tt (then mask_spelled_lem
    (then (alone_lawful 2 (over_satellites orbit_shape) (λ sky. satellite_threes orbit_shape sky.satellites))
    (then (alone_lawful 3 (over_satellites clock_shape) (λ sky. satellite_threes clock_shape sky.satellites))
    (then (alone_lawful 4 (over_cells code_shape) (λ sky. cell_threes code_shape sky.cells))
    (then (alone_lawful 5 (over_cells phase_shape) (λ sky. cell_threes phase_shape sky.cells))
    (then (flagged_spelled 6 by_cell bias_shape)
    (then (alone_lawful 7 (over_satellites accuracy_shape) (λ sky. satellite_threes accuracy_shape sky.satellites))
    (then tt (then tt (then packet_spelled (then (flagged_spelled 11 by_satellite combined_shape) end)))))))))))

pub table_lawful : (n : ℕ) → Lawful n (table n)
unfolding Lawful
table_lawful = in_table kinds_lawful (λ n. tt)

-- ---- what was read can be written exactly, and is the bits that were taken

message_written : (held : Held) → good held ≡ true
    → Gives (message held)
    (λ m b. (exact m.after m.content.head m.content.rows ≡ true) × (spelled m.after m.content.head m.content.rows ≡ b))
unfolding exact spelled
message_written held fine =
    gives_so (gives_both (message_spelled table table_lawful held fine) (message_again table held)) λ m b it.
    (rw (it.0, it.1.reads) (ended_refl m (length b)), it.0)

pub written_again : (held : Held) → good held ≡ true → (l : List Bool) (m : Message) (taken : ℕ) → run (message held) l ≡ well m taken
    → (exact m.after m.content.head m.content.rows ≡ true) × (spelled m.after m.content.head m.content.rows ≡ take taken l)
written_again held fine = (message_written held fine).gives

pub read_exact : (held : Held) → good held ≡ true → (l : List Bool) (m : Message) (taken : ℕ) → run (message held) l ≡ well m taken
    → exact m.after m.content.head m.content.rows ≡ true
read_exact held fine l m taken e = (written_again held fine l m taken e).0

-- no two messages are one record
pub one_message : (g h : Held) → good g ≡ true → good h ≡ true → (k l : List Bool) (m : Message) → run (message g) k ≡ well m (length k)
    → run (message h) l ≡ well m (length l) → k ≡ l
one_message g h fine sound k l m e f = cc ((written_again g fine k m (length k) e).1, (written_again h sound l m (length l) f).1, take-length k, take-length l)
