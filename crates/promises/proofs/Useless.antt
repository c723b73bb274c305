-- Document 01, "How far the promises go": the promises of all functions that read shut out the useless builds. What they allow is computed at a few calls.
-- Assumes nothing.
use mathlib.Core.Path.{◌≡◌, refl, sym, ap, subst, ◌∙◌}
use mathlib.Core.Bool.{true, false}
use mathlib.Core.List.{List, [], ◌∷◌, ◌++◌}
use Prim.Native.Nat.{ℕ}
use borrow.Author.Tests.{eqb-false}
use lib.Dec.{eqb}
use lib.IntN.{ℤ, pos}
use lib.ListN.{replicate, get_or}
use Rattle.bits.specs.Signed.{unsigned}
use Rattle.format.specs.Reading.{row_room, rows_after, raw_end}
use Rattle.format.specs.Rows.{absent}
use Rattle.format.specs.Same as Same
use Rattle.format.specs.Walking as Walking
use Rattle.format.proofs.Cases.{Field, ◌∶◌, bytes_of, opening, mask_head, head, system, computing}
use Rattle.holding.specs.Bounds as Bounds
use Rattle.holding.specs.Pictures as Pictures
use Rattle.holding.specs.Spread as Spread
use Rattle.host.proofs as host
use Rattle.host.specs.declared.Handed.{Handed}
use Rattle.host.specs.declared.Walked.{Walked}
use Rattle.host.specs.Handing as Handing
use Rattle.host.specs.Handing.{handed, walked_to}
use Rattle.passing.specs.Bytes as Bytes
use Rattle.passing.specs.Passing as Passing
use Rattle.passing.specs.Passing.{size, holding_in}
use Rattle.promises.specs.Useless as Calls
use Rattle.promises.specs.Useless.{lendable, Call, Beside, Seen, LeavesRows, LeavesHolding, Fixed, OneType, BothShort, SaysTheSame, UselessReader, refuses_everything, fixed_answer, fixed_head, fixed_place, fixed_count, fixed_missing, fixed_rows, fixed_holding, leaves_rows, leaves_holding, OpenAlike, StopShort, UselessWalk, invents_stop, invents_place, invents_messages, invents_count, invents_missing, invents_rows, invents_holding, stops_at_once, fixed_stop, keeps_rows, keeps_holding, ShutsOut, reads, walks, host_reads, host_walks}
use Rattle.reader.specs.Readings as Readings
use Rattle.reader.specs.Readings.{outcome_at, holding_after}
use Rattle.walk.proofs as walk
use Rattle.walk.specs.Walks as Walks
use Rattle.walk.specs.Walks.{walk_at}

-- ---- stretches

-- document 01's stretch, whose mask names satellites 1 and 3; and the same with satellite 2 for 3
listing : ℕ → List ℕ
listing satellites =
    0xFE ∷ 0x91 ∷ 0x00 ∷ 0x06 ∷ 0x45 ∷ 0x18 ∷ satellites ∷ 0x00 ∷ 0x00 ∷ 0x00 ∷ 0x00 ∷ 0x04 ∷ 0x08 ∷ 0x06 ∷ 0xFF ∷ 0xA4 ∷ 0xC1 ∷ 0x90 ∷ 0x86 ∷ 0x00 ∷ 0x16 ∷ 0x00 ∷ 0x00 ∷ []

-- clocks under its mask
clocks : ℕ → ℕ → List Field
clocks one other = head 3 3 ++ (15 ∶ one ∷ 15 ∶ other ∷ [])

-- a packet of one row, or of two
packet : ℕ → ℕ → List Field
packet more width = opening 10 ++ (1 ∶ 1 ∷ 3 ∶ 5 ∷ 2 ∶ more ∷ width ∶ 5 ∷ [])

-- a mask of satellites 1 and 3 first
masks_first : List Field → List Field
masks_first rest = mask_head 3 1 ++ (system 0 0xA000000000 0x8100 ++ rest)

-- ---- calls that lend a row buffer of zeros

zeros : List ℤ
zeros = replicate row_room (pos 0)

call : (holding bytes : List ℕ) (end : ℕ) → lendable holding bytes end zeros ≡ true → Call
call holding bytes end real = record { holding = holding; bytes = bytes; end = end; rows = zeros; real = real }

-- the empty holding, and document 01's mask as one
empty : List ℕ
empty = replicate size 0

masked : List ℕ
masked =
    1 ∷ 3 ∷ 1 ∷ 2 ∷ 3 ∷ 0 ∷ 0 ∷ 0 ∷ 0 ∷ 0 ∷ 0 ∷ 1 ∷ 0 ∷ 0 ∷ 0 ∷ 0 ∷ 0 ∷ 0x81 ∷ replicate 8 0
    ++ (0 ∷ 0 ∷ 0 ∷ 0 ∷ 0xA0 ∷ replicate 35 0 ++ (0 ∷ 0x80 ∷ 0 ∷ 0x81 ∷ replicate 124 0))

-- what is passed as a holding computes with these
unfoldable pub passed : Unit {0}
unfolding computing Same.same_list Spread.spread Pictures.filled Pictures.strips_from Pictures.strips_of Pictures.picture_of Pictures.system_of Pictures.systems_of Pictures.mask_of Pictures.same_holding Pictures.sound Bytes.little Bytes.littles Bytes.parts Bytes.parts_of Passing.truth Passing.passes Passing.said Passing.holding_in Passing.bytes_of Pictures.lent_by Calls.words Bounds.every
passed = tt

-- what these compute with
lending : Unit {0}
unfolding passed listing clocks packet masks_first zeros call empty masked Calls.lendable
lending = tt

-- two masks where nothing is held (one of them would be 13 under the other), two clocks and two packets under the mask held
listed : Call
unfolding lending
listed = call empty (listing 0x85) 181 refl

neighbour : Call
unfolding lending
neighbour = call empty (listing 0x86) 181 refl

clock : Call
unfolding lending
clock = call masked (bytes_of (clocks 5 6)) 67 refl

other_clock : Call
unfolding lending
other_clock = call masked (bytes_of (clocks 5 7)) 67 refl

short : Call
unfolding lending
short = call masked (bytes_of (packet 0 40)) 62 refl

long : Call
unfolding lending
long = call masked (bytes_of (packet 1 80)) 102 refl

-- a clock that ends one bit early, and seven
cut_clock : Call
unfolding lending
cut_clock = call masked (bytes_of (clocks 5 6)) 66 refl

shorter_clock : Call
unfolding lending
shorter_clock = call masked (bytes_of (clocks 5 6)) 60 refl

-- two stretches of one length that open with one mask: the first goes on to clocks and another mask, the second is refused there
whole : Call
unfolding lending
whole = call empty (bytes_of (masks_first (clocks 5 6 ++ mask_head 4 0))) 226 refl

torn : Call
unfolding lending
torn = call empty (bytes_of (masks_first (12 ∶ 4072 ∷ 104 ∶ 0 ∷ []))) 226 refl

-- and two that stop four bits into a body: clocks' of 30 bits, or orbits' of 98
lacks_clocks : Call
unfolding lending
lacks_clocks = call empty (bytes_of (masks_first (head 3 3 ++ (4 ∶ 0 ∷ [])))) 151 refl

lacks_orbits : Call
unfolding lending
lacks_orbits = call empty (bytes_of (masks_first (head 2 3 ++ (4 ∶ 0 ∷ [])))) 151 refl

-- ---- what is said at a call, then held and left in the row buffer, by the definitions

read_here : Call → Seen Handed
read_here c =
    let o = outcome_at (holding_in c.holding) c.bytes c.end 0 c.rows in
    record { said = handed 0 o; holding = holding_after (holding_in c.holding) o; rows = rows_after o c.rows }

walk_here : Call → Seen Walked
walk_here c =
    let w = walk_at (holding_in c.holding) c.bytes c.end c.rows in
    record { said = walked_to w; holding = holding_after (holding_in c.holding) w.stop; rows = w.rows }

-- a number of the row buffer
number_at : ℕ → List ℤ → ℕ
number_at k rows = unsigned 32 (get_or rows k absent)

-- what they compute with
promising : Unit {0}
unfolding lending listed neighbour clock other_clock short long cut_clock shorter_clock whole torn lacks_clocks lacks_orbits read_here walk_here number_at Calls.FixedAnswer Calls.Fixed Calls.OneType Calls.BothShort Calls.SaysTheSame Calls.OpenAlike Calls.StopShort Calls.ShutsOut Calls.reads Calls.walks Calls.host_reads Calls.host_walks Readings.struct_of Readings.outcome_at Handing.bytes_after Handing.host_outcome Readings.reading_of Walks.walk_at Walks.walked_of Handing.number_said Handing.missing_said Handing.handed_by Handing.host_walk Handing.walked_to Walking.messages Walking.row_count raw_end unsigned
promising = tt

-- ---- what is the same at two calls though it must differ

-- at two calls of which something shows that they are near each other
pub near_apart : {C S A : Type 0} (f : C → S) (Near : C → C → S → S → Type 0) (part : S → A) (number : A → ℕ) {c d : C} {s t : S}
    → f c ≡ s → f d ≡ t → Near c d s t → eqb (number (part s)) (number (part t)) ≡ false → ((c d : C) → Near c d (f c) (f d) → part (f c) ≡ part (f d)) → ⊥
near_apart f Near part number {c} {d} {s} p q near other same =
    let here = subst (λ x. Near c d x (f d)) (sym p) (subst (λ y. Near c d s y) (sym q) near) in
    eqb-false _ _ other (ap number (ap part (sym p) ∙ same c d here ∙ ap part q))

module _ {S : Type 0} (f : Call → Seen S) (Alike : Call → Call → Seen S → Seen S → Type 0) where
  apart : {A : Type 0} (part : Seen S → A) (number : A → ℕ) {c d : Call} {s t : Seen S}
      → f c ≡ s → f d ≡ t → Beside c d → Alike c d s t → eqb (number (part s)) (number (part t)) ≡ false → Fixed Alike part f → ⊥
  unfolding Fixed
  apart part number p q beside alike other same =
      near_apart f (λ c d s t. Beside c d × Alike c d s t) part number p q (beside, alike) other (λ c d near. same c d near.0 near.1)

  -- what is left as it was is the same
  same_rows : LeavesRows f → Fixed Alike (λ s. s.rows) f
  unfolding LeavesRows Fixed
  same_rows leaves c d beside _ = leaves c ∙ beside.rows ∙ sym (leaves d)

  same_holding_lem : LeavesHolding f → Fixed Alike (λ s. s.holding) f
  unfolding LeavesHolding Fixed
  same_holding_lem leaves c d beside _ = leaves c ∙ ap holding_in beside.holding ∙ sym (leaves d)

-- ---- a reader

-- at these calls it shows what the definitions say
record Reads (f : Call → Seen Handed) : Type 0 where
  listed_is : f listed ≡ read_here listed
  neighbour_is : f neighbour ≡ read_here neighbour
  clock_is : f clock ≡ read_here clock
  other_is : f other_clock ≡ read_here other_clock
  short_is : f short ≡ read_here short
  long_is : f long ≡ read_here long
  cut_is : f cut_clock ≡ read_here cut_clock
  shorter_is : f shorter_clock ≡ read_here shorter_clock

module _ (f : Call → Seen Handed) (is : Reads f) where
  -- one thing is said, but other rows are written, or another mask is held
  other_rows : Fixed SaysTheSame (λ s. s.rows) f → ⊥
  unfolding promising
  other_rows = apart f SaysTheSame (λ s. s.rows) (number_at 11) is.clock_is is.other_is (record { holding = refl; rows = refl }) refl refl

  other_holding : Fixed SaysTheSame (λ s. s.holding) f → ⊥
  unfolding promising
  other_holding = apart f SaysTheSame (λ s. s.holding) (λ h. get_or h.satellites 0 0) is.listed_is is.neighbour_is (record { holding = refl; rows = refl }) refl refl

  -- of one sub type other things are said
  other_part : {A : Type 0} (part : Seen Handed → A) (number : A → ℕ)
      → eqb (number (part (read_here short))) (number (part (read_here long))) ≡ false → Fixed OneType part f → ⊥
  unfolding promising
  other_part part number = apart f OneType part number is.short_is is.long_is (record { holding = refl; rows = refl }) (refl, refl, refl)

  -- of two that run past the end
  other_missing : Fixed BothShort (λ s. s.said.missing) f → ⊥
  unfolding promising
  other_missing = apart f BothShort (λ s. s.said.missing) (λ n. n) is.cut_is is.shorter_is (record { holding = refl; rows = refl }) (refl, refl) refl

  useful_reader : UselessReader f → ⊥
  unfolding promising
  useful_reader (refuses_everything never) = never clock (ap (λ (s : Seen Handed). s.said.answer) is.clock_is)
  useful_reader (fixed_answer same) = other_part (λ s. s.said) (λ h. h.place) refl (λ c d beside _. same c d beside tt)
  useful_reader (fixed_head same) = other_part (λ s. s.said.head) (λ h. unsigned 32 h.b) refl same
  useful_reader (fixed_place same) = other_part (λ s. s.said.place) (λ n. n) refl same
  useful_reader (fixed_count same) = other_part (λ s. s.said.rows) (λ n. n) refl same
  useful_reader (fixed_missing same) = other_missing same
  useful_reader (fixed_rows same) = other_rows same
  useful_reader (fixed_holding same) = other_holding same
  useful_reader (leaves_rows leaves) = other_rows (same_rows f SaysTheSame leaves)
  useful_reader (leaves_holding leaves) = other_holding (same_holding_lem f SaysTheSame leaves)

-- from Rattle
pub read_useful : ShutsOut walk.single.read.Kinds.ps walk.single.read.Kinds.r walk.single.read.Reads.Learnt reads UselessReader
unfolding promising
read_useful κs result content meets useless =
    useful_reader _ (record { listed_is = refl; neighbour_is = refl; clock_is = refl; other_is = refl; short_is = refl; long_is = refl; cut_is = refl; shorter_is = refl })
    (subst UselessReader (λ i c. reads.seen κs c ((meets c).0 i) (tt, (tt, (tt, (tt, ((meets c).1 i, tt)))))) useless)

-- from C
pub hundurzek_read_useful : ShutsOut host.hundurzek_read.Kinds.ps host.hundurzek_read.Kinds.r host.hundurzek_read.Reads.Learnt host_reads UselessReader
unfolding promising
hundurzek_read_useful κs result content meets useless =
    useful_reader _ (record { listed_is = refl; neighbour_is = refl; clock_is = refl; other_is = refl; short_is = refl; long_is = refl; cut_is = refl; shorter_is = refl })
    (subst UselessReader (λ i c. host_reads.seen κs c ((meets c).0 i) ((meets c).1.0 i, (tt, (tt, (tt, ((meets c).1.1 i, tt)))))) useless)

-- ---- a walk

-- at these calls it shows what the definitions say
record WalksHere (f : Call → Seen Walked) : Type 0 where
  whole_is : f whole ≡ walk_here whole
  torn_is : f torn ≡ walk_here torn
  clocks_is : f lacks_clocks ≡ walk_here lacks_clocks
  orbits_is : f lacks_orbits ≡ walk_here lacks_orbits

module _ (f : Call → Seen Walked) (is : WalksHere f) where
  other_walk : {A : Type 0} (part : Seen Walked → A) (number : A → ℕ)
      → eqb (number (part (walk_here whole))) (number (part (walk_here torn))) ≡ false → Fixed OpenAlike part f → ⊥
  unfolding promising
  other_walk part number = apart f OpenAlike part number is.whole_is is.torn_is (record { holding = refl; rows = refl }) (refl, refl)

  other_messages : Fixed OpenAlike (λ s. s.said.messages) f → ⊥
  unfolding promising
  other_messages = other_walk (λ s. s.said.messages) (λ n. n) refl

  walk_rows : Fixed OpenAlike (λ s. s.rows) f → ⊥
  unfolding promising
  walk_rows = other_walk (λ s. s.rows) (number_at 11) refl

  walk_holding : Fixed OpenAlike (λ s. s.holding) f → ⊥
  unfolding promising
  walk_holding = other_walk (λ s. s.holding) (λ h. h.iod) refl

  walk_missing : Fixed StopShort (λ s. s.said.missing) f → ⊥
  unfolding promising
  walk_missing = apart f StopShort (λ s. s.said.missing) (λ n. n) is.clocks_is is.orbits_is (record { holding = refl; rows = refl }) ((refl, refl), (refl, refl)) refl

  useful_walk : UselessWalk f → ⊥
  unfolding promising
  useful_walk (invents_stop same) = other_walk (λ s. s.said.answer) (λ n. n) refl same
  useful_walk (invents_place same) = other_walk (λ s. s.said.place) (λ n. n) refl same
  useful_walk (invents_messages same) = other_messages same
  useful_walk (invents_count same) = other_walk (λ s. s.said.rows) (λ n. n) refl same
  useful_walk (invents_missing same) = walk_missing same
  useful_walk (invents_rows same) = walk_rows same
  useful_walk (invents_holding same) = walk_holding same
  useful_walk (stops_at_once none) = other_messages (λ c d beside _. none c ∙ sym (none d))
  useful_walk (fixed_stop same) = other_walk (λ s. s.said) (λ w. w.place) refl (λ c d beside _. same c d beside tt)
  useful_walk (keeps_rows leaves) = walk_rows (same_rows f OpenAlike leaves)
  useful_walk (keeps_holding leaves) = walk_holding (same_holding_lem f OpenAlike leaves)

-- from Rattle
pub walk_useful : ShutsOut walk.walk.Kinds.ps walk.walk.Kinds.r walk.walk.Reads.Learnt walks UselessWalk
unfolding promising
walk_useful κs result content meets useless =
    useful_walk _ (record { whole_is = refl; torn_is = refl; clocks_is = refl; orbits_is = refl })
    (subst UselessWalk (λ i c. walks.seen κs c ((meets c).0 i) (tt, (tt, (tt, ((meets c).1 i, tt))))) useless)

-- from C
pub hundurzek_walk_useful : ShutsOut host.hundurzek_walk.Kinds.ps host.hundurzek_walk.Kinds.r host.hundurzek_walk.Reads.Learnt host_walks UselessWalk
unfolding promising
hundurzek_walk_useful κs result content meets useless =
    useful_walk _ (record { whole_is = refl; torn_is = refl; clocks_is = refl; orbits_is = refl })
    (subst UselessWalk (λ i c. host_walks.seen κs c ((meets c).0 i) ((meets c).1.0 i, (tt, (tt, ((meets c).1.1 i, tt))))) useless)
