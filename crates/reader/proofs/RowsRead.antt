-- Every row of a message has eight numbers, so the row buffer cut eight by eight gives back its rows; and there are at most 256 of them. Assumes nothing.
use mathlib.Core.Path.{◌≡◌, refl, ap, subst, ◌∙◌}
use mathlib.Core.Bool.{Bool, true, false}
use mathlib.Core.List.{List, [], ◌∷◌, ◌++◌, append_assoc, flatten, flat_map}
use Prim.Native.Nat.{ℕ, zero, suc, ◌≤◌}
use native.Mathlib.Omega.{arith}
use lib.Dec.{eqb}
use lib.IntN.{ℤ, pos}
use lib.ListN.{length, drop, length-append, length-map}
use lib.Seq.{take_at, drop_at}
use Rattle.body.proofs.Bodies.{lines_eights, packet_eights}
use Rattle.format.specs.declared.Refusal.TheVariants.{SubType}
use Rattle.format.specs.Masks.{Held, nothing, mask, Lent, held_in, Satellite, Cell, Sky, sky_of, cells_on}
use Rattle.format.specs.Messages.{Heading, Common, common, over_satellites, over_cells, satellite_lines, cell_lines, orbit_shape, clock_shape, code_shape, phase_shape, bias_shape, accuracy_shape, combined_shape, packet, packet_heading, rows_alone, Keys, by_satellite, by_cell, lines_of, flagged, selection, mask_message}
use Rattle.format.specs.Programs.{Program}
use Rattle.format.specs.Reading.{accepted, bits_from, rows_after, over, reading}
use Rattle.format.specs.Rows.{Column, Line, absent, width_of, shape_width, values_of, rows_of}
use Rattle.format.specs.Spelling.{put_rows, put_flagged, put_packet, put_mask}
use Rattle.format.specs.Table.{Kind, MaskedKind, Message, other, free, masked, adopts, kinds, table, alone, with_flags, by_kind, keeping, message}
use Rattle.format.specs.Writing.{rows_in}
use Rattle.format.proofs.Bodies.{All, none, more, rows_count}
use Rattle.format.proofs.Picks.{pick_few}
use Rattle.format.proofs.Selections.{Distinct, distinct_pick, cells_shared}
use Rattle.format.proofs.Spells.{packet_count}
use Rattle.format.proofs.Stops.{read_ends, reading_ends}
use Rattle.format.proofs.Steps.{Gives, gives_so, gives_done, gives_refuse, gives_require, gives_taking, gives_numbered, gives_bind, gives_itself}
use Rattle.format.proofs.Tables.{Each, end, then, in_table, gives_message, keeping_gives, under_nothing, under_gives}
use Rattle.holding.specs.declared.Holding.{Holding}
use Rattle.holding.specs.Held.{satellites_held, cells_held}
use Rattle.holding.specs.Pictures.{mask_of, sound}
use Rattle.holding.proofs.Sounds.{sounds, few_held, held_distinct}
use Rattle.reader.specs.Readings.{read_at}
use Rattle.rows.proofs.RowsAt.{Eights}

-- each row has eight numbers
abbrev pub Eight : List (List ℤ) → Type 0
Eight rows = All (λ r. length r ≡ 8) rows

-- so they stand in a buffer that begins with them
pub rows_back : (rows : List (List ℤ)) → Eight rows → (old : List ℤ) → rows_in (length rows) (flatten rows ++ old) ≡ rows
unfolding rows_in flatten
rows_back [] none old = refl
rows_back (r ∷ rs) (more eight eights) old =
    rw (append_assoc r (flatten rs) old, take_at r (flatten rs ++ old) 8 eight, drop_at r (flatten rs ++ old) 8 eight)
    (ap (λ (l : List (List ℤ)). r ∷ l) (rows_back rs eights old))

-- ---- rows by their lines

values_count : (cs : List Column) (l : List Bool) → length (values_of cs l) ≡ length cs
unfolding values_of
values_count [] l = refl
values_count (c ∷ cs) l = ap suc (values_count cs (drop (width_of c) l))

rows_eight : (lines : List Line) (l : List Bool) → Eights lines → Eight (rows_of lines l)
unfolding rows_of
rows_eight [] l none = none
rows_eight (n ∷ ns) l (more it its) =
    more (length-append n.keys (values_of n.shape l) ∙ omega (arith, it.0, it.1, values_count n.shape l)) (rows_eight ns (drop (shape_width n.shape) l) its)

-- lines of rows of eight numbers, at most 256 of them where there are so few satellites and cells
record Lined (few : Type 0) (lines : List Line) : Type 0 where
  eights : Eights lines
  count : few → length lines ≤ 256

-- a shape of five columns
abbrev Five : (ℕ → List Column) → Type 0
Five shape = (system : ℕ) → length (shape system) ≡ 5

satellites_lined : {few : Type 0} (shape : ℕ → List Column) → Five shape → (sats : List Satellite) → (few → length sats ≤ 64) → Lined few (satellite_lines shape sats)
unfolding satellite_lines
satellites_lined shape five sats most =
    record {
      eights = lines_eights (λ s. pos s.system ∷ pos s.number ∷ absent ∷ []) (λ s. shape s.system) sats (λ s. refl) (λ s. five s.system);
      count = λ few. rw length-map (omega (arith, most few));
    }

cells_lined : {few : Type 0} (shape : ℕ → List Column) → Five shape → (cs : List Cell) → (few → length cs ≤ 256) → Lined few (cell_lines shape cs)
unfolding cell_lines
cells_lined shape five cs most =
    record {
      eights = lines_eights (λ c. pos c.satellite.system ∷ pos c.satellite.number ∷ pos c.signal ∷ []) (λ c. shape c.satellite.system) cs (λ c. refl)
          (λ c. five c.satellite.system);
      count = λ few. rw length-map (most few);
    }

-- whatever the flags say
bias_five : (code phase : Bool) → Five (bias_shape code phase)
unfolding bias_shape
bias_five code phase system = refl

combined_five : (orbit clock : Bool) → Five (combined_shape orbit clock)
unfolding combined_shape
combined_five true clock system = refl
combined_five false clock system = refl

-- ---- the table

-- so few are held, no two satellites of them the same
abbrev Few : Held → Type 0
Few held = (length (satellites_held held) ≤ 64) × (length (cells_held held) ≤ 256) × Distinct (satellites_held held)

record Rowed (held : Held) (rows : List (List ℤ)) : Type 0 where
  eight : Eight rows
  count : Few held → length rows ≤ 256

abbrev RowedAt : ℕ → Kind → Type 0
RowedAt n k = (held : Held) → Gives (by_kind k held) (λ m b. Rowed held m.content.rows)

other_rowed : (n : ℕ) → RowedAt n other
unfolding by_kind
other_rowed n held = gives_refuse SubType

body_rowed : (held : Held) {p : Program Heading} → Gives p (λ d b. Lined (Few held) d.lines) → Gives (keeping held p) (λ m b. Rowed held m.content.rows)
body_rowed held law = keeping_gives held law λ d b l it whole. record { eight = rows_eight d.lines l it.eights; count = λ few. rw rows_count (it.count few) }

abbrev FewIn : Sky → Type 0
FewIn sky = (length sky.satellites ≤ 64) × (length sky.cells ≤ 256) × Distinct sky.satellites

masked_rowed : (n : ℕ) (k : MaskedKind) → ((sky : Sky) (h : Common) → Gives (k.program sky h) (λ d b. Lined (FewIn sky) d.lines)) → RowedAt n (masked k)
unfolding by_kind satellites_held cells_held sky_of
masked_rowed n k law nothing = body_rowed nothing (under_nothing k)
masked_rowed n k law (mask m) = body_rowed (mask m) (under_gives k m (gives_itself (common 12)) λ h a _ _. law (sky_of m) h)

alone_rowed : (n : ℕ) (over : Sky → List Line) → ((sky : Sky) → Lined (FewIn sky) (over sky)) → RowedAt n (alone n over)
unfolding alone rows_alone
alone_rowed n over its = masked_rowed n (record { program = rows_alone n over; spelling = put_rows over }) λ sky h. gives_done (its sky)

mask_rowed : RowedAt 1 (adopts (record { program = mask_message; spelling = put_mask }))
unfolding by_kind
mask_rowed held = gives_bind (gives_itself mask_message) λ d b _. gives_done (record { eight = none; count = λ few. omega arith })

packet_rowed : RowedAt 10 (free (record { program = packet; spelling = put_packet }))
unfolding by_kind packet packet_heading
packet_rowed held =
    body_rowed held
    (gives_numbered _ _ λ indicator _.
    gives_numbered _ _ λ counter _.
    gives_numbered _ _ λ size small.
    gives_done (record { eights = packet_eights 1 (suc size); count = λ few. omega (arith, packet_count 1 (suc size)) }))

-- those that are selected are no more, and distinct where all are
abbrev Some : Sky → List Satellite → Type 0
Some sky chosen = (length chosen ≤ length sky.satellites) × (Distinct sky.satellites → Distinct chosen)

selected : (keys : Keys) (sky : Sky) (flag : ℕ) → Gives (selection keys sky flag) (λ s _. Some sky s.chosen)
unfolding selection
selected keys sky zero = gives_done (omega arith, λ d. d)
selected keys sky (suc flag) =
    gives_numbered _ _ λ network _.
    gives_require _ _ _ λ some.
    gives_taking _ _ λ bits _.
    gives_require _ _ _ λ named.
    gives_done (pick_few bits sky.satellites, distinct_pick bits)

chosen_lined : (keys : Keys) (shape : ℕ → List Column) → Five shape → (sky : Sky) (chosen : List Satellite) → Some sky chosen → Lined (FewIn sky) (lines_of keys shape sky chosen)
unfolding lines_of
chosen_lined by_satellite shape five sky chosen some = satellites_lined shape five chosen (λ few. omega (arith, few.0, some.0))
chosen_lined by_cell shape five sky chosen some =
    cells_lined shape five (flat_map (cells_on sky.cells) chosen) (λ few. omega (arith, few.1, cells_shared sky.cells (some.1 few.2)))

flagged_rowed : (n : ℕ) (keys : Keys) (shape : Bool → Bool → ℕ → List Column) → ((a b : Bool) → Five (shape a b)) → RowedAt n (with_flags n keys shape)
unfolding with_flags flagged
flagged_rowed n keys shape five = masked_rowed n (record { program = flagged n keys shape; spelling = put_flagged keys shape }) λ sky h.
    gives_numbered _ _ λ a _.
    gives_numbered _ _ λ b _.
    gives_numbered _ _ λ flag _.
    gives_bind (selected keys sky flag) λ s l some.
    gives_done (chosen_lined keys (shape (eqb a 1) (eqb b 1)) (five (eqb a 1) (eqb b 1)) sky s.chosen some)

kinds_rowed : Each RowedAt 0 kinds
unfolding kinds over_satellites over_cells orbit_shape clock_shape code_shape phase_shape accuracy_shape
kinds_rowed =
    then (other_rowed 0)
    (then mask_rowed
    (then (alone_rowed 2 (over_satellites orbit_shape) λ sky. satellites_lined orbit_shape (λ _. refl) sky.satellites (λ few. few.0))
    (then (alone_rowed 3 (over_satellites clock_shape) λ sky. satellites_lined clock_shape (λ _. refl) sky.satellites (λ few. few.0))
    (then (alone_rowed 4 (over_cells code_shape) λ sky. cells_lined code_shape (λ _. refl) sky.cells (λ few. few.1))
    (then (alone_rowed 5 (over_cells phase_shape) λ sky. cells_lined phase_shape (λ _. refl) sky.cells (λ few. few.1))
    (then (flagged_rowed 6 by_cell bias_shape bias_five)
    (then (alone_rowed 7 (over_satellites accuracy_shape) λ sky. satellites_lined accuracy_shape (λ _. refl) sky.satellites (λ few. few.0))
    (then (other_rowed 8) (then (other_rowed 9)
    (then packet_rowed
    (then (flagged_rowed 11 by_satellite combined_shape combined_five) end)))))))))))

message_rowed : (held : Held) → Gives (message held) (λ m b. Rowed held m.content.rows)
message_rowed held = gives_message table held λ n _. in_table kinds_rowed other_rowed n held

-- so every message that was read to has few rows under what is held
pub few_rows : (h : Holding) → sound h ≡ true → (bytes : List ℕ) (stop start : ℕ) (m : Message) (next : ℕ) → read_at h bytes stop start ≡ accepted m next → length m.content.rows ≤ 256
few_rows h fine bytes stop start m next =
    read_ends (λ o. o ≡ accepted m next → length m.content.rows ≤ 256) table bytes stop start [] (mask_of h)
    (λ r missing e. absurd (let z : ◌≡◌ {A = ℕ} 0 1 = cc in omega arith))
    (λ e. absurd (let z : ◌≡◌ {A = ℕ} 0 1 = cc in omega arith))
    (λ e. absurd (let z : ◌≡◌ {A = ℕ} 0 1 = cc in omega arith))
    (λ k taken ran e.
    let same : k ≡ m = cc in
    subst (λ (x : Message). length x.content.rows ≤ 256) same (((message_rowed (mask_of h)).gives (bits_from bytes stop start) k taken ran
    ).count (let s = sounds h fine in ((few_held s).0, (few_held s).1, held_distinct (mask_of h) s.good_held))))

-- so every row of a message has
pub message_eight : (held : Held) → Gives (message held) (λ m b. Eight m.content.rows)
message_eight held = gives_so (message_rowed held) λ m b it. it.eight

-- whatever was read to it
pub accepted_eight : (holding : Lent) (bytes : List ℕ) (stop start : ℕ) (rows : List ℤ) (m : Message) (next : ℕ) → reading holding bytes stop start rows ≡ accepted m next
    → Eight m.content.rows
accepted_eight holding bytes stop start rows m next =
    reading_ends (λ o. o ≡ accepted m next → Eight m.content.rows) table bytes stop start rows holding
    (λ r missing e. absurd (let z : ◌≡◌ {A = ℕ} 0 1 = cc in omega arith))
    (λ e. absurd (let z : ◌≡◌ {A = ℕ} 0 1 = cc in omega arith))
    (λ e. absurd (let z : ◌≡◌ {A = ℕ} 0 1 = cc in omega arith))
    (λ k taken ran e.
    let same : k ≡ m = cc in
    subst (λ (x : Message). Eight x.content.rows) same ((message_eight (held_in holding)).gives (bits_from bytes stop start) k taken ran))

-- and they are those that it leaves first in the row buffer
pub rows_left : (m : Message) (next : ℕ) (rows : List ℤ) → Eight m.content.rows → rows_in (length m.content.rows) (rows_after (accepted m next) rows) ≡ m.content.rows
unfolding rows_after over
rows_left m next rows eight = rows_back m.content.rows eight (drop (length (flatten m.content.rows)) rows)
