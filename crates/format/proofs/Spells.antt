-- What a message after its sub type was read to spells the very bits that were taken: one law for each kind of message but the mask.
-- Assumes nothing.
use mathlib.Core.Path.{◌≡◌, refl, ap, ◌∙◌}
use mathlib.Core.Bool.{Bool, true}
use mathlib.Core.List.{List, ◌++◌, append-nil, append_assoc}
use Prim.Native.Nat.{ℕ, zero, suc, ◌<◌}
use native.Mathlib.Omega.{arith}
use lib.Dec.{eqb}
use lib.IntN.{ℤ, pos}
use lib.ListN.{length}
use Rattle.bits.specs.BitLists.{spell}
use Rattle.bits.specs.Signed.{unsigned}
use Rattle.format.specs.declared.Head.{Head}
use Rattle.format.specs.Masks.{Satellite, Cell, satellites, Sky}
use Rattle.format.specs.Messages.{Common, head_of, rows_alone, packet, packet_lines, Keys, by_satellite, by_cell, lines_of, satellite_lines, cell_lines, nameable, selection, Heading, flagged, packet_heading, packet_type}
use Rattle.format.specs.Rows.{absent, Column, Line, rows_of, body_width}
use Rattle.format.specs.Same.{sameℤ}
use Rattle.format.specs.Spelling.{put, put_rows, rows_for, put_selection, chosen_by, put_flagged, put_packet}
use Rattle.format.proofs.Bodies.{none, more, all_map, Threes, rows_spelled, rows_count}
use Rattle.format.proofs.Selections.{Distinct, Keyed, rows_keyed, marks_pick}
use Rattle.format.proofs.Steps.{Gives, gives_done, gives_require, gives_taking, gives_numbered, gives_bind}

-- ---- lines have three keys each

pub satellite_threes : (shape : ℕ → List Column) (sats : List Satellite) → Threes (satellite_lines shape sats)
unfolding satellite_lines
satellite_threes shape sats = all_map _ sats (λ s. refl)

pub cell_threes : (shape : ℕ → List Column) (cs : List Cell) → Threes (cell_lines shape cs)
unfolding cell_lines
cell_threes shape cs = all_map _ cs (λ c. refl)

pub lines_threes : (keys : Keys) (shape : ℕ → List Column) (sky : Sky) (sats : List Satellite) → Threes (lines_of keys shape sky sats)
unfolding lines_of
lines_threes by_satellite shape sky sats = satellite_threes shape sats
lines_threes by_cell shape sky sats = cell_threes shape _

pub packet_threes : (k n : ℕ) → Threes (packet_lines k n)
unfolding packet_lines
packet_threes k zero = none
packet_threes k (suc n) = more refl (packet_threes (suc k) n)

-- a spelling gives the bits of a heading and of whatever body follows, from the rows that this makes
abbrev pub Spells : (Head → List (List ℤ) → List Bool) → Heading → List Bool → Type 0
Spells spelling d b = (l : List Bool) → length l ≡ body_width d.lines → spelling d.head (rows_of d.lines l) ≡ b ++ l

-- ---- 2, 3, 4, 5 and 7

pub alone_spelled : (n : ℕ) (over : Sky → List Line) (sky : Sky) → Threes (over sky) → (h : Common)
    → Gives (rows_alone n over sky h) (λ d b. (d.head ≡ head_of n h absent absent absent) × Spells (put_rows over sky) d b)
unfolding rows_alone put_rows
alone_spelled n over sky threes h = gives_done (refl, λ l whole. rows_spelled (over sky) l threes whole)

-- ---- 10

-- as many lines as counted
pub packet_count : (k n : ℕ) → length (packet_lines k n) ≡ n
unfolding packet_lines
packet_count k zero = refl
packet_count k (suc n) = ap suc (packet_count (suc k) n)

pub packet_spelled : Gives packet (λ d b. (d.head.subtype ≡ pos packet_type) × Spells put_packet d b)
unfolding packet packet_heading put_packet put unsigned
packet_spelled =
    gives_numbered _ _ λ indicator _.
    gives_numbered _ _ λ counter _.
    gives_numbered _ _ λ size _.
    let lines : List Line = packet_lines 1 (suc size) in
    gives_done (
      refl,
      λ l whole.
          let count : length (rows_of lines l) ≡ suc size = rows_count lines l ∙ packet_count 1 (suc size) in
          rw (count, rows_spelled lines l (packet_threes 1 (suc size)) whole) (simp (append_assoc, append-nil)),
    )

-- ---- 6 and 11

-- the flag, and a network with its selection if it is set: spelled from the rows, and found again
selection_spelled : (keys : Keys) (sky : Sky) → Distinct sky.satellites → (flag : ℕ) → flag < 2
    → Gives (selection keys sky flag) (λ s b. (rows : List (List ℤ)) → (nameable keys sky s.chosen ≡ true → Keyed (rows_for keys sky) s.chosen rows)
    → (put_selection (rows_for keys sky) sky.satellites s.network rows ≡ spell 1 flag ++ b)
    × (chosen_by (rows_for keys sky) sky.satellites s.network rows ≡ s.chosen))
unfolding selection put_selection chosen_by sameℤ put unsigned spell
selection_spelled keys sky d zero small = gives_done λ rows keyed. (refl, refl)
selection_spelled keys sky d (suc zero) small =
    gives_numbered _ _ λ network _.
    gives_require _ _ _ λ _.
    gives_taking _ _ λ bits whole.
    gives_require _ _ _ λ named.
    gives_done λ rows keyed. rw (marks_pick (rows_for keys sky) sky.satellites bits rows d whole (keyed named), append-nil) (refl, refl)
selection_spelled keys sky d (suc (suc flag)) small = absurd (omega arith)

pub flagged_spelled : (n : ℕ) (keys : Keys) (shape : Bool → Bool → ℕ → List Column) (sky : Sky) → Distinct sky.satellites → (h : Common)
    → Gives (flagged n keys shape sky h) (λ d b. (d.head ≡ head_of n h d.head.a d.head.b d.head.c) × Spells (put_flagged keys shape sky) d b)
unfolding flagged put_flagged head_of sameℤ put unsigned
flagged_spelled n keys shape sky distinct h =
    gives_numbered _ _ λ a _.
    gives_numbered _ _ λ b _.
    gives_numbered _ _ λ flag small.
    gives_bind (selection_spelled keys sky distinct flag small) λ s m again.
    let lines : List Line = lines_of keys (shape (eqb a 1) (eqb b 1)) sky s.chosen in
    gives_done (
      refl,
      λ l whole.
          let found = again (rows_of lines l) (rows_keyed keys (shape (eqb a 1) (eqb b 1)) sky s.chosen l) in
          rw (found.0, found.1, rows_spelled lines l (lines_threes keys _ sky s.chosen) whole) (simp (append_assoc, append-nil)),
    )
