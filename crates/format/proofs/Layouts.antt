-- Demand 2: whatever message a reading hands out means what document 01's layouts say under the held mask: one theorem, over the table of sub types.
-- Assumes nothing.
use mathlib.Core.Path.{◌≡◌, refl, ap, ap₂, ◌∙◌}
use mathlib.Core.Bool.{Bool, true, false, cond, false≢true}
use mathlib.Core.List.{List, [], ◌++◌, map, flat_map}
use Prim.Native.Nat.{ℕ, zero, suc, ◌+◌, ◌≤◌, ◌<◌}
use native.Mathlib.Omega.{arith}
use lib.Dec.{eqb}
use lib.IntN.{ℤ, pos}
use lib.ListN.{length, take, length-append}
use lib.Seq.{length-take-le}
use Rattle.bits.specs.BitLists.{spell}
use Rattle.bits.specs.Places.{field}
use Rattle.bits.proofs.BitLists.{length_spell}
use Rattle.format.specs.declared.Refusal.TheVariants.{SubType}
use Rattle.format.specs.Layouts as Layouts
use Rattle.format.specs.Layouts.{all_cells, all_satellites, selected, five, of_satellite, of_cell, orbit, clock, code_bias, phase_bias, biases, accuracy, combined_rows, bias_rows, Layout, never, rowless, body, number_at, head, masks, eight, layouts, layout_of, headed, Follows, Means}
use Rattle.format.specs.Masks.{Mask, Held, nothing, mask, Lent, held_in, Satellite, Cell, Sky, satellites, cells, cells_on, sky_of}
use Rattle.format.specs.Messages.{Content, Heading, Common, common, head_of, iode_width, orbit_shape, clock_shape, code_shape, phase_shape, bias_shape, accuracy_shape, combined_shape, packet_shape, packet_lines, packet_heading, packet, satellite_lines, cell_lines, over_satellites, over_cells, rows_alone, Keys, by_satellite, by_cell, lines_of, flagged, selection, systems, mask_message}
use Rattle.format.specs.Programs.{Program}
use Rattle.format.specs.Reading.{accepted, bits_from, reading}
use Rattle.format.specs.Rows.{Column, Line, absent, rows_of}
use Rattle.format.specs.Spelling.{put_rows, put_packet, put_flagged, put_mask}
use Rattle.format.specs.Table.{Message, Kind, MaskedKind, other, free, masked, adopts, alone, with_flags, kinds, table, keeping, by_kind, message}
use Rattle.format.proofs.Bodies.{All, none, more, all_map, sure}
use Rattle.format.proofs.Lines.{all_satellites_lem, selected_pick, all_cells_lem, packet_parts, satellite_rows, cell_rows, bias_columns, combined_columns}
use Rattle.format.proofs.Rowed.{Fit, Fits, rowed}
use Rattle.format.proofs.Runs.{taken_le}
use Rattle.format.proofs.Stands.{Stand, stand_front, stand_back, stand_number, stand_flag, stand_taken}
use Rattle.format.proofs.Steps.{Gives, gives_done, gives_refuse, gives_require, gives_taking, gives_numbered, gives_bind, gives_so, gives_itself}
use Rattle.format.proofs.Stops.{reading_ends}
use Rattle.format.proofs.Tables as Tables
use Rattle.format.proofs.Tables.{Each, then, in_table, gives_message, keeping_gives, under_nothing, under_gives}

-- ---- headings

-- a heading's head is the layout's, and its lines begin at the layout's place and are its rows to come
abbrev LaidBy : Layout → ℕ → Heading → Type 0
LaidBy layout from d = (layout ≡ body (eight d.head) from d.lines) × All Fits d.lines

-- what stands where the sub type does, of the bits behind it
abbrev Behind : (List ℕ → ℕ → Type 0) → ℕ → List Bool → Type 0
Behind P n b = (bytes : List ℕ) (start : ℕ) → field bytes (start + 12) 4 ≡ n → Stand bytes start 16 b → P bytes start

abbrev LaidAt : ℕ → Held → Heading → List Bool → Type 0
LaidAt n held d b = Behind (λ bytes start. LaidBy (layout_of bytes start held n) (16 + length b) d) n b

-- the same behind the head of a masked sub type
abbrev LaidUnder : ℕ → (List ℕ → ℕ → Mask → Layout) → MaskedKind → Type 0
LaidUnder n layout k =
    (m : Mask) (h : Common)
    → Gives (k.program (sky_of m) h) (λ d b. (bytes : List ℕ) (start : ℕ) → ((x y z : ℤ) → head bytes start x y z ≡ eight (head_of n h x y z)) → Stand bytes start 37 b
    → LaidBy (layout bytes start m) (37 + length b) d)

-- a common head by its places
record CommonAt (w : ℕ) (bytes : List ℕ) (start : ℕ) (h : Common) : Type 0 where
  epoch : field bytes (start + 16) w ≡ h.epoch
  interval : field bytes (start + (16 + w)) 4 ≡ h.interval
  indicator : field bytes (start + (16 + w + 4)) 1 ≡ h.indicator
  iod : field bytes (start + (16 + w + 4 + 1)) 4 ≡ h.iod

common_laid : (w : ℕ) → Gives (common w) (λ h b. (length b ≡ w + 9) × ((bytes : List ℕ) (start : ℕ) → Stand bytes start 16 b → CommonAt w bytes start h))
unfolding common
common_laid w =
    gives_numbered _ _ λ epoch e.
    gives_numbered _ _ λ interval i.
    gives_numbered _ _ λ indicator j.
    gives_numbered _ _ λ iod k.
    gives_done (
      simp (length-append, length_spell) (omega arith),
      λ bytes start s.
          let second = stand_back (spell w epoch) _ w (length_spell w epoch) s in
          let third = stand_back (spell 4 interval) _ 4 (length_spell 4 interval) second in
          let fourth = stand_back (spell 1 indicator) _ 1 (length_spell 1 indicator) third in
          record {
            epoch = stand_number w epoch _ e s;
            interval = stand_number 4 interval _ i second;
            indicator = stand_number 1 indicator _ j third;
            iod = stand_number 4 iod _ k fourth;
          },
    )

-- ---- kinds

-- what a kind's content means
abbrev MeansAt : ℕ → Kind → Type 0
MeansAt n k =
    (held : Held) → Gives (by_kind k held) (λ m b. Behind (λ bytes start. Follows (layout_of bytes start held n) bytes start (start + 16 + length b) m.content) n b)

-- a heading with its body
body_means : (n : ℕ) (held : Held) {p : Program Heading} → Gives p (LaidAt n held)
    → Gives (keeping held p) (λ m b. Behind (λ bytes start. Follows (layout_of bytes start held n) bytes start (start + 16 + length b) m.content) n b)
unfolding Follows
body_means n held law = keeping_gives held law λ d b l it whole bytes start sub s.
    let c : Content = record { head = d.head; rows = rows_of d.lines l } in
    let laid = it bytes start sub (stand_front b l s) in
    let here : Follows (body (eight d.head) (16 + length b) d.lines) bytes start (start + (16 + length b) + length l) c =
    (refl, rowed d.lines l laid.1 whole (stand_back b l (length b) refl s)) in
    let next : start + (16 + length b) + length l ≡ start + 16 + length (b ++ l) = rw length-append (omega arith) in
    rw (laid.0, ← next) here

-- under a mask of its issue
masked_means : (n : ℕ) (layout : List ℕ → ℕ → Mask → Layout) (k : MaskedKind)
    → ((bytes : List ℕ) (start : ℕ) (held : Held) → layout_of bytes start held n ≡ headed bytes start held (layout bytes start)) → LaidUnder n layout k → MeansAt n (masked k)
unfolding by_kind headed head head_of eight Layouts.under_mask
masked_means n layout k at law nothing = body_means n nothing (under_nothing k)
masked_means n layout k at law (mask m) =
    body_means n (mask m)
    (under_gives k m (common_laid 12) λ h a it issue.
    gives_so (law m h) λ d b laid bytes start sub s.
    let common = it.1 bytes start (stand_front a b s) in
    let here = laid bytes start (λ x y z. rw (sub, common.epoch, common.interval, common.indicator, common.iod)) (stand_back a b 21 it.0 s) in
    let own : eqb (field bytes (start + 33) 4) m.iod ≡ true = ap (λ (i : ℕ). eqb i m.iod) common.iod ∙ issue in
    let from : 37 + length b ≡ 16 + length (a ++ b) = rw length-append (omega (arith, it.0)) in
    (at bytes start (mask m) ∙ ap (λ (c : Bool). cond c (layout bytes start m) never) own ∙ here.0 ∙ ap (λ (p : ℕ). body (eight d.head) p d.lines) from, here.1))

-- 2, 3, 4, 5 and 7: the head alone
alone_laid : (n : ℕ) (over : Sky → List Line) (lines : Mask → List Line) → ((m : Mask) → lines m ≡ over (sky_of m)) → ((m : Mask) → All Fits (over (sky_of m)))
    → LaidUnder n (λ bytes start m. Layouts.alone bytes start (lines m)) (record { program = rows_alone n over; spelling = put_rows over })
unfolding rows_alone Layouts.alone
alone_laid n over lines same fits m h = gives_done λ bytes start front s.
    (ap₂ (λ (g : List ℤ) (l : List Line). body g 37 l) (front absent absent absent) (same m), fits m)

-- over the satellites, or the cells, in the shape of each one's system
satellites_laid : (n : ℕ) (shape fields : ℕ → List Column) → ((system : ℕ) → five (fields system) ≡ shape system) → ((system : ℕ) → Fit (shape system))
    → LaidUnder n (λ bytes start m. Layouts.alone bytes start (map (of_satellite fields) (all_satellites m))) (record { program = rows_alone n (over_satellites shape); spelling = put_rows (over_satellites shape) })
unfolding over_satellites satellite_lines sky_of
satellites_laid n shape fields same fit =
    alone_laid n (over_satellites shape) _ (λ m. ap (map (of_satellite fields)) (all_satellites_lem m) ∙ satellite_rows shape fields same (satellites m.systems)) (λ m. all_map _ (satellites m.systems) (λ s. fit s.system))

cells_laid : (n : ℕ) (shape : ℕ → List Column) (fields : List Column) → ((system : ℕ) → five fields ≡ shape system) → ((system : ℕ) → Fit (shape system))
    → LaidUnder n (λ bytes start m. Layouts.alone bytes start (map (of_cell fields) (all_cells m))) (record { program = rows_alone n (over_cells shape); spelling = put_rows (over_cells shape) })
unfolding over_cells cell_lines sky_of
cells_laid n shape fields same fit =
    alone_laid n (over_cells shape) _ (λ m. ap (map (of_cell fields)) (all_cells_lem m) ∙ cell_rows shape fields same (cells m.systems))
    (λ m. all_map _ (cells m.systems) (λ c. fit c.satellite.system))

-- ---- 10

-- five bytes a row
packet_fits_lem : (k n : ℕ) → All Fits (packet_lines k n)
unfolding packet_lines packet_shape sure
packet_fits_lem k zero = none
packet_fits_lem k (suc n) = more (refl, refl) (packet_fits_lem (suc k) n)

packet_means : MeansAt 10 (free (record { program = packet; spelling = put_packet }))
unfolding by_kind packet packet_heading layout_of layouts Layouts.parts eight
packet_means held =
    body_means 10 held
    (gives_numbered _ _ λ indicator i.
    gives_numbered _ _ λ counter c.
    gives_numbered _ _ λ size z.
    gives_done λ bytes start sub s.
    let second = stand_back (spell 1 indicator) _ 1 (length_spell 1 indicator) s in
    let third = stand_back (spell 3 counter) _ 3 (length_spell 3 counter) second in
    let from : 22 ≡ 16 + length (spell 1 indicator ++ (spell 3 counter ++ (spell 2 size ++ []))) = simp (length-append, length_spell) refl in (
      rw (sub, stand_number 1 indicator _ i s, stand_number 3 counter _ c second, stand_number 2 size _ z third, ← from, packet_parts 1 (suc size)),
      packet_fits_lem 1 (suc size),
    ))

-- ---- 6 and 11

-- the network ID, the satellites that the selection selects, and where the body begins behind it; all of them, at once, when the network flag is 0
selection_laid : (keys : Keys) (m : Mask) (flag : ℕ) → flag < 2
    → Gives (selection keys (sky_of m) flag) (λ s b.
    (bytes : List ℕ) (start : ℕ) (of : List Satellite → List Line) (front : ℤ → List ℤ) → Stand bytes start 40 b
    → cond (eqb flag 1)
    (body (front (number_at bytes start 40 5)) (45 + length (all_satellites m)) (of (selected bytes (start + 45) m)))
    (body (front absent) 40 (of (all_satellites m)))
    ≡ body (front s.network) (40 + length b) (of s.chosen))
unfolding selection sky_of
selection_laid keys m zero small = gives_done λ bytes start of front s. ap (λ (sats : List Satellite). body (front absent) 40 (of sats)) (all_satellites_lem m)
selection_laid keys m (suc zero) small =
    gives_numbered _ _ λ network n.
    gives_require _ _ _ λ _.
    gives_taking _ _ λ bits whole.
    gives_require _ _ _ λ _.
    gives_done λ bytes start of front s.
    let chosen = selected_pick m bits whole (stand_front bits [] (stand_back (spell 5 network) _ 5 (length_spell 5 network) s)) in
    let from : 45 + length (all_satellites m) ≡ 40 + length (spell 5 network ++ (bits ++ [])) =
    rw (all_satellites_lem m) (simp (length-append, length_spell) (omega arith)) in
    let said = stand_number 5 network _ n s in
    λ i. body (front (pos (said i))) (from i) (of (chosen i))
selection_laid keys m (suc (suc flag)) small = absurd (omega arith)

-- the columns, whatever the flags
bias_fit : (codes phases : Bool) (system : ℕ) → Fit (bias_shape codes phases system)
unfolding bias_shape sure
bias_fit true true system = (refl, refl)
bias_fit true false system = (refl, refl)
bias_fit false true system = (refl, refl)
bias_fit false false system = (refl, refl)

combined_fit : (orbits clocks : Bool) (system : ℕ) → Fit (combined_shape orbits clocks system)
unfolding combined_shape sure
combined_fit true true system = (refl, refl)
combined_fit true false system = (refl, refl)
combined_fit false true system = (refl, refl)
combined_fit false false system = (refl, refl)

-- the rows to come of some satellites are the lines of a sub type's keys, in its shape by the flags
record Rows (keys : Keys) (shape : Bool → Bool → ℕ → List Column) (rows : Bool → Bool → Mask → List Satellite → List Line) : Type 0 where
  same : (a b : Bool) (m : Mask) (sats : List Satellite) → rows a b m sats ≡ lines_of keys (shape a b) (sky_of m) sats
  fits : (a b : Bool) (m : Mask) (sats : List Satellite) → All Fits (lines_of keys (shape a b) (sky_of m) sats)

flagged_laid : (n : ℕ) {keys : Keys} {shape : Bool → Bool → ℕ → List Column} {rows : Bool → Bool → Mask → List Satellite → List Line} → Rows keys shape rows
    → LaidUnder n (λ bytes start. Layouts.flagged bytes start rows) (record { program = flagged n keys shape; spelling = put_flagged keys shape })
unfolding flagged Layouts.flagged
flagged_laid n {keys} {shape} {rows} it m h =
    gives_numbered _ _ λ x o.
    gives_numbered _ _ λ y c.
    gives_numbered _ _ λ flag f.
    gives_bind (selection_laid keys m flag f) λ s b laid.
    gives_done λ bytes start front at.
    let second = stand_back (spell 1 x) _ 1 (length_spell 1 x) at in
    let third = stand_back (spell 1 y) _ 1 (length_spell 1 y) second in
    let fourth = stand_front b [] (stand_back (spell 1 flag) _ 1 (length_spell 1 flag) third) in
    let from : 40 + length b ≡ 37 + length (spell 1 x ++ (spell 1 y ++ (spell 1 flag ++ (b ++ [])))) = simp (length-append, length_spell) (omega arith) in
    let said = front (pos x) (pos y) s.network in
    let lines = it.same (eqb x 1) (eqb y 1) m s.chosen in (
      rw (stand_number 1 x _ o at, stand_number 1 y _ c second, stand_flag x _ o at, stand_flag y _ c second, stand_flag flag _ f third)
          (laid bytes start (rows (eqb x 1) (eqb y 1) m) (head bytes start (pos x) (pos y)) fourth ∙ (λ i. body (said i) (from i) (lines i))),
      it.fits (eqb x 1) (eqb y 1) m s.chosen,
    )

bias_laid : Rows by_cell bias_shape bias_rows
unfolding bias_rows lines_of cell_lines sky_of
bias_laid = record {
  same = λ a b m sats. ap (λ (cs : List Cell). map (of_cell (biases a b)) (flat_map (cells_on cs) sats)) (all_cells_lem m) ∙ cell_rows (bias_shape a b) (biases a b) (bias_columns a b) (flat_map (cells_on (cells m.systems)) sats);
  fits = λ a b m sats. all_map _ (flat_map (cells_on (cells m.systems)) sats) (λ c. bias_fit a b c.satellite.system);
}

combined_laid : Rows by_satellite combined_shape combined_rows
unfolding combined_rows lines_of satellite_lines
combined_laid = record {
  same = λ a b m sats. satellite_rows _ _ (combined_columns a b) sats;
  fits = λ a b m sats. all_map _ sats (λ s. combined_fit a b s.system);
}

-- ---- the table

other_means : (n : ℕ) → MeansAt n other
unfolding by_kind
other_means n held = gives_refuse SubType

-- 1: a head alone
mask_laid : Gives mask_message (λ d b. Behind (λ bytes start. masks bytes start ≡ rowless (eight d.head)) 1 b)
unfolding mask_message masks head_of eight
mask_laid =
    gives_bind (common_laid 20) λ h a it.
    gives_numbered _ _ λ count n.
    gives_bind (gives_itself (systems count [])) λ all b _.
    gives_done λ bytes start sub s.
    let common = it.1 bytes start (stand_front a _ s) in
    let last = stand_number 4 count _ n (stand_back a _ 29 it.0 s) in
    rw (sub, common.epoch, common.interval, common.indicator, common.iod, last)

mask_means : MeansAt 1 (adopts (record { program = mask_message; spelling = put_mask }))
unfolding by_kind layout_of layouts Follows
mask_means held = gives_bind mask_laid λ d b it. gives_done λ bytes start sub s. rw (it bytes start sub (stand_front b [] s)) (refl, refl)

kinds_mean : Each MeansAt 0 kinds
unfolding kinds alone with_flags layout_of layouts five orbit clock code_bias phase_bias accuracy orbit_shape clock_shape code_shape phase_shape accuracy_shape iode_width sure
kinds_mean =
    then (other_means 0)
    (then mask_means
    (then (masked_means 2 _ _ (λ bytes start held. refl) (satellites_laid 2 orbit_shape orbit (λ _. refl) (λ _. (refl, refl))))
    (then (masked_means 3 _ _ (λ bytes start held. refl) (satellites_laid 3 clock_shape clock (λ _. refl) (λ _. (refl, refl))))
    (then (masked_means 4 _ _ (λ bytes start held. refl) (cells_laid 4 code_shape code_bias (λ _. refl) (λ _. (refl, refl))))
    (then (masked_means 5 _ _ (λ bytes start held. refl) (cells_laid 5 phase_shape phase_bias (λ _. refl) (λ _. (refl, refl))))
    (then (masked_means 6 _ _ (λ bytes start held. refl) (flagged_laid 6 bias_laid))
    (then (masked_means 7 _ _ (λ bytes start held. refl) (satellites_laid 7 accuracy_shape accuracy (λ _. refl) (λ _. (refl, refl))))
    (then (other_means 8) (then (other_means 9)
    (then packet_means
    (then (masked_means 11 _ _ (λ bytes start held. refl) (flagged_laid 11 combined_laid)) Tables.end)))))))))))

-- ---- a message, and a reading

-- a message, wherever the bits that it took stand; and it took some
message_means : (held : Held)
    → Gives (message held) (λ m b. (0 < length b) × ((bytes : List ℕ) (start : ℕ) → Stand bytes start 0 b → Means held bytes start (start + length b) m.content))
unfolding Means
message_means held =
    gives_message table held λ n small.
    gives_so (in_table kinds_mean other_means n held) λ m b it. (
      simp (length-append, length_spell) (omega arith),
      λ bytes start s.
          let behind = stand_back (spell 12 4073) _ 12 (length_spell 12 4073) s in
          let said : field bytes (start + 12) 4 ≡ n = stand_number 4 n b small behind in
          let next : start + 16 + length b ≡ start + length (spell 12 4073 ++ (spell 4 n ++ b)) = simp (length-append, length_spell) (omega arith) in
          rw (said, ← next) (it bytes start said (stand_back (spell 4 n) b 4 (length_spell 4 n) behind)),
    )

-- the demand
pub reading_means : (holding : Lent) (bytes : List ℕ) (end start : ℕ) (rows : List ℤ) (m : Message) (next : ℕ)
    → reading holding bytes end start rows ≡ accepted m next → Means (held_in holding) bytes start next m.content
reading_means holding bytes end start rows =
    reading_ends (λ o. (m : Message) (next : ℕ) → o ≡ accepted m next → Means (held_in holding) bytes start next m.content)
    table bytes end start rows holding (λ r missing m next e. absurd (false≢true cc)) (λ m next e. absurd (false≢true cc)) (λ m next e. absurd (false≢true cc))
    (λ n taken ran m next e.
    let l : List Bool = bits_from bytes end start in
    let same : n ≡ m = cc in
    let there : start + taken ≡ next = cc in
    let inside : taken ≤ length l = taken_le (message (held_in holding)) l n taken ran in
    let size : length (take taken l) ≡ taken = length-take-le taken l inside in
    let it = (message_means (held_in holding)).gives l n taken ran in
    let means = it.1 bytes start (stand_taken bytes end start taken (rw size at it.0) inside) in
    rw (← same, ← there) (rw size at means))
