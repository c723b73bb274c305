-- The bits that a message took are as many as its head and the masks fix, and 37 at the least. Assumes nothing.
use mathlib.Core.Path.{◌≡◌, refl, sym, ap, ap₂, ◌∙◌}
use mathlib.Core.Bool.{Bool, true, false, cond}
use mathlib.Core.List.{List, [], ◌∷◌, ◌++◌, append-nil, map, flat_map}
use Prim.Native.Nat.{ℕ, zero, suc, ◌+◌, ◌*◌, ◌≤◌}
use native.Mathlib.Nat.{zero-add, add_comm, add_assoc, mul-zero, mul-suc}
use native.Mathlib.Omega.{arith}
use lib.Dec.{eqb}
use lib.IntN.{ℤ, pos, nat_abs}
use lib.ListN.{length, get_or, drop, length-append, length-map}
use Rattle.bits.proofs.BitLists.{length_spell}
use Rattle.format.specs.declared.Refusal.TheVariants.{SubType}
use Rattle.format.specs.Lengths.{total, orbit_bits, combined_bits, bias_bits, flagged_bits, lengths, mask_or, length_of}
use Rattle.format.specs.Masks.{System, Mask, Held, nothing, mask, Satellite, Cell, satellites, cells, cells_on, sky_of, Sky}
use Rattle.format.specs.Messages.{Content, Heading, over_satellites, over_cells, Common, common, head_of, satellite_lines, cell_lines, iode_width, orbit_shape, clock_shape, code_shape, phase_shape, bias_shape, accuracy_shape, combined_shape, packet_shape, packet_lines, packet, rows_alone, Keys, by_satellite, by_cell, lines_of, flagged, selection, system, systems, mask_message, packet_heading}
use Rattle.format.specs.Programs.{Program}
use Rattle.format.specs.Rows.{Line, Column, gap, plain, counts, absent, body_width, shape_width, width_of, rows_of}
use Rattle.format.specs.Same.{sameℤ}
use Rattle.format.specs.Spelling.{put, put_common, put_rows, put_flagged, put_packet, put_system, put_mask}
use Rattle.format.specs.Table.{Kind, MaskedKind, other, free, masked, adopts, table, message, keeping, by_kind, kinds, alone, with_flags}
use Rattle.format.proofs.Bodies.{rows_count}
use Rattle.format.proofs.Makes.{common_gives, system_gives}
use Rattle.format.proofs.MakesBack.{good_system_lem}
use Rattle.format.proofs.Tables.{Each, end, then, in_table, gives_message, keeping_gives, under_nothing, under_gives}
use Rattle.format.proofs.Steps.{Gives, gives_done, gives_refuse, gives_require, gives_taking, gives_numbered, gives_bind, gives_so}

-- a common head
common_long : (w : ℕ) → Gives (common w) (λ h b. length b ≡ w + 9)
unfolding put_common put
common_long w = gives_so (common_gives w) λ h b it. rw (← (it.1 0 absent absent absent)) (simp (length-append, length_spell) (omega arith))

-- ---- bodies

-- lines made one from each, as satellites' and cells' are
lines_width : {A : Type 0} (keys : A → List ℤ) (shape : A → List Column) (xs : List A)
    → body_width (map (λ x. record { keys = keys x; shape = shape x }) xs) ≡ total (λ x. shape_width (shape x)) xs
unfolding body_width total
lines_width keys shape [] = refl
lines_width keys shape (x ∷ xs) = ap (λ (n : ℕ). shape_width (shape x) + n) (lines_width keys shape xs)

pub satellite_width : (shape : ℕ → List Column) (sats : List Satellite) → body_width (satellite_lines shape sats) ≡ total (λ s. shape_width (shape s.system)) sats
unfolding satellite_lines
satellite_width shape sats = lines_width _ (λ s. shape s.system) sats

pub cell_width : (shape : ℕ → List Column) (cs : List Cell) → body_width (cell_lines shape cs) ≡ total (λ c. shape_width (shape c.satellite.system)) cs
unfolding cell_lines
cell_width shape cs = lines_width _ (λ c. shape c.satellite.system) cs

pub total_same : {A : Type 0} (f : A → ℕ) (k : ℕ) (xs : List A) → ((x : A) → f x ≡ k) → total f xs ≡ k * length xs
unfolding total
total_same f k [] h = sym (mul-zero k)
total_same f k (x ∷ xs) h = ap₂ (λ (m n : ℕ). m + n) (h x) (total_same f k xs h) ∙ sym (mul-suc k (length xs) ∙ add_comm (k * length xs) k)

pub total_each : {A : Type 0} (f g : A → ℕ) (xs : List A) → ((x : A) → f x ≡ g x) → total f xs ≡ total g xs
unfolding total
total_each f g [] h = refl
total_each f g (x ∷ xs) h = ap₂ (λ (m n : ℕ). m + n) (h x) (total_each f g xs h)

pub total_append : {A : Type 0} (f : A → ℕ) (xs ys : List A) → total f (xs ++ ys) ≡ total f xs + total f ys
unfolding total
total_append f [] ys = sym (zero-add (total f ys))
total_append f (x ∷ xs) ys = ap (λ (n : ℕ). f x + n) (total_append f xs ys) ∙ sym (add_assoc (f x) (total f xs) (total f ys))

orbit_width : (system : ℕ) → shape_width (orbit_shape system) ≡ orbit_bits system
unfolding shape_width orbit_shape orbit_bits width_of iode_width
orbit_width system = go (eqb system 2)
  where
    go : (b : Bool) → cond b 10 8 + (15 + (13 + (13 + (0 + 0)))) ≡ cond b 51 49
    go true = refl
    go false = refl

pub packet_width : (k n : ℕ) → body_width (packet_lines k n) ≡ 40 * n
unfolding body_width packet_lines packet_shape shape_width width_of
packet_width k zero = refl
packet_width k (suc n) = ap (λ (w : ℕ). 40 + w) (packet_width (suc k) n) ∙ omega arith

-- ---- what follows the sub type

-- so many bits are what the head and the masks fix, and enough
abbrev Long : ℕ → Held → Content → Type 0
Long n held c = (n ≡ length_of held c) × (37 ≤ n)

-- how long a message is with its body, by the bits of its heading after so many others
abbrev LongWith : ℕ → ℕ → Held → Heading → List Bool → Type 0
LongWith before n held d b =
    (d.head.subtype ≡ pos n)
    × ((l : List Bool) → length l ≡ body_width d.lines → Long (before + (length b + length l)) held (record { head = d.head; rows = rows_of d.lines l }))

at_number : (held : Held) (c : Content) (n : ℕ) → c.head.subtype ≡ pos n → length_of held c ≡ get_or (lengths (mask_or held) c) n 0
unfolding length_of
at_number held c n e = ap (λ (z : ℤ). get_or (lengths (mask_or held) c) (nat_abs z) 0) e

-- the width of a combined row, by the flags
combined_width : (orbit clock : Bool) (system : ℕ) → shape_width (combined_shape orbit clock system) ≡ cond orbit (orbit_bits system) 0 + cond clock 15 0
unfolding shape_width combined_shape orbit_bits width_of iode_width
combined_width orbit clock system = go orbit clock (eqb system 2)
  where
    go : (o c b : Bool)
        → shape_width (cond o (plain (cond b 10 8) ∷ counts 15 ∷ counts 13 ∷ counts 13 ∷ []) (gap ∷ gap ∷ gap ∷ gap ∷ []) ++ (cond c (counts 15) gap ∷ []))
        ≡ cond o (cond b 51 49) 0 + cond c 15 0
    go true true true = refl
    go true true false = refl
    go true false true = refl
    go true false false = refl
    go false true b = refl
    go false false b = refl

combined_rows_lem :
    (orbit clock : ℕ) (sats : List Satellite) (l : List Bool)
    → total (combined_bits (pos orbit) (pos clock)) (rows_of (satellite_lines (combined_shape (eqb orbit 1) (eqb clock 1)) sats) l)
    ≡ body_width (satellite_lines (combined_shape (eqb orbit 1) (eqb clock 1)) sats)
unfolding total rows_of satellite_lines body_width combined_bits sameℤ
combined_rows_lem orbit clock [] l = refl
combined_rows_lem orbit clock (s ∷ ss) l =
    ap₂ (λ (m n : ℕ). m + n) (sym (combined_width (eqb orbit 1) (eqb clock 1) s.system))
    (combined_rows_lem orbit clock ss (drop (shape_width (combined_shape (eqb orbit 1) (eqb clock 1) s.system)) l))

-- a bias row's, and all of them together: as many as there are rows
bias_width : (code phase : Bool) (system : ℕ) → shape_width (bias_shape code phase system) ≡ cond code 11 0 + cond phase 17 0
unfolding shape_width bias_shape width_of
bias_width true true system = refl
bias_width true false system = refl
bias_width false true system = refl
bias_width false false system = refl

bias_rows_lem :
    (code phase : ℕ) (cs : List Cell) (l : List Bool)
    → bias_bits (pos code) (pos phase) * length (rows_of (cell_lines (bias_shape (eqb code 1) (eqb phase 1)) cs) l) ≡ body_width (cell_lines (bias_shape (eqb code 1) (eqb phase 1)) cs)
unfolding cell_lines bias_bits sameℤ
bias_rows_lem code phase cs l =
    let shape : ℕ → List Column = bias_shape (eqb code 1) (eqb phase 1) in
    ap (λ (n : ℕ). bias_bits (pos code) (pos phase) * n) (rows_count (cell_lines shape cs) l ∙ length-map cs _)
    ∙ sym (cell_width shape cs ∙ total_same _ _ cs (λ c. bias_width (eqb code 1) (eqb phase 1) c.satellite.system))

selection_long : (keys : Keys) (sky : Sky) (flag : ℕ)
    → Gives (selection keys sky flag) (λ s b. length b ≡ cond (sameℤ s.network absent) 0 (5 + length sky.satellites))
unfolding selection sameℤ
selection_long keys sky zero = gives_done refl
selection_long keys sky (suc one) =
    gives_numbered _ _ λ network _.
    gives_require _ _ _ λ _.
    gives_taking _ _ λ bits e.
    gives_require _ _ _ λ _.
    gives_done (simp (length-append, length_spell) (omega arith))

bias_long : (m : Mask) (h : Common) → Gives (flagged 6 by_cell bias_shape (sky_of m) h) (LongWith 37 6 (mask m))
unfolding flagged lines_of sky_of head_of length_of lengths flagged_bits mask_or
bias_long m h =
    gives_numbered _ _ λ code _.
    gives_numbered _ _ λ phase _.
    gives_numbered _ _ λ flag _.
    gives_bind (selection_long by_cell (sky_of m) flag) λ s b long.
    gives_done (refl, λ l whole. (simp (length-append, length_spell) (omega (arith, long, bias_rows_lem code phase (flat_map (cells_on (cells m.systems)) s.chosen) l)), omega arith))

combined_long : (m : Mask) (h : Common) → Gives (flagged 11 by_satellite combined_shape (sky_of m) h) (LongWith 37 11 (mask m))
unfolding flagged lines_of sky_of head_of length_of lengths flagged_bits mask_or
combined_long m h =
    gives_numbered _ _ λ orbit _.
    gives_numbered _ _ λ clock _.
    gives_numbered _ _ λ flag _.
    gives_bind (selection_long by_satellite (sky_of m) flag) λ s b long.
    gives_done (refl, λ l whole. (simp (length-append, length_spell) (omega (arith, long, combined_rows_lem orbit clock s.chosen l)), omega arith))

-- a mask's systems, one after the other
system_long_lem : (before : List System) → Gives (system before) (λ s b. length b ≡ 61 + length s.cells)
unfolding put_system
system_long_lem before = gives_so (system_gives before) λ s b it.
    let g = good_system_lem before s it.0 in
    rw (← it.1) (simp (length-append, length_spell) (omega (arith, g.whole, g.long)))

abbrev system_bits : System → ℕ
system_bits s = 61 + length s.cells

systems_long : (n : ℕ) (before : List System) → Gives (systems n before) (λ all b. total system_bits all ≡ total system_bits before + length b)
unfolding systems total
systems_long zero before = gives_done (omega arith)
systems_long (suc n) before =
    gives_bind (system_long_lem before) λ s b long.
    gives_so (systems_long n (before ++ (s ∷ []))) λ all m q.
    simp length-append (omega (arith, q, long, total_append system_bits before (s ∷ [])))

mask_long : Gives mask_message (λ d b. (d.head.subtype ≡ pos 1) × (length b ≡ 33 + total system_bits d.made.systems))
unfolding mask_message head_of total
mask_long =
    gives_bind (common_long 20) λ h b long.
    gives_numbered _ _ λ count _.
    gives_bind (systems_long count []) λ all r q.
    gives_done (refl, simp (length-append, length_spell) (omega (arith, long, q)))

-- ---- the table

-- what a kind at a sub type takes, whatever is held, after the number and the sub type
abbrev LongAt : ℕ → Kind → Type 0
LongAt n k = (held : Held) → Gives (by_kind k held) (λ m b. (m.content.head.subtype ≡ pos n) × Long (16 + length b) m.after m.content)

other_long : (n : ℕ) → LongAt n other
unfolding by_kind
other_long n held = gives_refuse SubType

-- with its body
body_long : (n : ℕ) (held : Held) {p : Program Heading} → Gives p (LongWith 16 n held)
    → Gives (keeping held p) (λ m b. (m.content.head.subtype ≡ pos n) × Long (16 + length b) m.after m.content)
body_long n held law = keeping_gives held law λ d b l it whole. (it.0, rw length-append (it.1 l whole))

masked_long : (n : ℕ) (k : MaskedKind) → ((m : Mask) (h : Common) → Gives (k.program (sky_of m) h) (LongWith 37 n (mask m))) → LongAt n (masked k)
unfolding by_kind
masked_long n k law nothing = body_long n nothing (under_nothing k)
masked_long n k law (mask m) =
    body_long n (mask m)
    (under_gives k m (common_long 12) λ h a long _.
    gives_so (law m h) λ d b it. (it.0, λ l whole. simp length-append (omega (arith, long, (it.1 l whole).0), omega (arith, long))))

alone_at : (n : ℕ) (over : Sky → List Line) → ((m : Mask) (c : Content) → 37 + body_width (over (sky_of m)) ≡ get_or (lengths m c) n 0) → LongAt n (alone n over)
unfolding alone rows_alone head_of mask_or
alone_at n over fits =
    masked_long n (record { program = rows_alone n over; spelling = put_rows over }) λ m h.
    gives_done (
      refl,
      λ l whole.
          let c : Content = record { head = head_of n h absent absent absent; rows = rows_of (over (sky_of m)) l } in
          (omega (arith, fits m c, at_number (mask m) c n refl), omega arith),
    )

mask_at : LongAt 1 (adopts (record { program = mask_message; spelling = put_mask }))
unfolding by_kind mask_or lengths
mask_at held =
    gives_bind mask_long λ d b it.
    let c : Content = record { head = d.head; rows = [] } in
    gives_done {a = record { content = c; after = mask d.made }} (it.0, rw append-nil (omega (arith, it.1, at_number (mask d.made) c 1 it.0), omega (arith, it.1)))

packet_at : LongAt 10 (free (record { program = packet; spelling = put_packet }))
unfolding by_kind packet packet_heading length_of lengths
packet_at held =
    body_long 10 held
    (gives_numbered _ _ λ indicator _.
    gives_numbered _ _ λ counter _.
    gives_numbered _ _ λ size _.
    gives_done (refl, λ l whole. let body = packet_width 1 (suc size) in simp (length-append, length_spell) (omega arith, omega arith)))

-- rows over satellites, and over cells, by what each takes
over_satellites_lem : (shape : ℕ → List Column) (bits : ℕ → ℕ) → ((system : ℕ) → shape_width (shape system) ≡ bits system) → (m : Mask)
    → 37 + body_width (over_satellites shape (sky_of m)) ≡ 37 + total (λ s. bits s.system) (satellites m.systems)
unfolding over_satellites sky_of
over_satellites_lem shape bits each m = ap (λ (k : ℕ). 37 + k) (satellite_width shape (satellites m.systems) ∙ total_each _ _ (satellites m.systems) (λ s. each s.system))

over_alike : (shape : ℕ → List Column) (bits : ℕ) → ((system : ℕ) → shape_width (shape system) ≡ bits) → (m : Mask)
    → 37 + body_width (over_satellites shape (sky_of m)) ≡ 37 + bits * length (satellites m.systems)
over_alike shape bits each m = over_satellites_lem shape (λ _. bits) each m ∙ ap (λ (k : ℕ). 37 + k) (total_same _ bits (satellites m.systems) (λ s. refl))

over_cells_lem : (shape : ℕ → List Column) (bits : ℕ) → ((system : ℕ) → shape_width (shape system) ≡ bits) → (m : Mask)
    → 37 + body_width (over_cells shape (sky_of m)) ≡ 37 + bits * length (cells m.systems)
unfolding over_cells sky_of
over_cells_lem shape bits each m = ap (λ (k : ℕ). 37 + k) (cell_width shape (cells m.systems) ∙ total_same _ bits (cells m.systems) (λ c. each c.satellite.system))

kinds_long : Each LongAt 0 kinds
unfolding kinds with_flags lengths shape_width clock_shape code_shape phase_shape accuracy_shape width_of
kinds_long =
    then (other_long 0)
    (then mask_at
    (then (alone_at 2 (over_satellites orbit_shape) λ m c. over_satellites_lem orbit_shape orbit_bits orbit_width m)
    (then (alone_at 3 (over_satellites clock_shape) λ m c. over_alike clock_shape 15 (λ _. refl) m)
    (then (alone_at 4 (over_cells code_shape) λ m c. over_cells_lem code_shape 11 (λ _. refl) m)
    (then (alone_at 5 (over_cells phase_shape) λ m c. over_cells_lem phase_shape 17 (λ _. refl) m)
    (then (masked_long 6 (record { program = flagged 6 by_cell bias_shape; spelling = put_flagged by_cell bias_shape }) bias_long)
    (then (alone_at 7 (over_satellites accuracy_shape) λ m c. over_alike accuracy_shape 6 (λ _. refl) m)
    (then (other_long 8) (then (other_long 9)
    (then packet_at
    (then (masked_long 11 (record { program = flagged 11 by_satellite combined_shape; spelling = put_flagged by_satellite combined_shape }) combined_long) end)))))))))))

message_lengths : (held : Held) → Gives (message held) (λ m b. Long (length b) m.after m.content)
message_lengths held =
    gives_message table held λ n _. gives_so (in_table kinds_long other_long n held) λ m b it. simp (length-append, length_spell) (omega (arith, it.1.0), omega (arith, it.1.1))

-- the bits taken are the sum that head and masks fix
pub message_long : (held : Held) → Gives (message held) (λ m b. length b ≡ length_of m.after m.content)
message_long held = gives_so (message_lengths held) λ m b it. it.0

-- and 37 or more
pub message_enough : (held : Held) → Gives (message held) (λ m b. 37 ≤ length b)
message_enough held = gives_so (message_lengths held) λ m b it. it.1
