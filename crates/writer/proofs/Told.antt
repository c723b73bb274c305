-- The plan of a kind tells what head and rows come to: whether they fit, and their bits. Assumes nothing.
use Rattle.bits.proofs.Words.{◌≡◌, refl, sym, ap, ap₂, subst, ◌∙◌, Bool, true, false, not, cond, ◌&&◌, List, ◌++◌, map, ℕ, ◌+◌, ◌-◌, ◌*◌, ◌/◌, ◌^◌, ◌≤◌, ◌<◌, arith, eqb, length, ℤ, pos}
use mathlib.Core.Bool.{false≢true}
use lib.IntN.{negsuc}
use Rattle.bits.specs.BitLists.{spell}
use Rattle.format.proofs.Picks.{pick_all}
use borrow.Author.Tests.{eq-eqb, eqb-true, not-true}
use Rattle.matching.proofs.ValueTests.{chosen_valued}
use Rattle.matching.specs.Values.{rows_valued}
use Rattle.format.proofs.Lengths.{total_same}
use Rattle.format.proofs.Sames.{and_true, same_test}
use Rattle.format.proofs.Selections.{Distinct}
use Rattle.format.specs.declared.Head.{Head}
use Rattle.format.specs.declared.Refusal.TheVariants.{OtherIssue}
use Rattle.format.specs.Lengths.{total}
use Rattle.format.specs.Masks.{Mask, Held, nothing, mask, Satellite, sky_of, pick}
use Rattle.format.specs.Rows.{absent}
use Rattle.format.specs.Same.{sameℤ}
use Rattle.format.specs.Messages.{by_satellite, by_cell}
use Rattle.format.specs.Spelling.{rows_for, marks, chosen_by}
use Rattle.format.specs.Table.{spelled}
use Rattle.holding.proofs.Sounds.{Sounds, few_held, held_distinct}
use Rattle.holding.specs.declared.Holding.{Holding}
use Rattle.holding.specs.Held.{is_held, issue_of, satellites_held, cells_held, View, sky_in, view_of, strip_cells}
use Rattle.rows.specs.Shapes.{columns_in}
use Rattle.rows.specs.Table.{shape_for}
use Rattle.table.proofs.Strips.{own_counts}
use Rattle.table.proofs.Tabled.{tabled}
use Rattle.table.specs.declared.Kind.{Kind}
use Rattle.table.specs.declared.Kind.TheVariants as Kinds
use Rattle.table.specs.declared.Kind.TheVariants.{Other, Packet, Masked}
use Rattle.table.specs.declared.Layout.{Layout}
use Rattle.table.specs.Bodies.{lines_in, lines_over, FitsKeys}
use Rattle.table.specs.Kinds.{kind_for, keys_for, keys_by, LaidOut, OfTable}
use Rattle.writer.specs.declared.gate.Gate.{Gate}
use Rattle.writer.specs.declared.gate.Gate.TheVariants.{Open, Shut}
use Rattle.writer.specs.declared.plan.Plan.{Plan}
use Rattle.writer.specs.declared.planning.Planned.{Planned}
use Rattle.writer.specs.declared.planning.Planned.TheVariants.{Message, Never}
use Rattle.fitting.specs.Fits.{rows_fit}
use Rattle.fitting.specs.FitHeads.{common_fits, fits}
use Rattle.writer.specs.Fronts.{opening_field, last_field, front_fields, flag_fields, packet_fields}
use Rattle.writer.specs.Kinds.{kind_at, issue_gate, gate_by, plan_bits}
use Rattle.putting.specs.declared.marks.Selected.{Selected}
use Rattle.putting.specs.Marking.{owns_of, marks_by, marks_word, marked_by}
use Rattle.pens.specs.Numbers.{word_of}
use Rattle.writer.specs.Plans.{everyone, alone_head, alone_plan, flagged_head, flagged_plan, packet_head, packet_plan}
use Rattle.writer.specs.Writings.{selected_by, masked_plan, plan_for}
use Rattle.writer.specs.Written.{Made, Keyed}
use Rattle.writer.proofs.FrontBits.{front_fines, pen_fine, pen_place}
use Rattle.putting.proofs.MarkWords.{marks_by_lem, owns_count, told_by_lem, word_small, word_picks, word_top}
use Rattle.writer.proofs.PlanBits.{Under, under_type, alone_fits_lem, alone_bits}
use Rattle.writer.proofs.PlanFlagged.{a_small, b_small, few_bits, flagged_unfit, flagged_fits_lem, flagged_fines, flagged_bits_lem}
use Rattle.writer.proofs.PlanPacket.{packet_unfit, packet_fits_lem, packet_size, packet_fines, packet_bits}
use Rattle.writer.proofs.SubTypes.{is_other}

-- ---- what is told

-- numbers of rows are as many where the rows are
eqb_eights : (m n : ℕ) → eqb m n ≡ eqb (8 * m) (8 * n)
eqb_eights m n = same_test (eqb m n) (eqb (8 * m) (8 * n)) (λ e. eq-eqb (8 * m) (8 * n) (ap (λ (k : ℕ). 8 * k) (eqb-true m n e))) (λ e. eq-eqb m n (omega (arith, eqb-true (8 * m) (8 * n) e)))

-- a selection of every satellite, which no row tells
abbrev every : Selected
every = record { word = everyone; told = 0 }

-- a plan that is well made, at the place asked for, whose rows fit just where the message does, and then has its bits
pub record Well (v : View) (g : Held) (h : Head) (rows : List (List ℤ)) (start : ℕ) (p : Plan) : Type 0 where
  pub made : Made p
  pub place : p.pen.place ≡ start
  pub fit : fits g h rows ≡ rows_fit (lines_in v p.body) rows
  pub bits : rows_fit (lines_in v p.body) rows ≡ true → spelled g h rows ≡ plan_bits v p rows
  pub keyed : Keyed v p rows

-- no rows told a selection
no_keys : {v : View} {p : Plan} {rows : List (List ℤ)} → p.keyed ≡ false → Keyed v p rows
no_keys none = record { four = λ e. absurd (false≢true (sym none ∙ e)); rest = λ e. absurd (false≢true (sym none ∙ e)) }

unfoldable pub Tells : View → Held → Head → List (List ℤ) → ℕ → Planned → Type 0
Tells v g h rows start (Message p) = Well v g h rows start p
Tells v g h rows start Never = fits g h rows ≡ false

-- ---- a packet's part

module _ (v : View) (g : Held) (h : Head) (rows : List (List ℤ)) (start n : ℕ) (row : kind_for n ≡ Kinds.Packet) (typed : h.subtype ≡ pos n) where
  packet_well : packet_head h ≡ true → Well v g h rows start (packet_plan h start)
  unfolding packet_plan FitsKeys packet_fields total opening_field
  packet_well head =
      let fines = packet_fines g v n row h typed rows start head in
      record {
        made =
            record {
              pen = pen_fine (packet_fields h) start fines (omega arith);
              marked = omega arith;
              chosen = omega arith;
              body = (omega (arith, packet_size g v n row h typed rows start head), refl);
            };
        place = pen_place (packet_fields h) start (omega arith);
        fit = packet_fits_lem g v n row h typed rows start head;
        bits = packet_bits g v n row h typed rows start head;
        keyed = no_keys refl;
      }

  packet_told : (b : Bool) → packet_head h ≡ b → Tells v g h rows start (cond b (Message (packet_plan h start)) Never)
  unfolding Tells
  packet_told true head = packet_well head
  packet_told false head = packet_unfit g v n row h typed rows start head

-- ---- under the mask

module _ {m : Mask} {v : View} {n : ℕ} {l : Layout} {h : Head} (u : Under m v n l h) (out : LaidOut l) (rows : List (List ℤ)) (start : ℕ) where
  alone_well : l.flagged ≡ false → alone_head h ≡ true → Well v (mask m) h rows start (alone_plan h l start)
  unfolding alone_head alone_plan front_fields total opening_field last_field
  alone_well bare head =
      let fines = front_fines h (under_type u rows) 12 (omega arith) (and_true (common_fits 12 h) _ head).0 in
      record {
        made = record { pen = pen_fine (front_fields 12 h) start fines (omega arith); marked = omega arith; chosen = omega arith; body = out.fits everyone };
        place = pen_place (front_fields 12 h) start (omega arith);
        fit = alone_fits_lem u bare rows start ∙ ap (λ (b : Bool). b && rows_fit (lines_in v (alone_plan h l start).body) rows) head;
        bits = λ _. alone_bits u bare rows start head;
        keyed = no_keys refl;
      }

  abbrev sats : List Satellite
  sats = v.satellites

  -- how many rows each has that is selected, by its strip and under what is seen
  abbrev owns : List ℕ
  owns = owns_of l.cells v.strips sats

  abbrev own : Satellite → ℕ
  own = rows_for (keys_by l) (sky_in v)

  each : length owns ≡ length sats
  each = owns_count l.cells v.strips sats u.covered

  owned : owns ≡ map own sats
  unfolding keys_by owns_of rows_for sky_in
  owned = go l.cells
    where
      go : (b : Bool) → owns_of b v.strips sats ≡ map (rows_for (cond b by_cell by_satellite) (sky_in v)) sats
      go true = sym (own_counts sats v.strips u.apart u.covered u.thin)
      go false = refl

  same_marks : marks_by owns sats rows ≡ marks own sats rows
  same_marks = ap (λ (ns : List ℕ). marks_by ns sats rows) owned ∙ marks_by_lem own sats rows

  abbrev told : Selected
  told = selected_by l.cells v h.c rows

  abbrev chosen : ℕ
  chosen = told.word

  word_chooses : pick (spell 64 (marks_word owns sats rows)) sats ≡ pick (marks own sats rows) sats
  word_chooses = word_picks owns sats rows each u.few ∙ ap (λ (l : List Bool). pick l sats) same_marks

  -- a selection's word chooses those of its marks, all of them without a network
  choice : pick (spell 64 chosen) sats ≡ chosen_by own sats h.c rows
  unfolding selected_by chosen_by marked_by
  choice = go (sameℤ h.c absent)
    where
      go : (b : Bool) → pick (spell 64 (cond b every (marked_by owns sats rows)).word) sats ≡ cond b sats (pick (marks own sats rows) sats)
      go true = pick_all sats u.few
      go false = word_chooses

  chosen_small : chosen < 2 ^ 64
  unfolding selected_by marked_by
  chosen_small = go (sameℤ h.c absent)
    where
      go : (b : Bool) → (cond b every (marked_by owns sats rows)).word < 2 ^ 64
      go true = omega arith
      go false = word_small owns sats rows each u.few

  -- with a network it is told by rows
  by_rows : sameℤ h.c absent ≡ false → told ≡ marked_by owns sats rows
  unfolding selected_by
  by_rows some = ap (λ (b : Bool). cond b every (marked_by owns sats rows)) some

  marked : sameℤ h.c absent ≡ false → spell (length sats) (chosen / 2 ^ (64 - length sats)) ≡ marks own sats rows
  unfolding marked_by
  marked some = ap (λ (t : Selected). spell (length sats) (t.word / 2 ^ (64 - length sats))) (by_rows some) ∙ word_top owns sats rows each ∙ same_marks

  few_marks : (b : Bool) → cond b 0 (length sats) ≤ 64
  few_marks true = omega arith
  few_marks false = u.few

  -- with a network, of satellites: that its rows are all that tell the selection, and the rest of each
  module _ (satellites : l.cells ≡ false) where
    own_one : (s : Satellite) → own s ≡ 1
    unfolding keys_by rows_for
    own_one s = ap (λ (b : Bool). rows_for (cond b by_cell by_satellite) (sky_in v) s) satellites

    eights : (marked_by owns sats rows).told ≡ 8 * length (pick (marks own sats rows) sats)
    eights =
        ap (λ (ns : List ℕ). (marked_by ns sats rows).told) owned ∙ told_by_lem own sats rows
        ∙ ap (λ (k : ℕ). 8 * k) (total_same own 1 (pick (marks own sats rows) sats) own_one ∙ omega arith)

    told_rest : sameℤ h.c absent ≡ false → (i : ℕ)
        → rows_fit (lines_over v (keys_for l.cells chosen) i) rows ≡ (eqb told.told (8 * length rows) && rows_valued (columns_in (shape_for i)) rows)
    unfolding marked_by keys_for
    told_rest some i =
        ap₂ (λ (b : Bool) (t : Selected). rows_fit (lines_over v (keys_for b t.word) i) rows) satellites (by_rows some)
        ∙ chosen_valued v own own_one (marks_word owns sats rows) i rows word_chooses
        ∙ ap (λ (b : Bool). b && rows_valued (columns_in (shape_for i)) rows) (eqb_eights (length (pick (marks own sats rows) sats)) (length rows))
        ∙ ap (λ (k : ℕ). eqb k (8 * length rows) && rows_valued (columns_in (shape_for i)) rows) (sym (ap (λ (t : Selected). t.told) (by_rows some) ∙ eights))

  flagged_keyed : l.flagged ≡ true → flagged_head h ≡ true → Keyed v (flagged_plan h l start told (length sats)) rows
  unfolding flagged_plan lines_in
  flagged_keyed flagged head = record {
    four = λ e.
        let both = and_true (not l.cells) _ e in
        omega (arith, out.four flagged (not-true _ both.0), a_small h head, b_small h head);
    rest = λ e.
        let both = and_true (not l.cells) _ e in
        told_rest (not-true _ both.0) (not-true _ both.1) (l.shape + (word_of h.a * 2 + word_of h.b));
  }

  flagged_well : l.flagged ≡ true → flagged_head h ≡ true → Well v (mask m) h rows start (flagged_plan h l start told (length sats))
  unfolding flagged_plan sky_in
  flagged_well flagged head =
      let fines = flagged_fines u flagged rows start told (length sats) choice head in
      let flags : word_of h.a * 2 + word_of h.b < 4 = omega (arith, a_small h head, b_small h head) in
      record {
        made =
            record {
              pen = pen_fine (front_fields 12 h ++ flag_fields h) start fines (few_bits h);
              marked = few_marks (sameℤ h.c absent);
              chosen = chosen_small;
              body = out.of_flags flagged _ flags chosen;
            };
        place = pen_place (front_fields 12 h ++ flag_fields h) start (few_bits h);
        fit = flagged_fits_lem u flagged rows start told (length sats) choice head;
        bits = λ _. flagged_bits_lem u flagged rows start told (length sats) choice head marked;
        keyed = flagged_keyed flagged head;
      }

  pub masked_told : Tells v (mask m) h rows start (masked_plan v l h start rows)
  unfolding masked_plan Tells
  masked_told = go l.flagged refl
    where
      alone : l.flagged ≡ false → (b : Bool) → alone_head h ≡ b → Tells v (mask m) h rows start (cond b (Message (alone_plan h l start)) Never)
      alone bare true head = alone_well bare head
      alone bare false head = alone_fits_lem u bare rows start ∙ ap (λ (b : Bool). b && rows_fit (lines_in v (alone_plan h l start).body) rows) head

      behind_flags : l.flagged ≡ true → (b : Bool) → flagged_head h ≡ b → Tells v (mask m) h rows start (cond b (Message (flagged_plan h l start told (length sats))) Never)
      behind_flags flagged true head = flagged_well flagged head
      behind_flags flagged false head = flagged_unfit u flagged rows start told (length sats) choice head

      go : (f : Bool) → l.flagged ≡ f
          → Tells v (mask m) h rows start (cond f (cond (flagged_head h) (Message (flagged_plan h l start told (length sats))) Never) (cond (alone_head h) (Message (alone_plan h l start)) Never))
      go true flagged = behind_flags flagged (flagged_head h) refl
      go false bare = alone bare (alone_head h) refl

-- ---- by the kind, past the gate

-- a head's sub type and its row of the table
pub record Typed (h : Head) (k : Kind) : Type 0 where
  pub number : ℕ
  pub typed : h.subtype ≡ pos number
  pub row : kind_for number ≡ k

-- the gate is open only where a mask of the head's issue is held
pub issue_open : (held : Bool) (iod : ℕ) (h : Head) (inner : Gate) → issue_gate held iod h inner ≡ Open → (held ≡ true) × (sameℤ h.iod (pos iod) ≡ true)
unfolding issue_gate
issue_open true iod h inner opens = (refl, go (sameℤ h.iod (pos iod)) opens)
  where
    go : (b : Bool) → cond b inner (Shut OtherIssue) ≡ Open → b ≡ true
    go true e = refl
    go false e = absurd (let z : ◌≡◌ {A = ℕ} 0 1 = cc in omega arith)
issue_open false iod h inner opens = absurd (let z : ◌≡◌ {A = ℕ} 0 1 = cc in omega arith)

-- what a sound holding shows of its mask
pub sound_sky : {m : Mask} {holding : Holding} → Sounds (mask m) holding → sky_in (view_of holding) ≡ sky_of m
unfolding sky_in sky_of satellites_held cells_held
sound_sky {m} {holding} s = λ i. record { satellites = s.slots i; cells = (ap (λ (l : List Satellite). strip_cells l holding.strips) s.slots ∙ s.strips) i }

-- the number of a sub type that is one of ours
pub typed_as : (h : Head) (k : Kind) → is_other k ≡ false → k ≡ kind_at h.subtype → Typed h k
unfolding kind_at is_other
typed_as h k ours known = go h.subtype refl known
  where
    go : (z : ℤ) → h.subtype ≡ z → k ≡ kind_at z → Typed h k
    go (pos n) typed e = record { number = n; typed = typed; row = sym e }
    go (negsuc n) typed e = absurd (false≢true (sym ours ∙ ap is_other e))

under_told : (g : Held) (holding : Holding) → Sounds g holding → (h : Head) (rows : List (List ℤ)) (start : ℕ) (l : Layout) → Masked l ≡ kind_at h.subtype
    → gate_by (Masked l) (is_held g) (issue_of g) h ≡ Open → Tells (view_of holding) g h rows start (plan_for (Masked l) (view_of holding) h start rows)
unfolding gate_by plan_for is_held issue_of OfTable is_other satellites_held
under_told nothing holding s h rows start l known opens = absurd (false≢true (issue_open false 0 h _ opens).0)
under_told (mask m) holding s h rows start l known opens =
    let t = typed_as h (Masked l) refl known in
    let few = (few_held s).0 in
    let out : LaidOut l = rw t.row at (tabled t.number) in
    let u : Under m (view_of holding) t.number l h =
    record {
      sky = sound_sky s;
      few = omega (arith, few, ap length s.slots);
      strips = omega (arith, s.shaped.strips);
      covered = omega (arith, few, ap length s.slots, s.shaped.strips);
      thin = s.shaped.strips_narrow;
      apart = subst Distinct (sym s.slots) (held_distinct (mask m) s.good_held);
      row = t.row;
      typed = t.typed;
      issue = (issue_open true m.iod h _ opens).1;
    } in
    masked_told u out rows start

pub kind_told : (g : Held) (holding : Holding) → Sounds g holding → (h : Head) (rows : List (List ℤ)) (start : ℕ) (k : Kind) → k ≡ kind_at h.subtype
    → (k ≡ Kinds.Mask → ⊥) → gate_by k (is_held g) (issue_of g) h ≡ Open → Tells (view_of holding) g h rows start (plan_for k (view_of holding) h start rows)
unfolding gate_by plan_for is_other
kind_told g holding s h rows start Other known other opens = absurd (let z : ◌≡◌ {A = ℕ} 0 1 = cc in omega arith)
kind_told g holding s h rows start Kinds.Mask known other opens = absurd (other refl)
kind_told g holding s h rows start Packet known other opens =
    let t = typed_as h Packet refl known in
    packet_told (view_of holding) g h rows start t.number t.row t.typed (packet_head h) refl
kind_told g holding s h rows start (Masked l) known other opens = under_told g holding s h rows start l known opens
