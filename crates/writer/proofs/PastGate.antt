-- Past the gate: what writing comes to is what a plan or the held mask comes to. Assumes nothing.
use Rattle.bits.proofs.Words.{◌≡◌, refl, sym, ap, ap₂, ◌∙◌, Bool, true, false, ◌&&◌, List, ◌++◌, ℕ, zero, suc, ◌*◌, ◌≤◌, ◌<◌, arith, eqb, leb, length, ℤ, pos}
use mathlib.Core.Bool.{false≢true}
use mathlib.Core.List.{flat_map}
use borrow.Author.Tests.{le-leb, lt-leb, ne_eqb}
use native.Mathlib.Decide.{dec_le}
use lib.IntN.{negsuc}
use Rattle.format.specs.declared.Head.{Head}
use Rattle.format.specs.declared.Refusal.TheVariants.{Value}
use Rattle.format.specs.Lengths.{mask_or}
use Rattle.format.specs.Masks.{Held, nothing, mask}
use Rattle.format.specs.Rows.{absent}
use Rattle.format.specs.Same.{sameℤ}
use Rattle.format.specs.Spelling.{put_system}
use Rattle.format.specs.Table.{spelled}
use Rattle.format.specs.Writing.{Written, refused, rows_in, exact}
use Rattle.holding.proofs.Sounds.{Sounds, sounds}
use Rattle.holding.specs.declared.Holding.{Holding}
use Rattle.holding.specs.Held.{is_held, issue_of, view_of}
use Rattle.holding.specs.Pictures.{picture_of, mask_of, sound}
use Rattle.table.proofs.Tabled.{tabled}
use Rattle.table.specs.declared.Kind.TheVariants as Kinds
use Rattle.table.specs.Bodies.{lines_in}
use Rattle.table.specs.Kinds.{OfTable}
use Rattle.writer.specs.declared.gate.Gate.TheVariants.{Open}
use Rattle.writer.specs.declared.plan.Plan.{Plan}
use Rattle.writer.specs.declared.planning.Asked.{Asked}
use Rattle.fitting.specs.Fits.{rows_fit}
use Rattle.fitting.specs.FitHeads.{common_fits, rowless, mask_fits, fits}
use Rattle.writer.specs.Fronts.{mask_front}
use Rattle.writer.specs.Kinds.{kind_at, gate_by, plan_bits}
use Rattle.pens.specs.Pens.{spell_fields}
use Rattle.writer.specs.Stages.{behind}
use Rattle.writer.specs.Writings.{past_gate}
use Rattle.writer.specs.Written.{planned, mask_right, mask_spelled, masked}
use Rattle.writer.proofs.Behind.{unfit}
use Rattle.fitting.proofs.FitMessages.{exact_is_fits}
use Rattle.writer.proofs.Masked.{right_common, right_count}
use Rattle.writer.proofs.PlanBits.{small_type}
use Rattle.writer.proofs.PlanMask.{mask_fits_lem, mask_bits}
use Rattle.writer.proofs.SubTypes.{is_other}
use Rattle.writer.proofs.Told.{Well, typed_as, issue_open}

-- every sub type's kind is one of the table
pub of_table : (z : ℤ) → OfTable (kind_at z)
unfolding kind_at OfTable
of_table (pos n) = tabled n
of_table (negsuc n) = tt

-- no rows just where none are counted
no_rows : (count : ℕ) (numbers : List ℤ) → rowless (rows_in count numbers) ≡ eqb count 0
unfolding rowless rows_in
no_rows zero numbers = refl
no_rows (suc n) numbers = sym (ne_eqb (suc n) 0 (λ e. omega arith))

module _ (holding : Holding) (on : sound holding ≡ true) (a : Asked) (numbers : List ℤ) (bytes : List ℕ) where
  abbrev g : Held
  g = mask_of holding

  abbrev h : Head
  h = a.head

  abbrev rows : List (List ℤ)
  rows = rows_in a.count numbers

  abbrev all : Written
  all = past_gate holding a numbers bytes

  pub too_few : length numbers < 8 * a.count → all ≡ refused Value
  unfolding past_gate
  too_few few = unfit (spelled g h rows) bytes a.start (rw (lt-leb (8 * a.count) (length numbers) few))

  module _ (whole : 8 * a.count ≤ length numbers) where
    right_fits : (leb (8 * a.count) (length numbers) && exact g h rows) ≡ fits g h rows
    right_fits = rw (le-leb (8 * a.count) (length numbers) whole) (exact_is_fits g (sounds holding on).good_held h rows)

    pub past_never : fits g h rows ≡ false → all ≡ refused Value
    unfolding past_gate
    past_never wrong = unfit (spelled g h rows) bytes a.start (right_fits ∙ wrong)

    -- other bits where nothing is written
    same_behind : (right : Bool) (l k : List Bool) → (right ≡ true → l ≡ k) → behind right l bytes a.start ≡ behind right k bytes a.start
    same_behind true l k same = ap (λ (x : List Bool). behind true x bytes a.start) (same refl)
    same_behind false l k same = unfit l bytes a.start refl ∙ sym (unfit k bytes a.start refl)

    pub past_well : (p : Plan) → Well (view_of holding) g h rows a.start p → all ≡ planned (view_of holding) p rows bytes
    unfolding past_gate planned
    past_well p w =
        let fit : Bool = rows_fit (lines_in (view_of holding) p.body) rows in
        ap (λ (b : Bool). behind b (spelled g h rows) bytes a.start) (right_fits ∙ w.fit)
        ∙ same_behind fit (spelled g h rows) (plan_bits (view_of holding) p rows) w.bits
        ∙ ap (behind fit (plan_bits (view_of holding) p rows) bytes) (sym w.place)

    -- a mask message
    mask_past : (held : Held) → g ≡ held → Sounds held holding → Kinds.Mask ≡ kind_at h.subtype → gate_by Kinds.Mask (is_held held) (issue_of held) h ≡ Open
        → all ≡ masked holding h a.count bytes a.start
    unfolding past_gate masked gate_by is_held issue_of mask_fits mask_right mask_spelled mask_or picture_of is_other
    mask_past nothing e s known opens = absurd (false≢true (issue_open false 0 h _ opens).0)
    mask_past (mask m) e s known opens =
        let t = typed_as h Kinds.Mask refl known in
        let issue = (issue_open true m.iod h _ opens).1 in
        let many : length m.systems ≡ holding.count = ap (λ (k : Holding). k.count) s.picture in
        let right : fits (mask m) h rows ≡ mask_right h holding.count a.count =
        mask_fits_lem m t.number t.row h t.typed rows issue
        ∙ ap₂ (λ (n : ℕ) (b : Bool). common_fits 20 h && (sameℤ h.a (pos n) && (sameℤ h.b absent && (sameℤ h.c absent && b)))) many (no_rows a.count numbers) in
        let typed = small_type t.number Kinds.Mask h t.row refl t.typed in
        ap (λ (b : Bool). behind b (spelled g h rows) bytes a.start) (right_fits ∙ ap (λ (k : Held). fits k h rows) e ∙ right)
        ∙ same_behind (mask_right h holding.count a.count) (spelled g h rows) (mask_spelled holding h)
        (λ fine.
        ap (λ (k : Held). spelled k h rows) e
        ∙ mask_bits m t.number t.row h t.typed (right_common holding on h a.count typed fine) (right_count holding on h a.count typed fine) rows
        ∙ ap (λ (k : Held). spell_fields (mask_front h) ++ flat_map put_system (mask_or k).systems) (sym e))

    past_counted : Kinds.Mask ≡ kind_at h.subtype → gate_by Kinds.Mask (is_held g) (issue_of g) h ≡ Open → all ≡ masked holding h a.count bytes a.start
    past_counted known opens = mask_past g refl (sounds holding on) known opens

  and_none : (x : Bool) → (x && false) ≡ false
  and_none true = refl
  and_none false = refl

  -- where more rows are counted than are lent, some are counted
  mask_few : length numbers < 8 * a.count → all ≡ masked holding h a.count bytes a.start
  unfolding masked mask_right
  mask_few few =
      let some : eqb a.count 0 ≡ false = ne_eqb a.count 0 (λ e. omega arith) in
      too_few few ∙ sym (unfit (mask_spelled holding h) bytes a.start (rw (some, and_none (sameℤ h.c absent), and_none (sameℤ h.b absent), and_none (sameℤ h.a (pos holding.count)), and_none (common_fits 20 h))))

  pub past_mask : Kinds.Mask ≡ kind_at h.subtype → gate_by Kinds.Mask (is_held g) (issue_of g) h ≡ Open → all ≡ masked holding h a.count bytes a.start
  past_mask known opens = go (dec_le (8 * a.count) (length numbers))
    where
      go : Dec (8 * a.count ≤ length numbers) → all ≡ masked holding h a.count bytes a.start
      go (yes whole) = past_counted whole known opens
      go (no few) = mask_few (omega arith)
