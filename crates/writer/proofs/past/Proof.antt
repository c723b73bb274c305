-- `writer::past` meets its contract. Assumes nothing.
use Rattle.bits.proofs.Words.{◌≡◌, refl, sym, ap, ap₂, subst, ◌∙◌, Bool, false, List, ℕ, ◌*◌, ◌/◌, ◌≤◌, arith, rules, length, take, ℤ}
use lib.Seq.{length-take-le}
use Rattle.body.proofs.Bodies.{counted, lends, many}
use Rattle.format.specs.Writing.{Written, bytes_after, rows_in}
use Rattle.holding.proofs.Sounds.{sounds}
use Rattle.holding.specs.declared.Holding.{Holding}
use Rattle.holding.specs.Held.{View, is_held, issue_of, view_of}
use Rattle.holding.specs.Outlines.{whole_of}
use Rattle.holding.specs.Pictures.{mask_of}
use Rattle.putting.proofs.MarkWords.{rows_counted}
use Rattle.writer.specs.declared.gate.Gate.TheVariants.{Open}
use Rattle.writer.specs.declared.plan.Plan.{Plan}
use Rattle.writer.specs.declared.planning.Planned.{Planned}
use Rattle.writer.specs.declared.planning.Planned.TheVariants.{Message, Never}
use Rattle.fitting.specs.FitHeads.{fits}
use Rattle.writer.specs.Kinds.{gate_by}
use Rattle.writer.specs.Stages.{answered}
use Rattle.writer.specs.Writings.{Slotted}
use Rattle.writer.specs.Written.{rows_of, Keyed, planned}
use Rattle.writer.proofs.PastGate.{of_table, too_few, past_never, past_well}
use Rattle.writer.proofs.Told.{Well, Tells, kind_told}
use Rattle.writer.proofs.past.Statement.{statement}
use Rattle.writer.proofs.past.Tie as tie

-- rows that are cut off behind those that are counted
all_counted : (count : ℕ) (numbers : List ℤ) → 8 * count ≤ length numbers → rows_of (take (8 * count) numbers) ≡ rows_in count numbers
all_counted count numbers room =
    let long = length-take-le (8 * count) numbers room in
    let eighth : length (take (8 * count) numbers) / 8 ≡ count = omega (arith, long) in
    ap (λ (n : ℕ). rows_in n (take (8 * count) numbers)) eighth ∙ rows_counted count numbers room

-- what is asked
module _ (s : tie.Start) where
  abbrev holding : Holding
  holding = whole_of s.args.outline s.args.masks.now s.args.strips.now

  abbrev rows : List (List ℤ)
  rows = rows_in s.args.asked.count s.args.rows.now

  opens : gate_by s.args.asked.kind (is_held (mask_of holding)) (issue_of (mask_of holding)) s.args.asked.head ≡ Open
  opens =
      let t = sounds holding s.requires.0 in
      sym (ap₂ (λ (b : Bool) (n : ℕ). gate_by s.args.asked.kind b n s.args.asked.head) t.held t.iod) ∙ s.requires.1.opens

  slotted : Slotted s.args.outline s.args.masks.now s.args.strips.now
  slotted =
      let l = lends holding s.requires.0 in
      record { counted = counted holding s.requires.0; slots = l.slots; few = l.satellites; many = many holding s.requires.0; covered = l.covered }

whole : (c : tie.Else-asked-rows) → let s = c in 8 * s.args.asked.count ≤ length s.args.rows.now
whole c = omega arith

module _ (c : tie.After-of-planned) where
  abbrev st : tie.Start
  st = c.before.before.before.before.before.before

  tells : (r : Planned) → c.of-planned.result ≡ r → Tells (view_of (holding st)) (mask_of (holding st)) st.args.asked.head (rows st) st.args.asked.start r
  tells r e =
      subst (Tells (view_of (holding st)) (mask_of (holding st)) st.args.asked.head (rows st) st.args.asked.start) (sym c.of-planned.ensures ∙ e)
      (kind_told (mask_of (holding st)) (holding st) (sounds (holding st) st.requires.0) st.args.asked.head (rows st) st.args.asked.start st.args.asked.kind st.requires.1.known
      st.requires.1.other (opens st))

returns-in_default : tie.Need-returns-in_default
unfolding Tells answered bytes_after
returns-in_default c =
    let o = c.before in
    let x = st o in
    let wrong : fits (mask_of (holding x)) x.args.asked.head (rows x) ≡ false = tells o Never c.in_default.is in
    rw (past_never (holding x) x.requires.0 x.args.asked x.args.rows.now x.args.bytes.now (whole o.before) wrong) (refl, refl)

-- a plan is made
module _ (c : tie.In-Message) where
  abbrev o : tie.After-of-planned
  o = c.before

  abbrev plan : Plan
  plan = c.in-Message.plan

  abbrev view : View
  view = view_of (holding (st o))

  well : Well view (mask_of (holding (st o))) (st o).args.asked.head (rows (st o)) (st o).args.asked.start plan
  unfolding Tells
  well = tells o (Message plan) c.in-Message.is

  cut : rows_of (take (8 * (st o).args.asked.count) (st o).args.rows.now) ≡ rows (st o)
  cut = all_counted (st o).args.asked.count (st o).args.rows.now (whole o.before)

  keyed : Keyed view plan (rows_of (take (8 * (st o).args.asked.count) (st o).args.rows.now))
  keyed = subst (Keyed view plan) (sym cut) well.keyed

returns : tie.Need-returns
returns c =
    let w = c.before.before in
    let p = w.before.before.before in
    let x = st (o p) in
    let same : planned (view p) (plan p) (rows_of (take (8 * x.args.asked.count) x.args.rows.now)) x.args.bytes.now ≡ _ =
    ap (λ (rs : List (List ℤ)). planned (view p) (plan p) rs x.args.bytes.now) (cut p)
    ∙ sym (past_well (holding x) x.requires.0 x.args.asked x.args.rows.now x.args.bytes.now (whole (o p).before) (plan p) (well p)) in (
      w.with_rows.ensures.0 ∙ ap₂ answered (well p).place same,
      w.with_rows.ensures.1 ∙ ap₂ (λ (d : Written) (n : ℕ). bytes_after d x.args.bytes.now n) same (well p).place,
    )

pub past_spec : {M : Type 1} → statement M
unfolding answered bytes_after
past_spec =
    tie.close
    (tie.spec
    (λ c. let x = c.before.before.before.before.before in rw (too_few (holding x) x.requires.0 x.args.asked x.args.rows.now x.args.bytes.now (omega arith)) (refl, refl))
    (λ c κs. let x = c.before.before.before.before.before in (slotted x, rw x.requires.1.known (of_table x.args.asked.head.subtype), whole c))
    (λ c. search rules) (λ c. search rules) returns-in_default (λ c. let p = c.before in record { fits = omega (arith, whole (o p).before, (st (o p)).well_formed.1.1.1.1.0) })
    (λ c. let p = c.before in sym (length-take-le (8 * (st (o p)).args.asked.count) (st (o p)).args.rows.now (whole (o p).before)))
    (λ c κs. let p = c.before.before in let x = st (o p) in (x.requires.0, (well p).made, keyed p, rw (well p).place x.requires.2)) (λ c. search rules) returns)
