-- `writer::write` meets its contract. Assumes nothing.
use Rattle.bits.proofs.Words.{◌≡◌, refl, sym, ap, ap₂, subst, ◌∙◌, Bool, true, false, ℕ, ◌≤◌, arith, rules}
use Rattle.format.specs.Writing.{Written, limit, writing, bytes_after}
use Rattle.holding.proofs.Sounds.{sounds}
use Rattle.holding.specs.declared.Holding.{Holding}
use Rattle.holding.specs.declared.Outline.{Outline}
use Rattle.holding.specs.Held.{is_held, issue_of}
use Rattle.holding.specs.Outlines.{whole_of}
use Rattle.holding.specs.Pictures.{sound, lent_by, mask_of}
use Rattle.table.specs.declared.Kind.{Kind}
use Rattle.table.specs.declared.Kind.TheVariants as Kinds
use Rattle.writer.specs.declared.gate.Gate.TheVariants.{Open}
use Rattle.fitting.specs.FitHeads.{number_fits}
use Rattle.writer.specs.Kinds.{kind_at, gate_by}
use Rattle.writer.specs.declared.planning.Asked.{Asked}
use Rattle.writer.specs.Stages.{by_gate, answered}
use Rattle.writer.specs.Written.{masked}
use Rattle.writer.specs.Writings.{past_gate}
use Rattle.pens.proofs.Numbers.{of_struct}
use Rattle.writer.proofs.Order.{out_of_place}
use Rattle.writer.proofs.PastGate.{past_mask}
use Rattle.writer.proofs.PlanBits.{small_type}
use Rattle.writer.proofs.SubTypes.{is_other}
use Rattle.writer.proofs.Told.{typed_as}
use Rattle.writer.proofs.WholeOrder.{stray_writing, sound_writing}
use Rattle.writer.proofs.write.Statement.{statement}
use Rattle.writer.proofs.write.Tie as tie

inside : (c : tie.Else-start-limit) → c.args.start ≤ limit c.args.bytes.now
inside c = omega (arith, c.if-start-limit.false, c.limit.ensures.0)

-- the test of the holding, in parts
module _ (c : tie.After-is_sound) where
  abbrev one : tie.Else-start-limit
  one = c.before.before.before.before.before.before

  abbrev s : tie.Start
  s = one.before.before.before

  abbrev parts : tie.After-outline-outline
  parts = c.before.before.before

  abbrev whole : Holding
  whole = whole_of parts.outline-outline.result s.args.holding.satellites s.args.holding.strips

  together : whole ≡ s.args.holding
  together = ap (λ (o : Outline). whole_of o s.args.holding.satellites s.args.holding.strips) parts.outline-outline.ensures

  tested : c.is_sound.result ≡ sound s.args.holding
  tested = c.is_sound.ensures ∙ ap (λ (h : Holding). sound h) together

returns-then-not-is_sound : tie.Need-returns-then-not-is_sound
unfolding answered bytes_after
returns-then-not-is_sound c =
    let t = c.before in
    let x = (s t).args in
    let not : sound x.holding ≡ false = sym (tested t) ∙ c.if-not-is_sound.true in
    rw (stray_writing x.holding x.head x.rows.now x.count x.bytes.now x.start (inside (one t)) not) (refl, refl)

-- the holding is one
module _ (c : tie.After-of-gate) where
  abbrev two : tie.Else-not-is_sound
  two = c.before.before.before

  abbrev st : tie.Start
  st = s two.before

  on : sound st.args.holding ≡ true
  on = sym (tested two.before) ∙ two.if-not-is_sound.false

  in_parts : sound (whole two.before) ≡ true
  in_parts = sym two.is_sound.ensures ∙ two.if-not-is_sound.false

  kind : c.kind_in-kind.result ≡ kind_at st.args.head.subtype
  kind = of_struct kind_at _ c.struct_told-1.given.0.1 c.kind_in-kind.ensures

  gate : c.of-gate.result ≡ gate_by (kind_at st.args.head.subtype) st.args.holding.held st.args.holding.iod st.args.head
  gate =
      c.of-gate.ensures ∙ ap₂ (λ (k : Kind) (o : Outline). gate_by k o.held o.iod st.args.head) kind (parts two.before).outline-outline.ensures

  abbrev asked : Asked
  asked = record { kind = kind_at st.args.head.subtype; head = st.args.head; count = st.args.count; start = st.args.start }

  all : writing (lent_by st.args.holding) st.args.head st.args.rows.now st.args.count st.args.bytes.now st.args.start
      ≡ by_gate (gate_by (kind_at st.args.head.subtype) st.args.holding.held st.args.holding.iod st.args.head) (past_gate st.args.holding asked st.args.rows.now st.args.bytes.now)
  all = sound_writing st.args.holding st.args.head st.args.rows.now st.args.count st.args.bytes.now st.args.start (inside (one two.before)) on

returns-in-Shut : tie.Need-returns-in-Shut
unfolding by_gate answered bytes_after
returns-in-Shut c =
    let o = c.before in
    rw (all o, sym (gate o) ∙ c.in-Shut.is) (refl, refl)

-- the gate is open
module _ (c : tie.In_default) where
  abbrev o : tie.After-of-gate
  o = c.before

  opened : gate_by (kind_at (st o).args.head.subtype) (st o).args.holding.held (st o).args.holding.iod (st o).args.head ≡ Open
  opened = sym (gate o) ∙ c.in_default.is

  open_held : (k : Kind) → kind_at (st o).args.head.subtype ≡ k → gate_by k (is_held (mask_of (st o).args.holding)) (issue_of (mask_of (st o).args.holding)) (st o).args.head ≡ Open
  open_held k e =
      let t = sounds (st o).args.holding (on o) in
      subst (λ (x : Kind). gate_by x (is_held (mask_of (st o).args.holding)) (issue_of (mask_of (st o).args.holding)) (st o).args.head ≡ Open) e
      (sym (ap₂ (λ (b : Bool) (n : ℕ). gate_by (kind_at (st o).args.head.subtype) b n (st o).args.head) t.held t.iod) ∙ opened)

-- a mask
module _ (c : tie.In-Mask) where
  abbrev through : tie.In_default
  through = c.before

  known : Kinds.Mask ≡ kind_at (st (o through)).args.head.subtype
  known = sym c.in-Mask.is ∙ kind (o through)

  typed : number_fits 4 (st (o through)).args.head.subtype ≡ true
  unfolding is_other
  typed = let h = (st (o through)).args.head in let t = typed_as h Kinds.Mask refl known in small_type t.number Kinds.Mask h t.row refl t.typed

returns-in-Mask : tie.Need-returns-in-Mask
unfolding by_gate
returns-in-Mask c =
    let m = c.before.before in
    let e = m.before.before.before.before in
    let x = st (o (through e)) in
    let same = ap (λ (h : Holding). masked h x.args.head x.args.count x.args.bytes.now x.args.start) (together (two (o (through e))).before) in
    rw (all (o (through e)), opened (through e), past_mask x.args.holding (on (o (through e))) (asked (o (through e))) x.args.rows.now x.args.bytes.now (known e) (open_held (through e) Kinds.Mask (sym (known e))))
    (m.of_mask.ensures.0 ∙ ap (answered x.args.start) same, m.of_mask.ensures.1 ∙ ap (λ (d : Written). bytes_after d x.args.bytes.now x.args.start) same)

-- any other
module _ (c : tie.In_default-kind) where
  abbrev gone : tie.In_default
  gone = c.before

  abbrev x : tie.Start
  x = st (o gone)

  same : past_gate (whole (two (o gone)).before) (record { kind = (o gone).kind_in-kind.result; head = x.args.head; count = x.args.count; start = x.args.start }) x.args.rows.now x.args.bytes.now
      ≡ past_gate x.args.holding (asked (o gone)) x.args.rows.now x.args.bytes.now
  same =
      ap₂ (λ (h : Holding) (k : Kind). past_gate h (record { kind = k; head = x.args.head; count = x.args.count; start = x.args.start }) x.args.rows.now x.args.bytes.now)
      (together (two (o gone)).before) (kind (o gone))

past-requires : tie.Need-past-requires
past-requires c κs =
    let k = c.before.before.before in
    let g = gone k in (
      in_parts (o g),
      record { known = kind (o g); other = k.in_default-kind.not-Mask; opens = sym (o g).of-gate.ensures ∙ g.in_default.is },
      inside (one (two (o g)).before),
    )

returns : tie.Need-returns
unfolding by_gate
returns c =
    let p = c.before.before in
    let k = p.before.before.before.before in
    rw (all (o (gone k)), opened (gone k)) (
      p.past.ensures.0 ∙ ap (answered (x k).args.start) (same k),
      p.past.ensures.1 ∙ ap (λ (d : Written). bytes_after d (x k).args.bytes.now (x k).args.start) (same k),
    )

pub write_spec : {M : Type 1} → statement M
unfolding answered bytes_after
write_spec =
    tie.close
    (tie.spec (λ c κs. search rules) (λ c. search rules)
    (λ c. let y = c.args in rw (out_of_place (lent_by y.holding) y.head y.rows.now y.count y.bytes.now y.start (omega (arith, c.if-start-limit.true, c.limit.ensures.0))) (refl, refl))
    (λ c κs. search rules) (λ c κs. search rules) (λ c. search rules) returns-then-not-is_sound (λ c κs. search rules) (λ c κs. search rules) (λ c. search rules) (λ c. search rules) returns-in-Shut (λ c. search rules) (λ c. search rules)
    (λ c κs. let e = c.before.before.before in (in_parts (o (through e)), typed e, inside (one (two (o (through e))).before))) (λ c. search rules) returns-in-Mask
    (λ c. let k = c.before in sym (sounds (x k).args.holding (on (o (gone k)))).shaped.satellites) (λ c. let k = c.before.before in sym (sounds (x k).args.holding (on (o (gone k)))).shaped.strips)
    past-requires (λ c. search rules) returns)
