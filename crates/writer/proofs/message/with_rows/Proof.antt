-- `writer::message::with_rows` meets its contract. Assumes nothing.
use Rattle.bits.proofs.Words.{◌≡◌, refl, sym, ap, ◌∙◌, Bool, true, false, List, ℕ, ◌+◌, ◌*◌, ◌/◌, ◌≤◌, arith, rules, length, ℤ}
use Rattle.bits.specs.BitLists.{set_bytes}
use Rattle.body.proofs.Bodies.{lends, few_in}
use Rattle.format.specs.Rows.{body_width}
use Rattle.format.specs.Writing.{limit, bytes_after}
use Rattle.pens.specs.Pens.{spell_fields}
use Rattle.putting.specs.Putting.{row_fields}
use Rattle.rows.specs.declared.shape.Shape.{Shape}
use Rattle.holding.specs.declared.Holding.{Holding}
use Rattle.holding.specs.Held.{View, view_of}
use Rattle.holding.specs.Outlines.{whole_of}
use Rattle.table.specs.Bodies.{lines_in}
use Rattle.writer.specs.declared.Writing.TheVariants.{Done}
use Rattle.fitting.specs.Fits.{rows_fit}
use Rattle.writer.specs.Kinds.{plan_bits}
use Rattle.writer.specs.Stages.{answered}
use Rattle.writer.specs.Written.{rows_of, planned}
use Rattle.writer.proofs.Behind.{unfit, roomless, done}
use Rattle.writer.proofs.Rowed.{plan_spelled, plan_long, rows_long, rows_sized, plan_puts}
use Rattle.writer.proofs.message.with_rows.Statement.{statement}
use Rattle.writer.proofs.message.with_rows.Tie as tie

-- what is asked
module _ (s : tie.Start) where
  abbrev holding : Holding
  holding = whole_of s.args.outline s.args.masks.now s.args.strips.now

  abbrev view : View
  view = view_of holding

  abbrev count : ℕ
  count = length s.args.rows.now / 8

  abbrev rows : List (List ℤ)
  rows = rows_of s.args.rows.now

  whole : 8 * count ≤ length s.args.rows.now
  whole = omega arith

  abbrev start : ℕ
  start = s.args.plan.pen.place

  abbrev bits : List Bool
  bits = plan_bits view s.args.plan rows

  abbrev fit : Bool
  fit = rows_fit (lines_in view s.args.plan.body) rows

  narrow : body_width (lines_in view s.args.plan.body) ≤ 7168
  narrow = (few_in (lends holding s.requires.0) s.args.plan.body s.requires.1.body).bits

returns-then-not-rows_right : tie.Need-returns-then-not-rows_right
unfolding planned answered bytes_after
returns-then-not-rows_right c =
    let s = c.before.before.before.before.before.before.before in
    let wrong : fit s ≡ false = sym c.rows_right.ensures ∙ c.if-not-rows_right.true in
    rw (unfit (bits s) s.args.bytes.now (start s) wrong) (refl, refl)

-- the rows fit
module _ (c : tie.Else-not-rows_right) where
  abbrev looked-up : tie.After-shape_of-shape
  looked-up = c.before.before

  abbrev st : tie.Start
  st = looked-up.before.before.before.before.before

  right : fit st ≡ true
  right = sym c.rows_right.ensures ∙ c.if-not-rows_right.false

-- and are so long
module _ (c : tie.After-row_bits) where
  abbrev e : tie.Else-not-rows_right
  e = c.before.before.before.before

  known : c.row_bits.result ≡ body_width (lines_in (view (st e)) (st e).args.plan.body)
  known =
      c.row_bits.ensures
      ∙ ap (λ (x : Shape). length (spell_fields (row_fields x (rows (st e))))) (looked-up e).shape_of-shape.ensures
      ∙ rows_long (view (st e)) (st e).args.plan (st e).requires.1 (st e).args.rows.now (count (st e)) (whole (st e)) (right e)

  long : length (bits (st e)) ≡ (st e).args.plan.pen.width + (st e).args.plan.marked + c.row_bits.result
  long =
      plan_long (view (st e)) (st e).args.plan (st e).requires.1 (st e).args.rows.now (count (st e)) (whole (st e)) (right e)
      ∙ ap (λ (n : ℕ). (st e).args.plan.pen.width + (st e).args.plan.marked + n) (sym known)

  few : c.row_bits.result ≤ 7168
  few = omega (arith, known, narrow (st e))

row_bits-requires : tie.Need-row_bits-requires
row_bits-requires c κs =
    let d = c.before.before.before in
    let s = st d in
    rw (looked-up d).shape_of-shape.ensures
    (rows_sized (view s) s.args.plan s.requires.1 s.args.rows.now (count s) (whole s) (right d) (few_in (lends (holding s) s.requires.0) s.args.plan.body s.requires.1.body).rows)

overflow_add-bits : tie.Need-overflow_add-bits
overflow_add-bits c =
    let s = st c.before.before.before in
    omega (arith, s.requires.1.pen.narrow, s.requires.1.marked)

overflow_add-bits-2 : tie.Need-overflow_add-bits-2
overflow_add-bits-2 c =
    let s = st (e c) in
    omega (arith, few c, s.requires.1.pen.narrow, s.requires.1.marked)

overflow_sub-limit : tie.Need-overflow_sub-limit
overflow_sub-limit c =
    let s = st (e c.before.before) in
    omega (arith, s.requires.3, c.limit.ensures.0)

returns-then-limit-front : tie.Need-returns-then-limit-front
unfolding planned answered bytes_after
returns-then-limit-front c =
    let l = c.before.before in
    let z = l.before in
    let s = st (e z) in
    rw (roomless (bits s) s.args.bytes.now (start s) (right (e z)) (omega (arith, long z, c.if-limit-front.true, l.limit.ensures.0))) (refl, refl)

-- there is room
inside : (c : tie.Else-limit-front) → let z = c.before.before.before in start (st (e z)) + length (bits (st (e z))) ≤ limit (st (e z)).args.bytes.now
inside c =
    let l = c.before.before in
    let z = l.before in
    omega (arith, long z, c.if-limit-front.false, l.limit.ensures.0, (st (e z)).requires.3)

put-requires : tie.Need-put-requires
unfolding limit
put-requires c κs =
    let d = c.before in
    let l = d.before.before in
    let z = l.before in
    let s = st (e z) in
    let room = inside d in
    ((looked-up (e z)).shape_of-shape.ensures, plan_puts (view s) s.args.plan s.requires.1 s.args.rows.now (count s) (whole s) (right (e z)) s.args.bytes.now (omega (arith, room)) (omega (arith, room, l.limit.ensures)))

overflow_add-result : tie.Need-overflow_add-result
overflow_add-result c =
    let l = c.before.before.before.before.before.before.before in
    let z = l.before in
    let s = st (e z) in
    omega (arith, few z, s.requires.1.pen.narrow, s.requires.1.marked, s.requires.3, l.limit.ensures)

returns : tie.Need-returns
unfolding planned answered bytes_after
returns c =
    let d = c.before.before.before.before.before in
    let z = d.before.before.before in
    let s = st (e z) in
    rw (done (bits s) s.args.bytes.now (start s) (right (e z)) (inside d)) (
      ap Done (ap (λ (n : ℕ). start s + n) (sym (long z))),
      c.put.ensures ∙ ap (set_bytes s.args.bytes.now (start s)) (sym (plan_spelled (view s) s.args.plan s.requires.1 s.args.rows.now (count s) (whole s) (right (e z)))),
    )

pub with_rows_spec : {M : Type 1} → statement M
with_rows_spec =
    tie.close
    (tie.spec (λ c κs. search rules) (λ c κs. search rules) returns-then-not-rows_right overflow_add-bits row_bits-requires overflow_add-bits-2 (λ c κs. search rules) overflow_sub-limit (λ c. search rules) returns-then-limit-front put-requires overflow_add-result (λ c. search rules) returns)
