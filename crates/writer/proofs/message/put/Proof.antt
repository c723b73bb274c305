-- `writer::message::put` meets its contract. Assumes nothing.
use Rattle.bits.proofs.Words.{◌≡◌, ap, ◌∙◌, List, ◌++◌, ℕ, ℤ, rules}
use Rattle.bits.proofs.Windows.{Bytes}
use Rattle.rows.proofs.Table.{formed}
use Rattle.rows.specs.declared.shape.Shape.{Shape}
use Rattle.rows.specs.Table.{shape_for}
use Rattle.format.specs.Writing.{rows_in}
use Rattle.pens.specs.declared.pen.Field.{Field}
use Rattle.pens.specs.declared.pen.Pen.{Pen}
use Rattle.putting.specs.Marking.{selection_fields}
use Rattle.pens.specs.Pens.{begun_by, pen_after, ink_after, Ready, Begins}
use Rattle.putting.specs.Putting.{row_fields, PutsRows}
use Rattle.putting.proofs.OwnColumns.{orbit_for, triple_for}
use Rattle.writer.specs.Written.{plan_fields}
use Rattle.pens.proofs.Begun.{ready_begun, begins_alone}
use Rattle.pens.proofs.Pens.{ready_first, ready_behind}
use Rattle.writer.proofs.Putting.{ready_last, all_set_lem, both_pens, both_inks}
use Rattle.writer.proofs.message.put.Statement.{statement}
use Rattle.writer.proofs.message.put.Tie as tie

module _ (s : tie.Start) where
  abbrev selected : List Field
  selected = selection_fields s.args.plan.chosen s.args.plan.marked

  abbrev rowed : List Field
  rowed = row_fields (shape_for s.args.plan.body.shape) (rows_in s.args.count s.args.rows.now)

  begins : Begins s.args.plan.pen (selected ++ rowed) s.args.bytes.now
  unfolding plan_fields
  begins = s.requires.1.begins

  abbrev begun : Pen
  begun = begun_by s.args.bytes.now s.args.plan.pen

  ready : Ready begun (selected ++ rowed) s.args.bytes.now
  ready = ready_begun begins

-- the selection is put out by the pen that has begun
module _ (c : tie.After-select-selected) where
  abbrev known : tie.After-slice_known-1
  known = c.before.before.before.before

  abbrev first : tie.Start
  first = known.before

  pen_begun : c.begin-begun.result ≡ begun first
  pen_begun = c.begin-begun.ensures

  selected_pen : c.select-selected.result ≡ pen_after (begun first) (selected first)
  selected_pen = c.select-selected.ensures.0 ∙ ap (λ (p : Pen). pen_after p (selected first)) pen_begun

  selected_ink : c.select-selected.new.bytes ≡ ink_after (begun first) (selected first) first.args.bytes.now
  selected_ink = c.select-selected.ensures.1 ∙ ap (λ (p : Pen). ink_after p (selected first) first.args.bytes.now) pen_begun

-- rows can be put out by what is the same
puts_same : (rows : List ℤ) (count : ℕ) {s s' : Shape} {p p' : Pen} {bytes bytes' : List ℕ} → s ≡ s' → p ≡ p' → bytes ≡ bytes' → PutsRows s' rows count p' bytes' → PutsRows s rows count p bytes
puts_same rows count shape pen ink puts = rw (shape, pen, ink) puts

put_rows-last-requires : tie.Need-put_rows-last-requires
put_rows-last-requires c κs =
    let t = c.before.before.before in
    let s = first t in
    puts_same s.args.rows.now s.args.count s.requires.0 (selected_pen t) (selected_ink t)
    (record {
      formed = formed s.args.plan.body.shape;
      orbit = orbit_for s.args.plan.body.shape;
      triple = triple_for s.args.plan.body.shape;
      whole = s.requires.1.whole;
      fitting = s.requires.1.fitting;
      ready = ready_behind (selected s) (rowed s) (begun s) s.args.bytes.now (ready s);
    })

-- what the rows leave
module _ (c : tie.After-put_rows-last) where
  abbrev t : tie.After-select-selected
  t = c.before.before.before.before

  abbrev start : tie.Start
  start = first t

  same_shape : row_fields start.args.s (rows_in start.args.count start.args.rows.now) ≡ rowed start
  same_shape = ap (λ (x : Shape). row_fields x (rows_in start.args.count start.args.rows.now)) start.requires.0

  pens : c.put_rows-last.result ≡ pen_after (begun start) (selected start ++ rowed start)
  pens =
      both_pens (selected start) (rowed start) (begun start) start.args.bytes.now (selected_pen t) (selected_ink t)
      (c.put_rows-last.ensures.0 ∙ ap (pen_after t.select-selected.result) same_shape)

  inks : c.put_rows-last.new.bytes ≡ ink_after (begun start) (selected start ++ rowed start) start.args.bytes.now
  inks =
      both_inks (selected start) (rowed start) (begun start) start.args.bytes.now (selected_pen t) (selected_ink t)
      (c.put_rows-last.ensures.1 ∙ ap (λ (fs : List Field). ink_after t.select-selected.result fs t.select-selected.new.bytes) same_shape)

returns : tie.Need-returns
unfolding plan_fields
returns c =
    let p = c.before.before.before.before.before.before in
    let s = start p in
    let small : Bytes s.args.bytes.now = λ k. ((known (t p)).slice_known-1.given k).fits in
    all_set_lem (selected s ++ rowed s) s.args.plan.pen s.args.bytes.now (begins s) small (pens p) (inks p) c.set.ensures

pub put_spec : {M : Type 1} → statement M
put_spec =
    tie.close
    (tie.spec (λ c κs. begins_alone (begins c.before.before))
    (λ c κs. let b = c.before in let s = b.before.before.before in (s.requires.1.marked, rw b.begin-begun.ensures (ready_first (selected s) (rowed s) (begun s) s.args.bytes.now (ready s))))
    put_rows-last-requires
    (λ c κs. let p = c.before.before.before in let s = start p in ready_last (selected s ++ rowed s) (begun s) s.args.bytes.now (ready s) (pens p) (inks p))
    (λ c. search rules) returns)
