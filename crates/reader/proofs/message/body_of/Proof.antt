-- `reader::message::body_of` meets its contract. Assumes nothing.
use Rattle.bits.proofs.Words.{◌≡◌, refl, sym, ap, ◌∙◌, subst, List, ℕ, ◌+◌, ◌-◌, ◌≤◌, arith, rules, length}
use mathlib.Core.List.{flatten}
use Rattle.body.proofs.Bodies.{few_in, lent_view, lent_well, lent_sizes}
use Rattle.body.specs.declared.Placed.{Placed}
use Rattle.body.specs.Asking.{Fills}
use Rattle.body.specs.Lent.{view_by}
use Rattle.body.specs.Written.{numbers_at, Counts}
use Rattle.format.specs.declared.Answer.{Answer}
use Rattle.format.specs.declared.Answer.TheVariants as Answers
use Rattle.format.specs.Masks.{Held}
use Rattle.format.specs.Reading.{Outcome, accepted, answer_of, over, rows_after}
use Rattle.format.specs.Rows.{Line, body_width}
use Rattle.heads.specs.declared.heading.Heading.{Heading}
use Rattle.heads.specs.Headings.{said_by, FitsHeading}
use Rattle.heads.specs.Sorting.{headed_at}
use Rattle.holding.specs.declared.Holding.{Holding}
use Rattle.holding.specs.Held.{View, view_of}
use Rattle.holding.specs.Outlines.{whole_of}
use Rattle.holding.specs.Pictures.{mask_of}
use Rattle.reader.specs.Readings.{Begins}
use Rattle.reader.proofs.Bodied.{body_of, headed_there, body_said, headed_short, none_at}
use Rattle.reader.proofs.message.body_of.Statement.{statement}
use Rattle.reader.proofs.message.body_of.Tie as tie
use Rattle.table.specs.declared.Body.{Body}
use Rattle.table.specs.Bodies.{lines_in, Fits}

-- what is held
abbrev hold : tie.Start → Holding
hold s = whole_of s.args.outline s.args.masks.now s.args.strips.now

-- rows begin at a place
module _ (c : tie.In-Rows) where
  abbrev s : tie.Start
  s = c.before.before.before.before.before

  abbrev body : Body
  body = c.in-Rows.body

  abbrev at : ℕ
  at = c.in-Rows.at

  abbrev lines : List Line
  lines = lines_in (view_of (hold s)) body

  abbrev held : Held
  held = mask_of (hold s)

  fits : Fits body
  unfolding FitsHeading
  fits = rw c.in-Rows.is at s.requires.2

  begins : at ≤ s.args.end
  unfolding said_by Begins
  begins = subst (λ (d : Heading). Begins s.args.end (said_by (view_of (hold s)) d)) c.in-Rows.is s.requires.3

  -- what it comes to
  abbrev whole : Outcome
  whole = headed_at held s.args.bytes.now s.args.end (said_by (view_of (hold s)) s.args.heading)

-- its extent was counted
module _ (z : tie.After-size-size) where
  abbrev t : tie.In-Rows
  t = z.before.before

  counts : Counts (lines t) z.size-size.result
  counts = subst (λ (v : View). Counts (lines_in v (body t)) z.size-size.result) (lent_view (s t).requires.1) z.size-size.ensures

returns-then-left-size : tie.Need-returns-then-left-size
unfolding said_by answer_of rows_after
returns-then-left-size c =
    let z = c.before.before.before in
    let t = t z in
    let bits = (counts z).bits in
    rw (
      t.in-Rows.is,
      headed_short (held t) (s t).args.bytes.now (s t).args.end t.in-Rows.head (lines t) (at t) (omega (arith, bits, c.if-left-size.true)),
    )
    (ap (λ (n : ℕ). Answers.Refused _ (n - ((s t).args.end - at t))) bits, refl)

-- the body is there
module _ (c : tie.Else-left-size) where
  abbrev z : tie.After-size-size
  z = c.before.before

  abbrev h : tie.In-Rows
  h = t z

  abbrev start : tie.Start
  start = s h

  there : whole h ≡ accepted (body_of (held h) start.args.bytes.now h.in-Rows.head (lines h) (at h)) (at h + body_width (lines h))
  unfolding said_by
  there =
      ap (λ (d : Heading). headed_at (held h) start.args.bytes.now start.args.end (said_by (view_of (hold start)) d)) h.in-Rows.is
      ∙ headed_there (held h) start.args.bytes.now start.args.end h.in-Rows.head (lines h) (at h) (omega (arith, (counts z).bits, begins h, c.if-left-size.false)) start.requires.0.lent

  abbrev message : ℕ → Answer
  message rows = Answers.Message h.in-Rows.head (at h + z.size-size.result.bits) rows

  said : (rows : ℕ) → rows ≡ length (lines h) → message rows ≡ answer_of (whole h)
  said rows e = body_said (held h) start.args.bytes.now start.args.end _ (lines h) (at h) _ rows (counts z).bits e ∙ ap answer_of (sym there)

  abbrev placed : Placed
  placed = record { body = body h; bits = z.size-size.result.bits; rows = z.size-size.result.rows; at = at h }

  -- its rows can be filled
  fills : Fills start.args.ids.now start.args.masks.now start.args.strips.now placed start.args.rows.now
  fills =
      let p = start.requires in
      let lent = lent_well p.1 p.0.held in
      record {
        lent = lent;
        fits = fits h;
        bits = z.size-size.ensures.bits;
        count = z.size-size.ensures.rows;
        near = omega (arith, begins h, p.0.limit, c.if-left-size.false);
        room = omega (arith, p.0.room, (few_in lent (body h) (fits h)).rows);
      }

  -- the row buffer with them
  filled : over (numbers_at (lines_in (view_by start.args.ids.now start.args.masks.now start.args.strips.now) (body h)) start.args.bytes.now (at h)) start.args.rows.now
      ≡ rows_after (whole h) start.args.rows.now
  unfolding rows_after
  filled = rw there (ap (λ (v : View). over (numbers_at (lines_in v (body h)) start.args.bytes.now (at h)) start.args.rows.now) (lent_view start.requires.1))

returns-then-size-eq0 : tie.Need-returns-then-size-eq0
unfolding rows_after over flatten
returns-then-size-eq0 c =
    let e = c.before.before.before in
    let none = sym c.if-size-eq0.true ∙ (counts (z e)).rows in
    (said e 0 none, rw (there e, none_at (lines (h e)) (start e).args.bytes.now (at (h e)) (sym none)) refl)

returns-else-size-eq0 : tie.Need-returns-else-size-eq0
returns-else-size-eq0 c =
    let f = c.before.before in
    let e = f.before.before.before.before in
    (said e _ (counts (z e)).rows, f.fill.ensures ∙ filled e)

pub body_of_spec : {M : Type 1} → statement M
unfolding said_by answer_of rows_after headed_at
body_of_spec =
    tie.close
    (tie.spec (λ c. search rules) (λ c. search rules) (λ c. search rules) (λ c κs. let k = c.before in let p = (s k).requires in (lent_sizes p.1 p.0.held, fits k)) (λ c. begins c.before.before)
    (λ c. search rules) returns-then-left-size (λ c. let e = c.before.before.before in omega (arith, begins (h e), (start e).requires.0.limit, e.if-left-size.false)) returns-then-size-eq0
    (λ c κs. fills c.before.before.before)
    (λ c. let e = c.before.before.before.before.before.before in omega (arith, begins (h e), (start e).requires.0.limit, e.if-left-size.false))
    (λ c. rw c.in-Refused.is (refl, refl)) (λ c. search rules) returns-else-size-eq0)
