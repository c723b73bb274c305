-- `writer::message::of_mask` meets its contract. Assumes nothing.
use Rattle.bits.proofs.Words.{◌≡◌, refl, sym, ap, ap₂, ◌∙◌, Bool, true, false, List, ℕ, ◌+◌, ◌≤◌, arith, rules, length}
use Rattle.bits.specs.BitLists.{set_bytes}
use Rattle.format.specs.declared.Head.{Head}
use Rattle.format.specs.Writing.{limit, bytes_after}
use Rattle.holding.proofs.Sounds.{sounds}
use Rattle.holding.specs.declared.Holding.{Holding}
use Rattle.holding.specs.Outlines.{whole_of}
use Rattle.pens.specs.declared.pen.Pen.{Pen}
use Rattle.writer.specs.declared.Writing.TheVariants.{Done}
use Rattle.writer.specs.Fronts.{pen_at, mask_front}
use Rattle.putting.specs.MaskFields.{mask_fields}
use Rattle.pens.specs.Pens.{begun_by, pen_after, ink_after, Ready, Begins}
use Rattle.pens.proofs.Begun.{ready_begun, begins_alone}
use Rattle.writer.specs.Stages.{answered}
use Rattle.writer.specs.Written.{mask_right, mask_spelled, masked}
use Rattle.writer.proofs.Behind.{unfit, roomless, done}
use Rattle.writer.proofs.Masked.{right_common, right_count, mask_long, mask_parts, mask_begins, mask_place}
use Rattle.writer.proofs.Putting.{ready_last, all_set_lem}
use Rattle.writer.proofs.message.of_mask.Statement.{statement}
use Rattle.writer.proofs.message.of_mask.Tie as tie

-- what is asked
module _ (s : tie.Start) where
  abbrev holding : Holding
  holding = whole_of s.args.outline s.args.satellites.now s.args.strips.now

  abbrev head : Head
  head = s.args.asked.head

  abbrev count : ℕ
  count = s.args.asked.count

  abbrev start : ℕ
  start = s.args.asked.start

  abbrev fit : Bool
  fit = mask_right head holding.count count

  abbrev bits : List Bool
  bits = mask_spelled holding head

returns-then-not-mask_fits : tie.Need-returns-then-not-mask_fits
unfolding masked answered bytes_after
returns-then-not-mask_fits c =
    let s = c.before.before.before.before.before in
    let wrong : fit s ≡ false = sym c.mask_fits.ensures ∙ c.if-not-mask_fits.true in
    rw (unfit (bits s) s.args.bytes.now (start s) wrong) (refl, refl)

-- head and count fit
module _ (c : tie.After-mask_bits-bits) where
  abbrev st : tie.Start
  st = c.before.before.before.before.before.before

  right : fit st ≡ true
  right = sym c.mask_fits.ensures ∙ c.if-not-mask_fits.false

  long : length (bits st) ≡ 49 + c.mask_bits-bits.result
  long = mask_long (holding st) st.requires.0 (head st) (count st) st.requires.1 right ∙ ap (λ (n : ℕ). 49 + n) (sym (c.mask_bits-bits.ensures.0 st.args.strips.now st.requires.0))

returns-then-limit-start : tie.Need-returns-then-limit-start
unfolding masked answered bytes_after
returns-then-limit-start c =
    let l = c.before in
    let z = l.before in
    rw (roomless (bits (st z)) (st z).args.bytes.now (start (st z)) (right z) (omega (arith, long z, c.if-limit-start.true, l.limit.ensures.0))) (refl, refl)

-- and there is room
module _ (c : tie.Else-limit-start) where
  abbrev z : tie.After-mask_bits-bits
  z = c.before.before

  inside : start (st z) + length (bits (st z)) ≤ limit (st z).args.bytes.now
  inside = omega (arith, long z, c.if-limit-start.false, c.limit.ensures.0, (st z).requires.2)

  -- the pen that has gathered the front
  abbrev front : Pen
  front = pen_after (pen_at (start (st z))) (mask_front (head (st z)))

  begins : Begins front (mask_fields (holding (st z))) (st z).args.bytes.now
  unfolding limit
  begins =
      mask_begins (holding (st z)) (st z).requires.0 (head (st z)) (count (st z)) (st z).requires.1 (right z) (start (st z)) (st z).args.bytes.now
      (omega (arith, inside)) (omega (arith, inside, c.limit.ensures))

  abbrev begun : Pen
  begun = begun_by (st z).args.bytes.now front

  ready : Ready begun (mask_fields (holding (st z))) (st z).args.bytes.now
  ready = ready_begun begins

-- it begins
module _ (c : tie.After-begin-begun) where
  abbrev b : tie.Else-limit-start
  b = c.before.before

  pen_begun : c.begin-begun.result ≡ begun b
  pen_begun = c.begin-begun.ensures ∙ ap (begun_by (st (z b)).args.bytes.now) c.mask.ensures

put_systems-last-requires : tie.Need-put_systems-last-requires
put_systems-last-requires c κs =
    let k = c.before in
    ((st (z (b k))).requires.0, rw (pen_begun k) (ready (b k)))

-- what the systems leave
module _ (c : tie.After-put_systems-last) where
  abbrev e : tie.Else-limit-start
  e = b c.before.before

  pens : c.put_systems-last.result ≡ pen_after (begun e) (mask_fields (holding (st (z e))))
  pens = c.put_systems-last.ensures.0 ∙ ap (λ (p : Pen). pen_after p (mask_fields (holding (st (z e))))) (pen_begun c.before.before)

  inks : c.put_systems-last.new.bytes ≡ ink_after (begun e) (mask_fields (holding (st (z e)))) (st (z e)).args.bytes.now
  inks = c.put_systems-last.ensures.1 ∙ ap (λ (p : Pen). ink_after p (mask_fields (holding (st (z e)))) (st (z e)).args.bytes.now) (pen_begun c.before.before)

returns : tie.Need-returns
unfolding masked answered bytes_after
returns c =
    let p = c.before.before.before.before.before.before in
    let x = e p in
    let s = st (z x) in
    let m = mask_place (holding s) s.requires.0 (head s) (count s) s.requires.1 (right (z x)) (start s) in
    let parts = mask_parts (holding s) s.requires.0 (head s) (count s) s.requires.1 (right (z x)) (start s) in
    rw (done (bits s) s.args.bytes.now (start s) (right (z x)) (inside x)) (
      ap Done (ap (λ (n : ℕ). start s + n) (sym (long (z x)))),
      all_set_lem (mask_fields (holding s)) (front x) s.args.bytes.now (begins x) (λ k. ((z x).slice_known-1.given k).fits) (pens p) (inks p) c.set.ensures
          ∙ ap₂ (set_bytes s.args.bytes.now) m (sym parts),
    )

pub of_mask_spec : {M : Type 1} → statement M
of_mask_spec =
    tie.close
    (tie.spec (λ c. search rules) (λ c κs. let s = c.before.before.before in omega (arith, (sounds (holding s) s.requires.0).few_systems)) returns-then-not-mask_fits
    (λ c κs. let s = c.before.before.before.before.before in record { strips = s.args.strips.now; sounds = s.requires.0 }) (λ c. search rules) (λ c κs. search rules) (λ c. search rules) (λ c. search rules) returns-then-limit-start
    (λ c κs. let x = c in let s = st (z x) in (right_common (holding s) s.requires.0 (head s) (count s) s.requires.1 (right (z x)), s.requires.1, right_count (holding s) s.requires.0 (head s) (count s) s.requires.1 (right (z x))))
    (λ c κs. let x = c.before in rw c.mask.ensures (begins_alone (begins x))) put_systems-last-requires
    (λ c κs. let p = c.before.before.before in let x = e p in ready_last (mask_fields (holding (st (z x)))) _ (st (z x)).args.bytes.now (ready x) (pens p) (inks p))
    (λ c. search rules) (λ c. search rules) returns)
