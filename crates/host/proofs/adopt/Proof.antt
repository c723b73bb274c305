-- `host::adopt` meets its contract. Assumes nothing.
use mathlib.Core.Path.{◌≡◌, ap, ◌∙◌}
use mathlib.Core.Bool.{true, cond}
use mathlib.Core.List.{List}
use Prim.Native.Nat.{ℕ}
use borrow.Author.Rules.{rules}
use Rattle.adoption.specs.Adoptions.{made, made_by, head_at}
use Rattle.format.specs.Ends.{end_from}
use Rattle.format.specs.Good.{is_holding}
use Rattle.format.specs.Messages.{mask_message}
use Rattle.format.specs.Programs.{run}
use Rattle.format.specs.Reading.{Outcome, bits_from, lent_after, over}
use Rattle.heads.specs.Sorting.{adopted_by}
use Rattle.holding.specs.declared.Holding.{Holding}
use Rattle.holding.specs.declared.Outline.{Outline}
use Rattle.holding.specs.Outlines.{whole_of}
use Rattle.holding.specs.Pictures.{mask_of, sound}
use Rattle.holding.proofs.Sounds.{sounds}
use Rattle.host.proofs.Opened.{opened}
use Rattle.host.proofs.Outcomes.{after_sound, after_bytes, adopted_good}
use Rattle.host.proofs.adopt.Statement.{statement}
use Rattle.host.proofs.adopt.Lts.{then-not-adoption, else-not-adoption}
use Rattle.host.proofs.adopt.Tie as tie
use Rattle.passing.specs.Passing.{bytes_of, holding_in}
use Rattle.passing.proofs.Returns.{sound_passes}
use Rattle.reader.proofs.Adopted.{as_reading, made_reads, new_outline, old_outline}
use Rattle.reader.specs.declared.Reading.{Reading}
use Rattle.reader.specs.Readings.{struct_of, reading_of}

-- what the lent bytes say, opened in parts
module _ (c : tie.After-outline-held) where
  abbrev s : tie.Start
  s = c.before.before.before.before.before

  abbrev held : Holding
  held = holding_in s.args.holding.now

  said : whole_of c.outline-held.result c.satellites-satellites.result c.strips-strips.result ≡ held
  said =
      opened s.args.holding.now (sound_passes _ s.requires.1) c.outline-held.ensures c.satellites-satellites.ensures c.strips-strips.ensures

  abbrev outcome : Outcome
  outcome = adopted_by (mask_of held) s.args.place (run mask_message (bits_from s.args.bytes.now s.args.end s.args.place))

  good : is_holding (lent_after outcome) ≡ true
  good = adopted_good (mask_of held) (sounds held s.requires.1).good_held s.args.place _

module _ (c : tie.After-adopt-adoption) where
  abbrev o : tie.After-outline-held
  o = c.before.before.before

  abbrev satellites : List ℕ
  satellites = c.adopt-adoption.new.satellites

  abbrev strips : List ℕ
  strips = c.adopt-adoption.new.strips

  -- what is made of the message is what reading it comes to
  reads : as_reading (head_at (s o).args.bytes.now (s o).args.place) (made o.outline-held.result c.adopt-adoption.result satellites strips) ≡ reading_of (held o) (outcome o)
  reads =
      let x = (s o).args in
      made_reads (held o) (s o).requires.1 (s o).requires.0 (c.adopt-adoption.ensures ∙ ap (λ (h : Holding). made_by h (end_from mask_message x.bytes.now x.end x.place)) (said o))

-- and it is held then
module _ (c : tie.Joined-not-adoption) where
  abbrev a : tie.After-adopt-adoption
  a = c.before.before

  after : whole_of c.if-not-adoption.held (satellites a) (strips a) ≡ struct_of (held (o a)) (lent_after (outcome (o a)))
  unfolding reading_of
  after =
      let r = a.adopt-adoption.result in
      let old = (o a).outline-held.result in
      let outline : c.if-not-adoption.held ≡ cond r.kept old r.outline = elim c.if-not-adoption.branch [
        | then-not-adoption w ↦ new_outline r.kept old r.outline w.if-not-adoption.true (w.held-is ∙ w.adopt-held.ensures)
        | else-not-adoption w ↦ old_outline r.kept old r.outline w.if-not-adoption.false w.held-is
      ] in
      ap (λ (p : Outline). whole_of p (satellites a) (strips a))
      outline
      ∙ ap (λ (x : Reading). x.holding) (reads a)

holding_over-requires : tie.Need-holding_over-requires
holding_over-requires c κs =
    let j = c.before.before.before in
    let l = o (a j) in
    ((s l).requires.2, ap sound (after j) ∙ after_sound (held l) (lent_after (outcome l)) (good l))

returns : tie.Need-returns
unfolding reading_of
returns c =
    let w = c.before.before.before in
    let j = w.before.before.before.before in
    let l = o (a j) in
    let hb = (s l).args.holding.now in (
      c.mask_answer.ensures ∙ ap (λ (r : Reading). r.answer) (reads (a j)),
      w.holding_over.ensures ∙ ap (λ (h : Holding). over (bytes_of h) hb) (after j) ∙ after_bytes (held l) (lent_after (outcome l)) hb (good l),
    )

pub adopt_spec : {M : Type 1} → statement M
adopt_spec =
    tie.close
    (tie.spec (λ c κs. search rules) (λ c κs. search rules) (λ c κs. search rules) (λ c κs. let o = c.before.before in ((s o).requires.0, ap sound (said o) ∙ (s o).requires.1)) (λ c κs. search rules)
    holding_over-requires (λ c κs. search rules) (λ c. search rules) returns)
