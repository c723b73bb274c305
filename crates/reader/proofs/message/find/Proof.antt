-- `reader::message::find` meets its contract. Assumes nothing.
use Rattle.bits.proofs.Words.{◌≡◌, refl, sym, ap, ◌∙◌, subst, List, ℕ, ◌+◌, arith, rules}
use Rattle.format.specs.Ends.{Within, end_from}
use Rattle.format.specs.Messages as Messages
use Rattle.format.specs.Programs.{Ended, well}
use Rattle.format.specs.Reading.{Outcome, answer_of, rows_after}
use Rattle.format.specs.Table.{opening}
use Rattle.heads.specs.declared.Front.{Front}
use Rattle.heads.specs.Fronts.{front_at, Opens}
use Rattle.heads.specs.Heads.{opening_by}
use Rattle.heads.specs.Headings.{said_by}
use Rattle.heads.specs.Sorting.{heading_for, headed_at}
use Rattle.heads.proofs.ByOpening.{TypeTaken, type_taken}
use Rattle.holding.specs.declared.Holding.{Holding}
use Rattle.holding.specs.Held.{sky_in, view_of}
use Rattle.holding.specs.Outlines.{whole_of}
use Rattle.holding.specs.Pictures.{mask_of}
use Rattle.holding.proofs.Sounds.{sounds}
use Rattle.reader.specs.declared.message.Found.TheVariants.{Answered}
use Rattle.reader.specs.Readings.{read_at, unopened_at, found_as, found_by}
use Rattle.reader.proofs.Findings.{opened_well, opened_badly, begins, shows, sorted_headed, sorted_adopted, adopted_rows, read_sorted, read_stopped}
use Rattle.reader.proofs.message.find.Statement.{statement}
use Rattle.reader.proofs.message.find.Tie as tie
use Rattle.table.specs.declared.Kind.{Kind}
use Rattle.table.specs.declared.Kind.TheVariants as Kinds
use Rattle.table.specs.Kinds.{kind_for}
use Rattle.table.proofs.Tabled.{tabled}

-- any kind but a mask is answered
other_found : (k : Kind) (o : Outcome) → (k ≡ Kinds.Mask → ⊥) → Answered (answer_of o) ≡ found_as k o
unfolding found_as
other_found Kinds.Other o other = refl
other_found Kinds.Mask o other = absurd (other refl)
other_found Kinds.Packet o other = refl
other_found (Kinds.Masked l) o other = refl

-- what is held
abbrev hold : tie.Start → Holding
hold s = whole_of s.args.outline s.args.masks.now s.args.strips.now

within : (s : tie.Start) → Within s.args.bytes.now s.args.end s.args.start
within s = record { inside = s.requires.0.lent; short = omega (arith, s.requires.0.limit); room = s.requires.2 }

-- the front is the message's
module _ (c : tie.After-front_at-front) where
  abbrev s : tie.Start
  s = c.before.before.before.before.before

  abbrev bs : List ℕ
  bs = s.args.bytes.now

  is : c.front_at-front.result ≡ front_at bs s.args.end s.args.start
  is = c.front_at-front.ensures

  opens : Opens bs c.front_at-front.result
  opens = subst (Opens bs) (sym is) (record { within = within s; bits = refl })

opened : (c : tie.After-open-opening) → c.open-opening.result ≡ opening_by (end_from opening (bs c.before) (s c.before).args.end (s c.before).args.start)
opened c =
    let t = c.before in
    c.open-opening.ensures (bs t) (opens t) ∙ ap (λ (f : Front). opening_by (end_from opening (bs t) f.end f.start)) (is t)

-- a sub type was read
module _ (c : tie.After-kind_of-kind) where
  abbrev o : tie.In-SubType
  o = c.before

  abbrev t : tie.After-front_at-front
  t = o.before.before

  abbrev n : ℕ
  n = o.in-SubType.n

  ran : (next : ℕ) × (end_from opening (bs t) (s t).args.end (s t).args.start ≡ well n next)
  ran = opened_well _ n (sym (opened o.before) ∙ o.in-SubType.is)

  told : TypeTaken (within (s t)) n ran.0
  told = type_taken (within (s t)) ran.1

  of_table : c.kind_of-kind.result ≡ kind_for n
  of_table = c.kind_of-kind.ensures

-- a mask is left to be read
returns-in-Mask : tie.Need-returns-in-Mask
unfolding opening_by found_by found_as
returns-in-Mask c =
    let k = c.before in
    let s = s (t k) in
    let x = s.args in
    let masked : kind_for (n k) ≡ Kinds.Mask = sym (of_table k) ∙ c.in-Mask.is in
    let same = read_sorted (hold s) s.requires.0.held (within s) (ran k).1 ∙ sorted_adopted (mask_of (hold s)) x.bytes.now x.end (x.start + 16) (n k) masked in
    (rw ((ran k).1, masked), adopted_rows (mask_of (hold s)) (x.start + 16) _ x.rows.now ∙ ap (λ (w : Outcome). rows_after w x.rows.now) (sym same))

-- any other message has a heading
of-heading-requires : tie.Need-of-heading-requires
of-heading-requires c κs =
    let k = c.before.before in
    let after = subst (λ (f : Front). Within (bs (t k)) f.end (f.start + 16)) (sym (is (t k))) (told k).after in
    let fine = sounds (hold (s (t k))) (s (t k)).requires.0.held in
    ((told k).small, fine.few_satellites, omega (arith, fine.few_satellites, fine.shaped.strips), rw (of_table k) (tabled (n k)), after, opens (t k))

module _ (c : tie.After-of-heading) where
  abbrev k : tie.After-kind_of-kind
  k = c.before.before.before

  abbrev start : tie.Start
  start = s (t k)

  abbrev h : Holding
  h = hold start

  other : kind_for (n k) ≡ Kinds.Mask → ⊥
  other e = c.in_default.not-Mask (of_table k ∙ e)

  abbrev headed : Front → Kind → Ended Messages.Heading
  headed f q = end_from (heading_for q (record { held = h.held; iod = h.iod; n = h.nsat; subtype = n k }) (sky_in (view_of h))) (bs (t k)) f.end (f.start + 16)

  said : said_by (view_of h) c.of-heading.result ≡ headed (front_at (bs (t k)) start.args.end start.args.start) (kind_for (n k))
  said = c.of-heading.ensures.0 (view_of h) (shows h start.requires.0.held) ∙ (λ i. headed (is (t k) i) (of_table k i))

  reads : headed_at (mask_of h) (bs (t k)) start.args.end (said_by (view_of h) c.of-heading.result) ≡ read_at h (bs (t k)) start.args.end start.args.start
  reads =
      ap (headed_at (mask_of h) (bs (t k)) start.args.end) said
      ∙ sym (read_sorted h start.requires.0.held (within start) (ran k).1 ∙ sorted_headed h start.requires.0.held (told k).after (n k) other)

-- refused before that: a stop
returns-in-Refused : tie.Need-returns-in-Refused
unfolding opening_by found_by
returns-in-Refused c =
    let r = c.before in
    let t = r.before.before in
    let x = (s t).args in
    let e = opened_badly _ _ _ (sym (opened r.before) ∙ r.in-Refused.is) in
    let stop = read_stopped (hold (s t)) (s t).requires.0.held (within (s t)) e in
    let said = c.unopened.ensures ∙ ap (λ (f : Front). unopened_at (bs t) f.end f.start r.in-Refused.r r.in-Refused.missing) (is t) in
    (ap Answered (said ∙ stop.0) ∙ rw e, stop.2 x.rows.now)

returns-in_default : tie.Need-returns-in_default
unfolding opening_by found_by
returns-in_default c =
    let b = c.before in
    let q = b.before.before in
    let x = (start q).args in (
      ap Answered (b.body_of-answer.ensures.0 ∙ ap answer_of (reads q)) ∙ other_found (kind_for (n (k q))) _ (other q) ∙ rw (ran (k q)).1,
      b.body_of-answer.ensures.1 ∙ ap (λ (w : Outcome). rows_after w x.rows.now) (reads q),
    )

pub find_spec : {M : Type 1} → statement M
find_spec =
    tie.close
    (tie.spec (λ c κs. search rules) (λ c κs. (record { bytes = _; opens = opens c }, (opens c).within.room)) (λ c. search rules)
    (λ c κs. opens c.before.before) (λ c. search rules) (λ c κs. search rules) (λ c. search rules) returns-in-Mask (λ c. search rules) of-heading-requires
    (λ c κs. let q = c.before in let p = (start q).requires in (p.0, p.1, q.of-heading.ensures.1.fits, rw (said q) (begins (told (k q)).after _))) returns-in-Refused (λ c. search rules)
    returns-in_default)
