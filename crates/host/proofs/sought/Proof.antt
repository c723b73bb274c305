-- `host::sought` meets its contract. Assumes nothing.
use mathlib.Core.Path.{◌≡◌, sym, ap, ◌∙◌}
use mathlib.Core.Bool.{true}
use borrow.Author.Rules.{rules}
use lib.ListN.{length}
use Rattle.format.specs.Reading.{rows_after}
use Rattle.holding.specs.declared.Holding.{Holding}
use Rattle.holding.specs.Outlines.{whole_of}
use Rattle.host.specs.Handing.{host_outcome}
use Rattle.host.proofs.Opened.{opened, refused_so}
use Rattle.host.proofs.sought.Statement.{statement}
use Rattle.host.proofs.sought.Tie as tie
use Rattle.passing.specs.Passing.{passes, holding_in}
use Rattle.passing.proofs.Returns.{passed}
use Rattle.reader.specs.Readings.{outcome_at, sought_by, sought_at}
use Rattle.reader.proofs.Sought.{refused_lent}

-- bytes that say no holding
returns-then-not-passes : tie.Need-returns-then-not-passes
unfolding host_outcome sought_by
returns-then-not-passes c =
    let t = c.before in
    let p = t in
    let x = p.args in
    let hb = x.holding.now in
    let why = refused_so hb x.bytes.now x.end x.start x.rows.now (sym p.passes.ensures ∙ t.if-not-passes.true) c.unheld-refusal.ensures in
    (rw why, (refused_lent (holding_in hb) x.bytes.now x.end x.start x.rows.now _ why).2)

-- those that pass
module _ (c : tie.Else-not-passes) where
  abbrev s : tie.Start
  s = c.before.before.before.before

  fine : passes s.args.holding.now ≡ true
  fine = sym c.passes.ensures ∙ c.if-not-passes.false

-- opened in parts
module _ (c : tie.After-outline-outline) where
  abbrev e : tie.Else-not-passes
  e = c.before.before.before

  said : whole_of c.outline-outline.result c.satellites-satellites.result c.strips-strips.result ≡ holding_in (s e).args.holding.now
  said = opened (s e).args.holding.now (fine e) c.outline-outline.ensures c.satellites-satellites.ensures c.strips-strips.ensures

returns : tie.Need-returns
unfolding host_outcome
returns c =
    let k = c.before in
    let o = k.before.before.before.before.before.before.before in
    let x = (s (e o)).args in (
      k.seek_under.ensures.0 ∙ ap (λ (h : Holding). sought_at h x.bytes.now x.end x.start (length x.rows.now)) (said o),
      k.seek_under.ensures.1 ∙ ap (λ (h : Holding). rows_after (outcome_at h x.bytes.now x.end x.start x.rows.now) x.rows.now) (said o),
    )

pub sought_spec : {M : Type 1} → statement M
sought_spec =
    tie.close
    (tie.spec (λ c κs. search rules) (λ c κs. search rules) returns-then-not-passes (λ c κs. (passed _ (fine c)).long) (λ c κs. (passed _ (fine c.before)).long) (λ c κs. (passed _ (fine c.before.before)).long)
    (λ c κs. search rules) (λ c κs. search rules) (λ c. search rules) returns)
