-- `walk::single::seek_under` meets its contract. Assumes nothing.
use mathlib.Core.Path.{◌≡◌, ◌∙◌, sym, ap}
use borrow.Author.Rules.{rules}
use lib.ListN.{length}
use Rattle.format.specs.Reading.{Outcome, rows_after}
use Rattle.holding.specs.declared.Holding.{Holding}
use Rattle.holding.specs.Outlines.{whole_of}
use Rattle.reader.specs.declared.Verdict.TheVariants.{Good}
use Rattle.reader.specs.Readings.{tests_of, tested_by, sought_by}
use Rattle.reader.proofs.Sought.{seen_tests, refused_lent, good_lent, good_reads}
use Rattle.walk.specs.declared.under.Pause.{Pause}
use Rattle.walk.specs.Pausing.{pauses_in}
use Rattle.walk.proofs.Begins.{good_tag, begin}
use Rattle.walk.proofs.single.seek_under.Statement.{statement}
use Rattle.walk.proofs.single.seek_under.Tie as tie

-- what is held
abbrev hold : tie.Start → Holding
hold s = whole_of s.args.outline s.args.satellites.now s.args.strips.now

-- what the tests say
module _ (t : tie.After-tested-verdict) where
  abbrev s : tie.Start
  s = t.before.before

  tests : t.tested-verdict.result ≡ tested_by (tests_of (hold s) s.args.bytes.now s.args.end s.args.start (length s.args.rows.now))
  tests = t.tested-verdict.ensures ∙ seen_tests (hold s) s.args.bytes.now s.args.end s.args.start s.args.rows.now _ s.requires

returns-in-Refused : tie.Need-returns-in-Refused
unfolding sought_by
returns-in-Refused c =
    let t = c.before in
    let x = (s t).args in
    let why = sym (tests t) ∙ c.in-Refused.is in
    (rw why, (refused_lent (hold (s t)) x.bytes.now x.end x.start x.rows.now _ why).2)

-- what is lent is good
module _ (c : tie.In_default) where
  abbrev t : tie.After-tested-verdict
  t = c.before

  good : tested_by (tests_of (hold (s t)) (s t).args.bytes.now (s t).args.end (s t).args.start (length (s t).args.rows.now)) ≡ Good
  good = sym (tests t) ∙ good_tag _ c.in_default.in_default-own.keys2

under-pause-requires : tie.Need-under-pause-requires
under-pause-requires c κs =
    let e = c.before in
    let x = (s (t e)).args in
    begin (good_lent (hold (s (t e))) x.bytes.now x.end x.start x.rows.now (good e))

returns : tie.Need-returns
unfolding sought_by pauses_in
returns c =
    let u = c.before in
    let e = u.before.before in
    let x = (s (t e)).args in
    let same = good_reads (hold (s (t e))) x.bytes.now x.end x.start x.rows.now (good e) in
    (ap (λ (p : Pause). p.found) u.under-pause.ensures.0 ∙ rw (good e), u.under-pause.ensures.1 ∙ sym (ap (λ (o : Outcome). rows_after o x.rows.now) same))

pub seek_under_spec : {M : Type 1} → statement M
seek_under_spec =
    tie.close (tie.spec (λ c κs. search rules) (λ c. search rules) returns-in-Refused (λ c. search rules) under-pause-requires (λ c. search rules) returns)
