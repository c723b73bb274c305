-- `walk::walk_under` meets its contract. Assumes nothing.
use mathlib.Core.Path.{◌≡◌, sym, ◌∙◌}
use lib.ListN.{length}
use borrow.Author.Rules.{rules}
use Rattle.holding.specs.declared.Holding.{Holding}
use Rattle.holding.specs.Outlines.{whole_of}
use Rattle.reader.proofs.Outcomes.{Fine}
use Rattle.reader.specs.Readings.{tests_of, tested_by}
use Rattle.reader.proofs.Sought.{seen_tests, good_lent}
use Rattle.walk.proofs.Begins.{good_tag, refused_walked, begin, begun_walked}
use Rattle.walk.proofs.walk_under.Statement.{statement}
use Rattle.walk.proofs.walk_under.Tie as tie

-- what is held
abbrev hold : tie.Start → Holding
hold s = whole_of s.args.outline s.args.satellites.now s.args.strips.now

-- what the tests say
module _ (t : tie.After-tested-verdict) where
  abbrev s : tie.Start
  s = t.before.before

  tests : t.tested-verdict.result ≡ tested_by (tests_of (hold s) s.args.bytes.now s.args.end 0 (length s.args.rows.now))
  tests = t.tested-verdict.ensures ∙ seen_tests (hold s) s.args.bytes.now s.args.end 0 s.args.rows.now _ s.requires

returns-in-Refused : tie.Need-returns-in-Refused
returns-in-Refused c =
    let t = c.before in
    let x = (s t).args in
    refused_walked (hold (s t)) x.bytes.now x.end x.rows.now _ (sym (tests t) ∙ c.in-Refused.is)

-- what is lent is good
module _ (c : tie.In_default) where
  abbrev t : tie.After-tested-verdict
  t = c.before

  fine : Fine (hold (s t)) (s t).args.bytes.now (s t).args.end 0 (length (s t).args.rows.now)
  fine = good_lent (hold (s t)) (s t).args.bytes.now (s t).args.end 0 (s t).args.rows.now (sym (tests t) ∙ good_tag _ c.in_default.in_default-own.keys2)

on-requires : tie.Need-on-requires
on-requires c κs = begin (fine c.before.before.before)

returns : tie.Need-returns
returns c =
    let o = c.before in
    let e = o.before.before.before.before in
    let x = (s (t e)).args in
    let whole = begun_walked (hold (s (t e))) x.bytes.now x.end x.rows.now (fine e) in
    (o.on.ensures.0 ∙ whole.0, o.on.ensures.1 ∙ whole.1)

pub walk_under_spec : {M : Type 1} → statement M
walk_under_spec =
    tie.close (tie.spec (λ c κs. search rules) (λ c. search rules) returns-in-Refused (λ c. search rules) on-requires (λ c. search rules) returns)
