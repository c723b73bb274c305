-- `holding::Outline::fits` meets its contract: the test slot by slot is the test of the definitions. Assumes nothing.
use Rattle.bits.proofs.Words.{sym, ◌∙◌, rules}
use borrow.Author.Tests.{le-leb, lt-leb}
use Rattle.holding.specs.declared.Holding.{Holding}
use Rattle.holding.specs.Outlines.{whole_of}
use Rattle.holding.specs.Testing.{tested}
use Rattle.holding.proofs.Shapes.{narrow_typed, narrow_lent, tested_is_sound, not_tested}
use Rattle.holding.proofs.Sounds.{Shaped}
use Rattle.holding.proofs.Outline.fits.Statement.{statement}
use Rattle.holding.proofs.Outline.fits.Tie as tie

-- the masks and strips that are lent with it
abbrev whole : tie.Start → Holding
whole s = whole_of s.args.self s.args.satellites.now s.args.strips.now

returns-then-count-gt-SYSTEMS : tie.Need-returns-then-count-gt-SYSTEMS
unfolding tested
returns-then-count-gt-SYSTEMS c =
    let h = whole c.before.before.before.before.before.before in
    let issue = sym c.issue_fits.ensures ∙ c.if-not-issue_fits.false in
    sym (not_tested h (rw (issue, lt-leb h.count 5 c.if-count-gt-SYSTEMS.true)))

returns : tie.Need-returns
unfolding tested
returns c =
    let after = c.before.before.before.before.before.before.before.before in
    let lent = after.before.before.before.before in
    let start = lent.before.before in
    let h = whole start in
    let lists = start.well_formed.0.1.1.1.1.1.1 in
    let known = after.struct_known-1.given.1.1.1.1.1.1 in
    let shaped : Shaped h =
    record {
      ids = lists.0.1.0.1;
      satellites = start.requires.0;
      signals = lists.1.1.0.1.0.1;
      flags = lists.1.0.1.0.1;
      strips = start.requires.1;
      signals_narrow = narrow_typed h.signals known.0;
      strips_narrow = narrow_lent h.strips lent.shared_slice_known-2-1.given;
    } in
    let issue = sym after.issue_fits.ensures ∙ after.if-not-issue_fits.false in
    c.slots_fit.ensures ∙ (rw (issue, le-leb h.count 5 after.if-count-gt-SYSTEMS.false) at (tested_is_sound h shaped))

pub fits_spec : {M : Type 1} → statement M
unfolding tested
fits_spec =
    tie.close
    (tie.spec (λ c. search rules) (λ c κs. search rules)
    (λ c. let h = whole c.before.before.before.before.before in let issue = sym c.issue_fits.ensures ∙ c.if-not-issue_fits.true in sym (not_tested h (rw issue)))
    returns-then-count-gt-SYSTEMS (λ c. search rules) (λ c. search rules) (λ c. search rules) (λ c. search rules) (λ c κs. search rules) returns)
