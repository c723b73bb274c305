-- `heads::heading::masked` meets its contract. Assumes nothing.
use Rattle.bits.proofs.Words.{◌≡◌, sym, ◌∙◌, ◌+◌, arith, rules}
use Rattle.format.proofs.Ends.{onward, then_well, then_badly}
use Rattle.format.specs.Messages.{common}
use Rattle.heads.specs.Headings.{said_by, FitsHeading, HasBody, gated_by, under_by}
use Rattle.heads.proofs.Commons.{Read, common_whole, common_short}
use Rattle.heads.proofs.heading.masked.Statement.{statement}
use Rattle.heads.proofs.heading.masked.Tie as tie
use Rattle.holding.specs.Held.{sky_in}

-- the common head, where it is there
module _ (c : tie.In-Ok) where
  abbrev s : tie.Start
  s = c.before.before.before.before

  whole : Read s.requires.4 12 c.in-Ok.h
  whole = common_whole s.requires.4 12 (omega arith) (sym (c.common-common.ensures _ s.requires.5) ∙ c.in-Ok.is)

returns-in-Ok : tie.Need-returns-in-Ok
unfolding under_by
returns-in-Ok c =
    let p = c.before in
    let x = (s p).args in
    let next : x.f.start + 37 ≡ x.f.start + 16 + 21 = omega arith in
    let said = rw next at c.gated.ensures.0 in
    (λ v shows. said v shows ∙ sym (then_well (s p).requires.4 (common 12) (gated_by x.under (sky_in v)) (whole p).ran), c.gated.ensures.1)

returns-in-Err : tie.Need-returns-in-Err
unfolding under_by said_by FitsHeading HasBody
returns-in-Err c =
    let cut = common_short c.requires.4 12 (sym (c.common-common.ensures _ c.requires.5) ∙ c.in-Err.is) in
    (λ v shows. sym (then_badly c.requires.4 (common 12) (gated_by c.args.under (sky_in v)) cut), record { fits = tt; this = tt })

pub masked_spec : {M : Type 1} → statement M
masked_spec =
    tie.close
    (tie.spec (λ c κs. let p = c.requires in (record { bytes = _; opens = p.5 }, p.4.room)) (λ c. search rules)
    (λ c κs. let p = (s c).requires in (p.0, p.1, p.2, p.3, (whole c).small, onward p.4 (omega (arith, (whole c).after)), p.5)) (λ c. search rules) returns-in-Ok returns-in-Err)
