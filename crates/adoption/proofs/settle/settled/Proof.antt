-- `adoption::settle::settled` meets its contract. Assumes nothing.
use Rattle.bits.proofs.Words.{◌≡◌, sym, ap, ◌∙◌, true, false, not, rules}
use mathlib.Core.Logic.{⊎_elim}
use borrow.Author.Tests.{not-true, not-false, eq-eqb, ne_eqb}
use Rattle.adoption.proofs.Offered.{settles_free, settles_other, settles_same, settles_changed}
use Rattle.adoption.specs.Adoptions.{made}
use Rattle.adoption.specs.declared.Adoption.{Adoption}
use Rattle.adoption.specs.declared.Ending.TheVariants.{Refused}
use Rattle.format.specs.declared.Refusal.TheVariants.{Changed}
use Rattle.format.specs.Masks.{nothing}
use Rattle.holding.specs.declared.Outline.{Outline}
use Rattle.holding.specs.Outlines.{outline_of}
use Rattle.holding.specs.Pictures.{picture_of}
use Rattle.adoption.proofs.settle.settled.Statement.{statement}
use Rattle.adoption.proofs.settle.settled.Tie as tie

-- another issue, or none
returns-then-not-held : tie.Need-returns-then-not-held
returns-then-not-held c =
    let x = c.args in
    ⊎_elim
    (λ free. settles_free x.held x.satellites.now x.strips.now x.offer x.masks.now x.cells.now (not-true x.held.held free))
    (λ other. settles_other x.held x.satellites.now x.strips.now x.offer x.masks.now x.cells.now (ap not (ne_eqb _ _ other.1)))
    c.then-not-held.either

-- the held one's: compared
module _ (c : tie.After-same) where
  abbrev e : tie.Else-new-held
  e = c.before

  abbrev s : tie.Start
  s = e.before.before.before.before.before.before

  held : s.args.held.held ≡ true
  held = not-false s.args.held.held e.if-not-held.false

returns-then-same : tie.Need-returns-then-same
returns-then-same c =
    let k = c.before.before in
    let x = (s k).args in
    ap (λ (a : Adoption). made x.held a x.satellites.now x.strips.now) c.keeping.ensures
    ∙ settles_same x.held x.satellites.now x.strips.now x.offer x.masks.now x.cells.now (held k) (ap not (eq-eqb _ _ (e k).if-new-held.false)) (sym k.same.ensures ∙ c.if-same.true)

returns : tie.Need-returns
unfolding picture_of
returns c =
    let f = c.before.before.before.before in
    let k = f.before in
    let x = (s k).args in
    ap (λ (o : Outline). made x.held (record { ending = Refused Changed 0; kept = false; outline = o }) (picture_of nothing).satellites (picture_of nothing).strips) (c.outline.ensures ∙ ap outline_of c.empty-empty.ensures)
    ∙ settles_changed x.held x.satellites.now x.strips.now x.offer x.masks.now x.cells.now (held k) (ap not (eq-eqb _ _ (e k).if-new-held.false)) (sym k.same.ensures ∙ f.if-same.false)

pub settled_spec : {M : Type 1} → statement M
settled_spec = tie.close (tie.spec returns-then-not-held (λ c κs. search rules) (λ c κs. search rules) returns-then-same (λ c κs. search rules) (λ c κs. search rules) returns)
