-- `reader::message::adopted` meets its contract. Assumes nothing.
use Rattle.bits.proofs.Words.{◌≡◌, ap, ◌∙◌, true, cond, arith, rules}
use Rattle.adoption.specs.Adoptions.{made_by}
use Rattle.format.specs.Ends.{Within, end_from}
use Rattle.format.specs.Messages.{mask_message}
use Rattle.holding.specs.declared.Holding.{Holding}
use Rattle.holding.specs.declared.Outline.{Outline}
use Rattle.holding.specs.Outlines.{whole_of}
use Rattle.holding.specs.Pictures.{sound}
use Rattle.reader.proofs.Adopted.{made_reads, new_outline, old_outline}
use Rattle.reader.proofs.message.adopted.Statement.{statement}
use Rattle.reader.proofs.message.adopted.Lts.{then-not-adoption, else-not-adoption}
use Rattle.reader.proofs.message.adopted.Tie as tie

-- what is lent is the holding in parts
module _ (c : tie.After-outline-held) where
  abbrev s : tie.Start
  s = c.before.before.before.before

  abbrev h : Holding
  h = s.args.holding

  firm : sound (whole_of c.outline-held.result h.satellites h.strips) ≡ true
  firm = ap (λ (o : Outline). sound (whole_of o h.satellites h.strips)) c.outline-held.ensures ∙ s.requires.3

  there : Within s.args.bytes.now s.args.end s.args.place
  there = let p = s.requires in record { inside = p.0; short = omega (arith, p.1); room = p.2 }

returns : tie.Need-returns
returns c =
    let k = c.before in
    let j = k.before in
    let a = j.before.before in
    let o = a.before.before.before in
    let x = (s o).args in
    let satellites = a.adopt-adoption.new.satellites in
    let strips = a.adopt-adoption.new.strips in
    let r = a.adopt-adoption.result in
    let held : j.if-not-adoption.held ≡ cond r.kept o.outline-held.result r.outline = elim j.if-not-adoption.branch [ then-not-adoption w ↦ new_outline r.kept o.outline-held.result r.outline w.if-not-adoption.true (w.held-is ∙ w.adopt-held.ensures) | else-not-adoption w ↦ old_outline r.kept o.outline-held.result r.outline w.if-not-adoption.false w.held-is ] in
    let whole = c.with.ensures ∙ ap (λ (p : Outline). whole_of p satellites strips) held in
    (λ i. record { answer = k.mask_answer.ensures i; holding = whole i })
    ∙ made_reads (h o) (s o).requires.3 (there o)
    (a.adopt-adoption.ensures ∙ ap (λ (p : Outline). made_by (whole_of p (h o).satellites (h o).strips) (end_from mask_message x.bytes.now x.end x.place)) o.outline-held.ensures)

pub adopted_spec : {M : Type 1} → statement M
adopted_spec =
    tie.close
    (tie.spec (λ c κs. search rules) (λ c κs. let o = c.before.before in (there o, firm o)) (λ c κs. search rules) (λ c κs. search rules) (λ c κs. search rules) returns)
