-- `adoption::adopt` meets its contract. Assumes nothing.
use Rattle.bits.proofs.Words.{sym, ap, ◌∙◌, List, ℕ, arith, rules}
use Rattle.adoption.proofs.StageEnds.{opens_at}
use Rattle.adoption.specs.Adoptions.{Made, made, made_by}
use Rattle.adoption.specs.declared.Adoption.{Adoption}
use Rattle.adoption.specs.Stages.{with_systems, after_common_head}
use Rattle.format.proofs.Ends.{then_well, then_badly}
use Rattle.format.specs.Ends.{end_from}
use Rattle.format.specs.Messages.{Adopted, common, mask_message}
use Rattle.format.specs.Programs.{Ended}
use Rattle.heads.proofs.Commons.{Read, common_whole, common_short}
use Rattle.heads.specs.declared.Front.{Front}
use Rattle.heads.specs.Fronts.{Opens}
use Rattle.heads.specs.Headings.{head_with}
use Rattle.heads.specs.Heads.{common_of}
use Rattle.holding.specs.Outlines.{whole_of}
use Rattle.adoption.proofs.adopt.Statement.{statement}
use Rattle.adoption.proofs.adopt.Tie as tie

-- the front is the message's
module _ (c : tie.After-front_at-f) where
  abbrev bs : List ℕ
  bs = c.args.bytes.now

  opens : Opens bs c.front_at-f.result
  opens = opens_at c.requires.0 c.front_at-f.ensures

  -- what is made where its program ends so
  abbrev over : Ended Adopted → Made
  over e = let x = c.args in made_by (whole_of x.held x.satellites.now x.strips.now) e

  abbrev answer : Front → Made
  answer f = over (end_from mask_message bs f.end f.start)

-- the common head, where it is there
module _ (c : tie.In-Ok) where
  abbrev t : tie.After-front_at-f
  t = c.before.before

  read : Read (opens t).within 20 c.in-Ok.h
  read = common_whole (opens t).within 20 (omega arith) (sym (c.head.ensures (bs t) (opens t)) ∙ c.in-Ok.is)

returns-in-Err : tie.Need-returns-in-Err
unfolding mask_message made_by
returns-in-Err c =
    let t = c.before.before.before in
    let cut = common_short (opens t).within 20 (sym (c.head.ensures (bs t) (opens t)) ∙ c.in-Err.is) in
    let x = t.args in
    ap (λ (a : Adoption). made x.held a x.satellites.now x.strips.now) c.keeping.ensures ∙ ap (over t) (sym (then_badly (opens t).within (common 20) _ cut)) ∙ ap (answer t) t.front_at-f.ensures

pub adopt_spec : {M : Type 1} → statement M
unfolding mask_message after_common_head with_systems head_with common_of
adopt_spec =
    tie.close
    (tie.spec (λ c κs. search rules) (λ c κs. record { bytes = bs c; opens = opens c }) (λ c. search rules) (λ c κs. search rules) (λ c. search rules)
    (λ c κs. let k = c.before.before in ((read k).small, (read k).after, opens (t k), (t k).requires.1)) returns-in-Err
    (λ c. let k = c.before.before.before in let t = t k in c.after_head.ensures ∙ ap (over t) (sym (then_well (opens t).within (common 20) _ (read k).ran)) ∙ ap (answer t) t.front_at-f.ensures))
