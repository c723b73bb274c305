-- `adoption::after_head` meets its contract. Assumes nothing.
use Rattle.bits.proofs.Words.{◌≡◌, sym, ap, ◌∙◌, ℕ, ◌+◌, arith, rules}
use lib.IntN.{pos}
use Rattle.format.specs.Messages.{Adopted, mask_type}
use Rattle.format.specs.Programs.{Ended}
use Rattle.format.proofs.Ends.{after_field, number_whole, number_short}
use Rattle.adoption.specs.Adoptions.{made, made_by}
use Rattle.adoption.specs.declared.Adoption.{Adoption}
use Rattle.adoption.specs.Stages.{after_common_head}
use Rattle.std.specs.Prelude.{Ok}
use Rattle.bits.specs.Short.{taken_at}
use Rattle.format.specs.Rows.{absent}
use Rattle.heads.specs.Headings.{head_with}
use Rattle.holding.specs.Outlines.{whole_of}
use Rattle.adoption.proofs.after_head.Statement.{statement}
use Rattle.adoption.proofs.after_head.Tie as tie

-- the number of systems, where its bits are there
module _ (c : tie.In-Ok) where
  abbrev s : tie.Start
  s = c.before.before.before

  abbrev n : ℕ
  n = c.in-Ok.n

  there : taken_at s.args.bytes.now s.args.f.end (s.args.f.start + 29) 4 ≡ Ok n
  there = sym (c.taken-taken.ensures _ s.requires.2) ∙ c.in-Ok.is

returns-in-Err : tie.Need-returns-in-Err
unfolding after_common_head made_by
returns-in-Err c =
    let p = c.requires in
    let x = c.args in
    ap (λ (a : Adoption). made x.held a x.satellites.now x.strips.now) c.keeping.ensures
    ∙ ap (λ (e : Ended Adopted). made_by (whole_of x.held x.satellites.now x.strips.now) e) (sym (number_short p.1 4 (sym (c.taken-taken.ensures _ p.2) ∙ c.in-Err.is) _))

returns-in-Ok : tie.Need-returns-in-Ok
unfolding after_common_head
returns-in-Ok c =
    let p = c.before.before.before.before.before in
    let x = (s p).args in
    c.all.ensures (head_with mask_type x.h (pos (n p)) absent absent)
    ∙ ap (λ (e : Ended Adopted). made_by (whole_of x.held x.satellites.now x.strips.now) e) (sym (number_whole (s p).requires.1 4 (there p) _))

pub after_head_spec : {M : Type 1} → statement M
after_head_spec =
    tie.close
    (tie.spec (λ c κs. (record { bytes = _; opens = c.requires.2 }, omega arith, c.requires.1.room)) (λ c. search rules) (λ c κs. search rules) (λ c. search rules)
    (λ c. search rules) (λ c. omega (arith, after_field (s c.before).requires.1 4 (there c.before))) (λ c. search rules)
    (λ c κs. let p = c.before.before.before.before in ((s p).requires.0.iod, after_field (s p).requires.1 4 (there p), (s p).requires.3)) returns-in-Err returns-in-Ok)
