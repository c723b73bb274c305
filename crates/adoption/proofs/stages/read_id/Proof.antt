-- `adoption::stages::read_id` meets its contract. Assumes nothing.
use Rattle.bits.proofs.Words.{◌≡◌, sym, ◌∙◌, true, cond, ◌&&◌, not, List, ℕ, ◌+◌, ◌<◌, arith, rules, take}
use borrow.Author.Tests.{le-leb, lt-leb}
use Rattle.format.proofs.Ends.{fits, number_short}
use Rattle.adoption.proofs.StageEnds.{first_taken, id_end}
use Rattle.format.specs.Ends.{end_from}
use Rattle.adoption.specs.Stages.{end_named}
use Rattle.std.specs.Prelude.{Ok}
use Rattle.bits.specs.Short.{taken_at}
use Rattle.format.specs.Assigned.{known}
use Rattle.format.specs.declared.Refusal.TheVariants.{System}
use Rattle.format.specs.Messages.{named, system_id}
use Rattle.format.specs.Programs.{well, badly}
use Rattle.heads.specs.Fronts.{Opens}
use Rattle.adoption.proofs.stages.read_id.Statement.{statement}
use Rattle.adoption.proofs.stages.read_id.Tie as tie

-- the ID, where its bits are there
module _ (c : tie.In-Ok) where
  abbrev s : tie.Start
  s = c.before.before.before

  abbrev id : ℕ
  id = c.in-Ok.n

  abbrev ids : List ℕ
  ids = take s.args.count s.args.ids.now

  there : {bs : List ℕ} → Opens bs s.args.f → taken_at bs s.args.f.end s.args.f.start 4 ≡ Ok id
  there opens = first_taken opens 4 c.taken-taken.ensures c.in-Ok.is

  low : id < 16
  low = let o = s.requires.1.opens in fits o.within 4 (there o)

  ends : {bs : List ℕ} → Opens bs s.args.f
      → end_from (system_id ids) bs s.args.f.end s.args.f.start ≡ cond (known id && not (named id ids)) (well id (s.args.f.start + 4)) (badly System 0)
  ends opens = id_end opens.within ids (there opens)

-- a known one, by whether it is named
module _ (c : tie.After-named_in) where
  abbrev p : tie.In-Ok
  p = c.before.before

  is_named : named (id p) (ids p) ≡ c.named_in.result
  is_named = sym c.named_in.ensures

  is_known : known (id p) ≡ true
  unfolding known
  is_known = le-leb (id p) 4 (omega (arith, c.if-id-ge-SYSTEMS.false))

pub read_id_spec : {M : Type 1} → statement M
unfolding end_named known system_id
read_id_spec =
    tie.close
    (tie.spec (λ c κs. (c.requires.1, omega arith, omega (arith, c.requires.1.opens.within))) (λ c. search rules) (λ c. search rules)
    (λ c. omega (arith, low c)) (λ c. search rules) (λ c bs opens. sym (ends c.before opens ∙ rw (lt-leb (id c.before) 4 c.if-id-ge-SYSTEMS.true)))
    (λ c κs. search rules) (λ c bs opens. sym (ends (p c.before) opens ∙ rw (is_known c.before, is_named c.before ∙ c.if-named_in.true)))
    (λ c bs opens. sym (number_short opens.within 4 (first_taken opens 4 c.taken-taken.ensures c.in-Err.is) _))
    (λ c bs opens. sym (ends (p c.before) opens ∙ rw (is_known c.before, is_named c.before ∙ c.if-named_in.false))))
