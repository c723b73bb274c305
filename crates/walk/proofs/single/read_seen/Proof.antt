-- `walk::single::read_seen` meets its contract. Assumes nothing.
use mathlib.Core.Path.{◌∙◌, sym, ap}
use native.Mathlib.Omega.{arith}
use borrow.Author.Rules.{rules}
use denote.Enum.Declared.{tag_of}
use Rattle.reader.specs.Readings.{struct_of, reading_of}
use Rattle.reader.proofs.Lents.{lent_back}
use Rattle.reader.proofs.Sought.{SoughtMask, sought_mask, sought_answer}
use Rattle.reader.specs.contracts.message.Found.{the_type}
use Rattle.walk.proofs.single.read_seen.Statement.{statement}
use Rattle.walk.proofs.single.read_seen.Tie as tie

-- a mask was found
module _ (c : tie.In-Mask) where
  abbrev k : tie.After-found_in-found
  k = c.before.before

  abbrev s : tie.Start
  s = k.before.before.before

  found : SoughtMask s.args.holding s.args.bytes.now s.args.end s.args.start s.args.rows.now
  found = sought_mask s.args.holding s.args.bytes.now s.args.end s.args.start s.args.rows.now (ap (tag_of the_type) (sym k.found_in-found.ensures.0 ∙ c.in-Mask.is))

overflow_add-start : tie.Need-overflow_add-start
overflow_add-start c = omega (arith, (found c).found.room, (found c).fine.inside.limit)

adopted-requires : tie.Need-adopted-requires
adopted-requires c κs =
    let f = found c in
    (f.fine.inside.lent, f.fine.inside.limit, f.found.room, f.fine.held)

returns-in-Mask : tie.Need-returns-in-Mask
returns-in-Mask c =
    let e = c.before in
    let f = found e in
    (c.adopted.ensures ∙ ap (reading_of (s e).args.holding) (sym (f.reads ∙ f.found.adopts)), (k e).found_in-found.ensures.1)

returns-in-Answered : tie.Need-returns-in-Answered
unfolding reading_of
returns-in-Answered c =
    let r = c in
    let x = c.args in
    let it = sought_answer x.holding x.bytes.now x.end x.start x.rows.now c.in-Answered.answer (sym r.found_in-found.ensures.0 ∙ c.in-Answered.is) in
    ((λ i. record { answer = it.says i; holding = sym (ap (struct_of x.holding) it.keeps ∙ lent_back x.holding) i }), r.found_in-found.ensures.1)

pub read_seen_spec : {M : Type 1} → statement M
read_seen_spec =
    tie.close
    (tie.spec (λ c κs. search rules) (λ c. search rules) overflow_add-start adopted-requires (λ c. search rules) (λ c. search rules) returns-in-Mask (λ c. search rules)
    returns-in-Answered)
