-- `walk::under::under` meets its contract. The loop's invariant: it stands where the walk went. Assumes nothing.
use mathlib.Core.Path.{◌≡◌, refl, sym, ap, subst, ◌∙◌}
use mathlib.Core.Bool.{true, false}
use mathlib.Core.List.{List}
use Prim.Native.Nat.{◌+◌, ◌-◌}
use native.Mathlib.Omega.{arith}
use lib.IntN.{ℤ}
use lib.ListN.{length}
use borrow.Author.Rules.{rules}
use Rattle.body.proofs.Bodies.{counted, prefix}
use Rattle.format.specs.declared.Answer.TheVariants.{Message}
use Rattle.holding.specs.declared.Holding.{Holding}
use Rattle.holding.specs.Outlines.{whole_of}
use Rattle.holding.specs.Pictures.{sound}
use Rattle.reader.specs.declared.message.Found.{Found}
use Rattle.reader.specs.declared.message.Found.TheVariants.{Answered}
use Rattle.walk.specs.Standing.{Stand, stand_at, stand_from, Stands}
use Rattle.walk.specs.Pausing.{found_in, rows_in, pauses_in, pause_in}
use Rattle.walk.proofs.Found.{Halts, no_message, mask_tag, under_goes}
use Rattle.walk.proofs.Going.{Goes}
use Rattle.walk.proofs.Pausing.{pauses_once, pauses_behind, pauses_here}
use Rattle.walk.proofs.under.under.Statement.{statement}
use Rattle.walk.proofs.under.under.Tie as tie

abbrev invariant-loop-answer : tie.invariant-loop-answer
invariant-loop-answer from satellites end outline bytes once rows₀ strips ids count tally₀ rows tally =
    let holding = whole_of outline satellites strips in
    Stands bytes end (stand_at holding tally rows)
    × (pauses_in once bytes end (stand_from holding from rows₀) ≡ pauses_in once bytes end (stand_at holding tally rows))
    × (length rows ≡ length rows₀)

abbrev decreases-loop-answer : tie.decreases-loop-answer
decreases-loop-answer from satellites end outline bytes once rows₀ strips ids count tally₀ rows tally = end - tally.place

loop-holds : tie.Need-loop-answer-init invariant-loop-answer decreases-loop-answer
loop-holds c = (c.requires, refl, refl)

-- where the loop stands
module _ (c : tie.At-loop-answer invariant-loop-answer decreases-loop-answer) where
  abbrev s : tie.Start invariant-loop-answer decreases-loop-answer
  s = c.before.before.before.before

  abbrev hold : Holding
  hold = whole_of s.args.outline s.args.satellites.now s.args.strips.now

  abbrev here : Stand
  here = stand_at hold c.loop-answer.tally c.loop-answer.rows

  abbrev start : Stand
  start = stand_from hold s.args.from s.args.rows.now

  firm : sound hold ≡ true
  firm = c.loop-answer.invariant.0.held

-- the holding's slots, masks and strips are lent
find-found-requires : tie.Need-find-found-requires invariant-loop-answer decreases-loop-answer
find-found-requires c κs =
    let stands = c.loop-answer.invariant.0 in (
      record { held = stands.held; lent = stands.lent; limit = stands.limit; room = stands.room },
      record { named = refl; masked = refl; striped = refl },
      stands.there,
    )

abbrev at : tie.After-find-found invariant-loop-answer decreases-loop-answer → tie.At-loop-answer invariant-loop-answer decreases-loop-answer
at f = f.before.before.before.before.before

-- the pause is where the loop stands
paused : (f : tie.After-find-found invariant-loop-answer decreases-loop-answer) (g : Found) → g ≡ f.find-found.result
    → let l = at f in let t = pauses_in (s l).args.once (s l).args.bytes.now (s l).args.end (start l) in
    t ≡ here l
    → (record { found = g; tally = l.loop-answer.tally } ≡ pause_in (s l).args.bytes.now (s l).args.end t) × (f.find-found.new.rows ≡ rows_in (s l).args.bytes.now (s l).args.end t)
paused f g e there = rw there ((λ i. record { found = (e ∙ f.find-found.ensures.0) i; tally = (at f).loop-answer.tally }), f.find-found.ensures.1)

-- a mask, or a stop
halted : (f : tie.After-find-found invariant-loop-answer decreases-loop-answer) (g : Found) → g ≡ f.find-found.result → Halts g
    → let l = at f in pauses_in (s l).args.once (s l).args.bytes.now (s l).args.end (start l) ≡ here l
halted f g e halts =
    let l = at f in
    l.loop-answer.invariant.1 ∙ pauses_here (s l).args.bytes.now (s l).args.end (here l) l.loop-answer.invariant.0 (s l).args.once (subst Halts (e ∙ f.find-found.ensures.0) halts)

returns-in_default : tie.Need-returns-in_default invariant-loop-answer decreases-loop-answer
unfolding Halts
returns-in_default c =
    let f = c.before.before in
    let mask = mask_tag f.find-found.result c.in_default.in_default-own.keys2 in
    paused f _ refl (halted f _ refl (subst Halts mask tt))

returns-in_default-answer : tie.Need-returns-in_default-answer invariant-loop-answer decreases-loop-answer
returns-in_default-answer c =
    let f = c.before.before.before in
    paused f (Answered c.in-Answered.answer) (sym c.in-Answered.is) (halted f (Answered c.in-Answered.answer) (sym c.in-Answered.is) (no_message c.in-Answered.answer c.in_default-answer.in_default-answer-own.keys2))

-- a message
module _ (c : tie.In-Message invariant-loop-answer decreases-loop-answer) where
  abbrev f : tie.After-find-found invariant-loop-answer decreases-loop-answer
  f = c.before.before.before

  abbrev l : tie.At-loop-answer invariant-loop-answer decreases-loop-answer
  l = at f

  -- the stand behind it, with the row buffer that reading it left
  abbrev next : List ℤ → Stand
  next rows =
      stand_at (hold l)
      (record { place = c.in-Message.next; messages = l.loop-answer.tally.messages + 1; rows = l.loop-answer.tally.rows + c.in-Message.n }) rows

  abbrev left : List ℤ
  left = f.find-found.new.rows

  message : found_in (s l).args.bytes.now (s l).args.end (here l) ≡ Answered (Message c.in-Message.field-0 c.in-Message.next c.in-Message.n)
  message = sym f.find-found.ensures.0 ∙ c.in-Answered.is ∙ ap Answered c.in-Message.is

  goes : Goes (s l).args.bytes.now (s l).args.end (here l) (next left)
  goes =
      subst (λ (rows : List ℤ). Goes (s l).args.bytes.now (s l).args.end (here l) (next rows)) (sym f.find-found.ensures.1)
      (under_goes (s l).args.bytes.now (s l).args.end (here l) l.loop-answer.invariant.0 _ _ _ message)

  same : (s l).args.once ≡ false → pauses_in (s l).args.once (s l).args.bytes.now (s l).args.end (here l) ≡ pauses_in (s l).args.once (s l).args.bytes.now (s l).args.end (next left)
  same on =
      pauses_behind (s l).args.bytes.now (s l).args.end (here l) l.loop-answer.invariant.0 (s l).args.once on _ _ _ message
      ∙ ap (λ (rows : List ℤ). pauses_in (s l).args.once (s l).args.bytes.now (s l).args.end (next rows)) (sym f.find-found.ensures.1)

-- one reading
returns-then-once : tie.Need-returns-then-once invariant-loop-answer decreases-loop-answer
returns-then-once c =
    let m = c.before in
    let x = (s (l m)).args in
    paused (f m) (Answered m.in-Answered.answer) (sym m.in-Answered.is) ((l m).loop-answer.invariant.1 ∙ pauses_once x.bytes.now x.end (here (l m)) (l m).loop-answer.invariant.0 x.once c.if-once.true)

add-messages : tie.Need-overflow_add-tally invariant-loop-answer decreases-loop-answer
add-messages c =
    let stands = (goes c.before.before).stands in
    omega (arith, stands.few, stands.there, stands.limit)

add-rows : tie.Need-overflow_add-tally-in-loop-answer invariant-loop-answer decreases-loop-answer
add-rows c =
    let stands = (goes c.before.before.before).stands in
    omega (arith, stands.few, stands.there, stands.limit, stands.rows)

loop-less : tie.Need-loop-answer-smaller invariant-loop-answer decreases-loop-answer
loop-less c =
    let m = c.before.before.before in
    omega (arith, (goes m).past, (goes m).stands.there)

loop-again : tie.Need-loop-answer-preserved invariant-loop-answer decreases-loop-answer
loop-again c =
    let m = c.before.before.before in
    ((goes m).stands, (l m).loop-answer.invariant.1 ∙ same m c.if-once.false, (f m).find-found.auto.rows ∙ (l m).loop-answer.invariant.2)

pub under_spec : {M : Type 1} → statement M
under_spec =
    tie.close
    (tie.spec invariant-loop-answer decreases-loop-answer (λ c. search rules) loop-holds (λ c. counted (hold c) (firm c)) (λ c. let l = c.before in prefix (hold l) (firm l))
    find-found-requires (λ c. search rules) (λ c. search rules) (λ c. search rules) returns-in_default (λ c. search rules) (λ c. search rules) returns-in_default-answer (λ c. search rules) returns-then-once add-messages add-rows loop-less loop-again)
