-- `walk::on` meets its contract. The loop's invariant: it stands where the walk went. Assumes nothing.
use mathlib.Core.Path.{◌≡◌, refl, sym, ap, subst, ◌∙◌}
use mathlib.Core.Bool.{true, cond}
use mathlib.Core.List.{List}
use Prim.Native.Nat.{ℕ, ◌+◌, ◌-◌}
use native.Mathlib.Omega.{arith}
use lib.IntN.{ℤ}
use lib.ListN.{length}
use borrow.Author.Rules.{rules}
use denote.Enum.Declared.{tag_of}
use Rattle.format.specs.declared.Head.{Head}
use Rattle.format.specs.Ends.{Within}
use Rattle.format.specs.Reading.{Outcome}
use Rattle.holding.specs.declared.Holding.{Holding}
use Rattle.holding.specs.declared.Outline.{Outline}
use Rattle.holding.specs.Outlines.{whole_of}
use Rattle.holding.specs.Pictures.{sound}
use Rattle.adoption.specs.Adoptions.{made, head_at}
use Rattle.reader.specs.declared.Reading.{Reading}
use Rattle.reader.specs.Readings.{read_at, reading_of, found_at, ending_answer}
use Rattle.reader.proofs.Adopted.{as_reading, made_reads, new_outline, old_outline}
use Rattle.reader.specs.contracts.message.Found.{the_type}
use Rattle.walk.specs.declared.under.Pause.{Pause}
use Rattle.walk.specs.Pausing.{found_in, under_on, pauses_in}
use Rattle.walk.specs.Standing.{Stand, stand_at, stand_from, stand_first, Stands}
use Rattle.walk.proofs.Found.{Halts, refused_halts, answered_stop, mask_found, mask_goes, mask_stop}
use Rattle.walk.proofs.Going.{Gone, gone_nowhere, gone_on, Goes}
use Rattle.walk.proofs.Pausing.{summed, Came, under_comes, stand_there, afresh, adds_up}
use Rattle.walk.proofs.on.Statement.{statement}
use Rattle.walk.proofs.on.Lts.{then-not-adoption, else-not-adoption}
use Rattle.walk.proofs.on.Tie as tie

abbrev invariant-loop-stop : tie.invariant-loop-stop
invariant-loop-stop satellites₀ strips₀ bytes end rows₀ outline₀ tally₀ satellites strips rows outline tally =
    Stands bytes end (stand_at (whole_of outline satellites strips) tally rows)
    × Gone bytes end (stand_at (whole_of outline₀ satellites₀ strips₀) tally₀ rows₀) (stand_at (whole_of outline satellites strips) tally rows)
    × (length rows ≡ length rows₀)

abbrev decreases-loop-stop : tie.decreases-loop-stop
decreases-loop-stop satellites₀ strips₀ bytes end rows₀ outline₀ tally₀ satellites strips rows outline tally = end - tally.place

loop-holds : tie.Need-loop-stop-init invariant-loop-stop decreases-loop-stop
loop-holds c = (c.requires, gone_nowhere _ _ _, refl)

-- where reading under one mask came to
module _ (c : tie.After-under-pause invariant-loop-stop decreases-loop-stop) where
  abbrev l : tie.At-loop-stop invariant-loop-stop decreases-loop-stop
  l = c.before.before

  abbrev s : tie.Start invariant-loop-stop decreases-loop-stop
  s = l.before.before

  abbrev bytes : List ℕ
  bytes = s.args.bytes.now

  abbrev end : ℕ
  end = s.args.end

  abbrev hold : Holding
  hold = whole_of l.loop-stop.outline l.loop-stop.satellites l.loop-stop.strips

  abbrev left : List ℤ
  left = c.under-pause.new.rows

  -- counted from 0
  apart : under_on bytes end (stand_from hold l.loop-stop.tally.place l.loop-stop.rows) ≡ stand_at hold c.under-pause.result.tally left
  unfolding pauses_in
  apart = stand_there bytes end _ (afresh bytes end _ l.loop-stop.invariant.0) _ _ c.under-pause.ensures.0 c.under-pause.ensures.1

  -- and added to what was handed out before
  abbrev here : Stand
  here = summed l.loop-stop.tally (stand_at hold c.under-pause.result.tally left)

  there : under_on bytes end (stand_at hold l.loop-stop.tally l.loop-stop.rows) ≡ here
  there = adds_up bytes end _ ∙ ap (summed l.loop-stop.tally) apart

  came : Came bytes end (stand_at hold l.loop-stop.tally l.loop-stop.rows) here
  came = subst (Came bytes end _) there (under_comes bytes end _ l.loop-stop.invariant.0)

  found : c.under-pause.result.found ≡ found_in bytes end here
  unfolding pauses_in
  found = ap (λ (p : Pause). p.found) c.under-pause.ensures.0 ∙ ap (found_in bytes end) apart

  gone : Gone bytes end (stand_first (whole_of s.args.first s.args.satellites.now s.args.strips.now) s.args.rows.now) here
  gone = gone_on l.loop-stop.invariant.1 came.gone

  firm : sound hold ≡ true
  firm = l.loop-stop.invariant.0.held

  long : length left ≡ length s.args.rows.now
  long = c.under-pause.auto.rows ∙ l.loop-stop.invariant.2

-- the sums are those of the stand there
add-messages : tie.Need-overflow_add-here invariant-loop-stop decreases-loop-stop
add-messages c =
    let stands = (came c.before.before.before).stands in
    omega (arith, stands.few, stands.there, stands.limit)

add-rows : tie.Need-overflow_add-here-in-loop-stop invariant-loop-stop decreases-loop-stop
add-rows c =
    let stands = (came c.before.before.before.before.before).stands in
    omega (arith, stands.few, stands.there, stands.limit, stands.rows)

returns-in-Answered : tie.Need-returns-in-Answered invariant-loop-stop decreases-loop-stop
returns-in-Answered c =
    let u = c.before.before.before.before.before.before in
    let at = sym (found u) ∙ c.in-Answered.is in
    let stop = answered_stop _ _ (here u) (came u).stands c.in-Answered.stop at (subst Halts at (came u).halts) in
    (stop.0 ∙ sym (gone u).walked, stop.1 ∙ sym (gone u).numbers)

-- a mask
module _ (c : tie.In_default invariant-loop-stop decreases-loop-stop) where
  abbrev u : tie.After-under-pause invariant-loop-stop decreases-loop-stop
  u = c.before.before.before.before.before.before

  stands : Stands (bytes u) (end u) (here u)
  stands = (came u).stands

  masked : tag_of the_type (found_at (hold u) (bytes u) (end u) u.under-pause.result.tally.place) ≡ 0
  masked = ap (tag_of the_type) (sym (found u)) ∙ c.in_default.in_default-own.keys2

  abbrev place : ℕ
  place = u.under-pause.result.tally.place + 16

  room : Within (bytes u) (end u) place
  room = record { inside = stands.lent; short = omega (arith, stands.limit); room = (mask_found _ _ (here u) stands masked).room }

  abbrev outcome : Outcome
  outcome = read_at (hold u) (bytes u) (end u) u.under-pause.result.tally.place

overflow_add-place : tie.Need-overflow_add-place invariant-loop-stop decreases-loop-stop
overflow_add-place c = omega (arith, (stands c.before).there, (stands c.before).limit)

module _ (c : tie.After-adopt-adoption invariant-loop-stop decreases-loop-stop) where
  abbrev q : tie.In_default invariant-loop-stop decreases-loop-stop
  q = c.before.before.before.before

  abbrev satellites : List ℕ
  satellites = c.adopt-adoption.new.satellites

  abbrev strips : List ℕ
  strips = c.adopt-adoption.new.strips

  -- what it leaves is what the reading there comes to
  reads : as_reading (head_at (bytes (u q)) (place q)) (made (l (u q)).loop-stop.outline c.adopt-adoption.result satellites strips) ≡ reading_of (hold (u q)) (outcome q)
  reads =
      made_reads (hold (u q)) (firm (u q)) (room q) c.adopt-adoption.ensures
      ∙ sym (ap (reading_of (hold (u q))) (mask_found _ _ (here (u q)) (stands q) (masked q)).adopts)

-- and it is held then
module _ (c : tie.Joined-not-adoption invariant-loop-stop decreases-loop-stop) where
  abbrev d : tie.After-adopt-adoption invariant-loop-stop decreases-loop-stop
  d = c.before.before

  abbrev v : tie.After-under-pause invariant-loop-stop decreases-loop-stop
  v = u (q d)

  abbrev head : Head
  head = head_at (bytes v) (place (q d))

  abbrev r : Reading
  r = record { answer = ending_answer head d.adopt-adoption.result.ending; holding = whole_of c.if-not-adoption.outline (satellites d) (strips d) }

  said : r ≡ reading_of (hold v) (outcome (q d))
  said =
      let a = d.adopt-adoption.result in
      let old = (l v).loop-stop.outline in
      let outline : c.if-not-adoption.outline ≡ cond a.kept old a.outline = elim c.if-not-adoption.branch [
        | then-not-adoption w ↦ new_outline a.kept old a.outline w.if-not-adoption.true (w.outline-is ∙ w.adopt-outline.ensures)
        | else-not-adoption w ↦ old_outline a.kept old a.outline w.if-not-adoption.false w.outline-is
      ] in
      ap (λ (o : Outline). record { answer = ending_answer head a.ending; holding = whole_of o (satellites d) (strips d) })
      outline
      ∙ reads d

returns-in_default-ending : tie.Need-returns-in_default-ending invariant-loop-stop decreases-loop-stop
returns-in_default-ending c =
    let j = c.before.before in
    let stop = mask_stop _ _ (here (v j)) (stands (q (d j))) (masked (q (d j))) (r j) (said j) (refused_halts _ _ c.in_default-ending.in_default-ending-own.keys2) in
    ((λ i. record { stop = c.mask_answer.ensures i; tally = (here (v j)).tally; holding = (r j).holding }) ∙ stop.0 ∙ sym (gone (v j)).walked, stop.1 ∙ sym (gone (v j)).numbers)

module _ (c : tie.In-Behind invariant-loop-stop decreases-loop-stop) where
  abbrev j : tie.Joined-not-adoption invariant-loop-stop decreases-loop-stop
  j = c.before

  goes : Goes (bytes (v j)) (end (v j)) (here (v j))
      (stand_at (r j).holding (record { place = c.in-Behind.next; messages = (here (v j)).tally.messages + 1; rows = (here (v j)).tally.rows }) (left (v j)))
  unfolding ending_answer
  goes =
      mask_goes _ _ (here (v j)) (stands (q (d j))) (masked (q (d j))) (r j) (said j) (head j) c.in-Behind.next 0 (ap (ending_answer (head j)) c.in-Behind.is)

add-mask : tie.Need-overflow_add-tally invariant-loop-stop decreases-loop-stop
add-mask c =
    let stands = (goes c.before).stands in
    omega (arith, stands.few, stands.there, stands.limit)

loop-less : tie.Need-loop-stop-smaller invariant-loop-stop decreases-loop-stop
loop-less c =
    let k = c.before in
    omega (arith, (goes k).past, (goes k).stands.there, (came (v (j k))).gone.forth)

loop-again : tie.Need-loop-stop-preserved invariant-loop-stop decreases-loop-stop
loop-again c =
    let k = c.before in
    let w = v (j k) in
    ((goes k).stands, gone_on (gone w) (goes k).gone, long w)

pub on_spec : {M : Type 1} → statement M
on_spec =
    tie.close
    (tie.spec invariant-loop-stop decreases-loop-stop loop-holds (λ c κs. afresh _ _ _ c.loop-stop.invariant.0) add-messages add-rows (λ c. search rules) (λ c. search rules) returns-in-Answered (λ c. search rules) overflow_add-place
    (λ c κs. let e = c.before.before.before in (room e, firm (u e))) (λ c κs. search rules) (λ c. search rules) (λ c. search rules) (λ c κs. search rules) (λ c. long (v c.before.before)) returns-in_default-ending add-mask loop-less loop-again)
