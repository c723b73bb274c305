-- `putting::marks::marked` meets its contract. The loop's invariant: the satellites of the slots that are left come to the same from here. Assumes nothing.
use Rattle.bits.proofs.Words.{◌≡◌, refl, sym, ap, ◌∙◌, ◌-◌, ◌*◌, add-one, arith, rules, length, take}
use lib.Seq.{length-take-le}
use Rattle.body.proofs.Slots.{from_slot, Slot, slot_at, no_slot}
use Rattle.holding.specs.Held.{slot_satellites}
use Rattle.putting.specs.declared.marks.Told.{Told}
use Rattle.putting.specs.Marking.{owns_of, marked_by, told_after}
use Rattle.putting.proofs.Marking.{Telling, telling_begin, telling_slot, telling_call, telling_end}
use Rattle.putting.proofs.MarkWords.{owns_count, told_marked, rows_counted}
use Rattle.putting.proofs.marks.marked.Statement.{statement}
use Rattle.putting.proofs.marks.marked.Tie as tie

abbrev invariant-loop-i : tie.invariant-loop-i
invariant-loop-i ids masks strips cells rows count end counted told₀ i₀ told i =
    let sats = slot_satellites ids masks in
    Telling counted cells strips (told_after counted (owns_of cells strips sats) sats told₀) (from_slot ids masks i) told

abbrev decreases-loop-i : tie.decreases-loop-i
decreases-loop-i ids masks strips cells rows count end counted told₀ i₀ told i = length ids - i

-- the rows counted are whole
long : (c : tie.Start invariant-loop-i decreases-loop-i) → length (take (8 * c.args.count) c.args.rows.now) ≡ 8 * c.args.count
long c = length-take-le (8 * c.args.count) c.args.rows.now c.requires.3

slot : (c : tie.In-loop-i invariant-loop-i decreases-loop-i)
    → let s = c.before.before.before.before.before in Slot s.args.ids.now s.args.masks.now c.loop-i.i
slot c =
    let s = c.before.before.before.before.before in
    slot_at s.args.ids.now s.args.masks.now c.loop-i.i s.requires.0.masked s.requires.0.thin c.loop-i-test.true

-- those of the slot are covered
called : tie.Need-slot-told-requires invariant-loop-i decreases-loop-i
called c κs =
    let p = c.before.before in
    let l = p.loop-i in
    (l.invariant.tells, telling_slot l.invariant _ _ (slot p).both)

loop-holds : tie.Need-loop-i-init invariant-loop-i decreases-loop-i
loop-holds c =
    let s = c.before.before.before in
    telling_begin s.args.cells (slot_satellites s.args.ids.now s.args.masks.now)
    (record { whole = omega (arith, long s); place = refl; small = omega arith; room = omega arith }) refl s.requires.1 s.requires.2

loop-again : tie.Need-loop-i-preserved invariant-loop-i decreases-loop-i
loop-again c =
    let p = c.before.before.before in
    let l = p.loop-i in
    rw (add-one l.i, c.slot-told.ensures) (telling_call l.invariant _ _ (slot p).both)

returns : tie.Need-returns invariant-loop-i decreases-loop-i
returns c =
    let s = c.before.before.before.before.before in
    let x = s.args in
    let l = c.loop-i in
    let sats = slot_satellites x.ids.now x.masks.now in
    let owns = owns_of x.cells x.strips.now sats in
    ap (λ (t : Told). record { word = t.word; told = t.at }) (telling_end l.invariant (no_slot x.ids.now x.masks.now l.i c.loop-i-test.false))
    ∙ told_marked (take (8 * x.count) x.rows.now) owns sats x.count (owns_count x.cells x.strips.now sats s.requires.2) s.requires.1 (long s)
    ∙ ap (marked_by owns sats) (rows_counted x.count x.rows.now s.requires.3)

pub marked_spec : {M : Type 1} → statement M
marked_spec =
    tie.close
    (tie.spec invariant-loop-i decreases-loop-i (λ c. omega arith) (λ c. sym (long c.before.before.before)) loop-holds (λ c. search rules) (λ c. search rules)
    (λ c. (slot c.before.before).inside) (λ c. search rules) called (λ c. omega arith) (λ c. omega arith) loop-again returns)
