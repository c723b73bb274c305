use Rattle.std.proofs.Common.{◌≡◌, ◌+◌, ◌<◌, ◌≤◌, List, ℕ, refl, sym, arith, length, drop}
use Rattle.std.specs.Int.Count.{ones}
use Rattle.format.specs.Saved.{system_text, line_of}
use Rattle.holding.specs.declared.Holding.{Holding}
use Rattle.holding.specs.Outlines.{whole_of}
use Rattle.holding.specs.Pictures.{mask_of}
use Rattle.text.proofs.Stores.{wrote, wrote_first}
use Rattle.saved.specs.Lines.{line_front, text_from}
use Rattle.saved.specs.Slots.{system_in, systems_from}
use Rattle.saved.proofs.Compared.{lengths_differ, line_left, Piece, piece, piece_long, piece_room, piece_stands, piece_differs, behind, one_piece, one_compared, last_room, last_same}
use Rattle.saved.proofs.HeldTexts.{line_pieces}
use Rattle.saved.proofs.Longest.{piece_most, front_most, line_most}
use Rattle.saved.proofs.SlotsLeft.{all_slots, few_slots, strips_there, read_low, read_few}
use Rattle.saved.proofs.line.is_own.Goals as goal
use Rattle.saved.proofs.line.is_own.Goals.{After-front_text-place, After-slot_in-slot, After-system-long}

pub returns-then-line-line_long : goal.returns-then-line-line_long
returns-then-line-line_long c = sym (lengths_differ _ _ (λ e. omega (arith, c.line_long.ensures c.args.strips.now c.requires, c.if-line-line_long.true)))

pub front_text-place-requires : goal.front_text-place-requires
front_text-place-requires c = omega (arith, front_most (whole_of c.args.outline c.args.satellites.now c.args.strips.now) c.requires)

-- ---- what comes before the systems

module _ (c : After-front_text-place) where
  abbrev whole : Holding
  whole = whole_of c.args.outline c.args.satellites.now c.args.strips.now

  abbrev own : List ℕ
  own = line_of (mask_of whole)

  long : length own ≡ length c.args.line.now
  long = omega (arith, c.line_long.ensures c.args.strips.now c.requires, c.if-line-line_long.false)

  few : length (line_front c.args.outline) ≤ 182
  few = omega (arith, front_most whole c.requires)

  front : Piece own c.args.line.now 0 (text_from (systems_from whole 0 0)) c.front_text-place.new.line c.front_text-place.result
  front = piece (line_left own c.args.line.now long) (line_pieces whole c.requires) (wrote_first _ (line_front c.args.outline) (c.front_text-place.ensures.value, c.front_text-place.ensures.line_after)) few

pub slice_bounds-piece-end : goal.slice_bounds-piece-end
slice_bounds-piece-end c = let f = c.front_text-place in omega (arith, f.ensures.value, f.auto.line, few (goal.at.slice_bounds-piece-end c).After-front_text-place)

pub slice_bounds-stands-end : goal.slice_bounds-stands-end
slice_bounds-stands-end c = piece_long (front (goal.at.slice_bounds-stands-end c).After-front_text-place)

pub stands-requires : goal.stands-requires
stands-requires c = piece_room (front (goal.at.stands-requires c).After-front_text-place)

pub returns-then-not-stands : goal.returns-then-not-stands
returns-then-not-stands c = sym (piece_differs (front (goal.at.returns-then-not-stands c).After-front_text-place) c.stands.ensures c.if-not-stands.true)

pub loop-i-init : goal.loop-i-init
loop-i-init c =
    let f = (goal.at.loop-i-init c).After-front_text-place in
    record {
      compared = record { slots = all_slots (whole f) c.requires; text = piece_stands (front f) c.stands.ensures c.if-not-stands.false (omega arith) };
      room = omega (arith, c.front_text-place.auto.line);
    }

-- ---- one system more

pub slot_in-slot-requires : goal.slot_in-slot-requires
slot_in-slot-requires c = omega (arith, few_slots c.loop-i.invariant.compared.slots)

module _ (c : After-slot_in-slot) where
  abbrev text : List ℕ
  text = system_text (system_in c.slot_in-slot.result (drop c.loop-i.from c.args.strips.now))

  more : c.loop-i.i < c.args.outline.count
  more = omega arith

  satellites_few : c.loop-i.from + ones c.slot_in-slot.result.satellites ≤ 64
  satellites_few = read_few c.loop-i.invariant.compared.slots more c.slot_in-slot.ensures

  text_few : length text ≤ length c.loop-i.piece
  text_few = omega (arith, piece_most c.loop-i.invariant.compared.slots more c.slot_in-slot.ensures, c.loop-i.invariant.room)

pub system-long-requires : goal.system-long-requires
system-long-requires c =
    let l = c.loop-i.invariant.compared.slots in
    let s = (goal.at.system-long-requires c).After-slot_in-slot in
    (read_low l (more s) c.slot_in-slot.ensures, omega (arith, satellites_few s, strips_there l), omega (arith, text_few s))

module _ (c : After-system-long) (more : c.loop-i.i < c.args.outline.count) where
  abbrev written : List ℕ
  written = system_text (system_in c.slot_in-slot.result (drop c.loop-i.from c.args.strips.now))

  next : length written ≤ length c.loop-i.piece → Piece (line_of (mask_of (whole_of c.args.outline c.args.satellites.now c.args.strips.now))) c.args.line.now c.loop-i.place (behind c.loop-i.invariant.compared more c.slot_in-slot.ensures) c.system-long.new.line c.system-long.result
  next few = one_piece c.loop-i.invariant.compared more c.slot_in-slot.ensures (wrote c.loop-i.piece written (c.system-long.ensures.value, c.system-long.ensures.line_after)) few

pub slice_bounds-piece-end-in-loop-i : goal.slice_bounds-piece-end-in-loop-i
slice_bounds-piece-end-in-loop-i c =
    let y = c.system-long in
    omega (arith, y.ensures.value, y.auto.line, text_few (goal.at.slice_bounds-piece-end-in-loop-i c).After-slot_in-slot)

pub slice_bounds-stands-end-in-loop-i : goal.slice_bounds-stands-end-in-loop-i
slice_bounds-stands-end-in-loop-i c = piece_long (next (goal.at.slice_bounds-stands-end-in-loop-i c).After-system-long (omega arith) (text_few (goal.at.slice_bounds-stands-end-in-loop-i c).After-slot_in-slot))

pub stands-requires-in-loop-i : goal.stands-requires-in-loop-i
stands-requires-in-loop-i c = piece_room (next (goal.at.stands-requires-in-loop-i c).After-system-long (omega arith) (text_few (goal.at.stands-requires-in-loop-i c).After-slot_in-slot))

pub returns-then-not-stands-2 : goal.returns-then-not-stands-2
returns-then-not-stands-2 c = sym (piece_differs (next (goal.at.returns-then-not-stands-2 c).After-system-long (omega arith) (text_few (goal.at.returns-then-not-stands-2 c).After-slot_in-slot)) c.stands-in-loop-i.ensures c.if-not-stands-2.true)

pub overflow_add-place : goal.overflow_add-place
overflow_add-place c =
    let y = next (goal.at.overflow_add-place c).After-system-long (omega arith) (text_few (goal.at.overflow_add-place c).After-slot_in-slot) in
    omega (arith, piece_long y, piece_room y, y.left.long, line_most (whole_of c.args.outline c.args.satellites.now c.args.strips.now) c.requires)

pub overflow_add-from : goal.overflow_add-from
overflow_add-from c = omega (arith, c.count-from.ensures, satellites_few (goal.at.overflow_add-from c).After-slot_in-slot)

pub loop-i-preserved : goal.loop-i-preserved
loop-i-preserved c =
    let at = goal.at.loop-i-preserved c in
    let after = piece_stands (next at.After-system-long (omega arith) (text_few at.After-slot_in-slot)) c.stands-in-loop-i.ensures c.if-not-stands-2.false refl in
    record {
      compared = one_compared c.loop-i.invariant.compared (omega arith) c.slot_in-slot.ensures after c.count-from.ensures;
      room = omega (arith, c.system-long.auto.line, c.loop-i.invariant.room);
    }

-- ---- the line feed

pub bounds-line-place : goal.bounds-line-place
bounds-line-place c = last_room c.loop-i.invariant.compared (omega arith)

pub returns : goal.returns
returns c = sym (last_same c.loop-i.invariant.compared (omega arith))
