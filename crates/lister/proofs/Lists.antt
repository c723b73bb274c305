-- A stretch is listed message by message, then its stop: each step gives its part of the walk's text. Assumes nothing.
use mathlib.Core.Path.{◌≡◌, refl, sym, ap, subst, ◌∙◌}
use mathlib.Core.Bool.{true}
use mathlib.Core.List.{List, [], flat_map, flatten, append_assoc}
use Prim.Native.Nat.{ℕ, suc, ◌+◌, ◌*◌, ◌^◌, ◌≤◌, ◌<◌}
use native.Mathlib.Nat.{le_refl, add-zero, add_assoc}
use native.Mathlib.Omega.{arith}
use lib.IntN.{ℤ, pos}
use lib.ListN.{length, replicate, length-replicate}
use Rattle.format.specs.Good.{good, is_holding}
use Rattle.format.specs.Listing.{message_text}
use Rattle.format.specs.Masks.{Held, Lent, lent, held_in}
use Rattle.format.specs.Reading.{stretch_limit, row_room, Outcome, accepted, idle, refused, reading, lent_after, rows_after}
use Rattle.format.specs.Table.{Message, table}
use Rattle.format.specs.Walking.{HandedOut, handed_at, Walk, hand, go_on, walk_on, messages, row_count}
use Rattle.format.proofs.AlikeWalks.{reading_alike, walk_alike}
use Rattle.format.proofs.CutWalks.{over_long}
use Rattle.format.proofs.HeldGood.{held_good, reading_good}
use Rattle.format.proofs.Stops.{Stopped}
use Rattle.format.proofs.Walks.{walk_step, stop_ends}
use Rattle.holding.specs.Pictures.{picture_of, mask_of, sound}
use Rattle.holding.proofs.Pictured.{mask_picture, sound_picture}
use Rattle.holding.proofs.Sounds.{sounds}
use Rattle.reader.specs.Readings.{outcome_at, holding_after}
use Rattle.reader.proofs.Lents.{sound_lent, struct_held}
use Rattle.walk.specs.declared.Tally.{Tally}
use Rattle.lister.specs.declared.State.{State}
use Rattle.lister.specs.declared.Work.TheVariants.{Walking}
use Rattle.lister.specs.Owed.{behind, walk_left, left_text, owed_by, owed}
use Rattle.lister.specs.Steps.{stops_as, lists_as, line_room}
use Rattle.lister.proofs.Lefts.{left_listed, left_alike, counted_next}

-- one more message was listed
left_hand : (tally : Tally) (d : HandedOut) (w : Walk) (k : ℕ) (input : List ℕ)
    → left_listed tally (hand d w) k input
    ≡ behind (message_text d) (left_listed (record { place = d.next; messages = tally.messages + 1; rows = tally.rows + length d.content.rows }) w k input)
unfolding left_listed left_text hand messages row_count flat_map behind
left_hand tally d w k input =
    let one : tally.messages + suc (length w.handed) ≡ tally.messages + 1 + length w.handed = omega arith in
    simp (one, add_assoc, append_assoc)

module _ (s : State) (bits : ℕ) (tally : Tally) (line : List ℕ) (rows : List ℤ) (fine : sound s.holding ≡ true) (limit : bits ≤ stretch_limit)
    (large : line_room ≤ length line) (room : row_room ≤ length rows) where
  abbrev held : Held
  held = mask_of s.holding

  abbrev here : Outcome
  here = outcome_at s.holding line bits tally.place rows

  abbrev zeros : List ℤ
  zeros = replicate row_room (pos 0)

  long : bits ≤ 8 * length line
  long = omega arith

  zeros_room : row_room ≤ length zeros
  zeros_room = rw length-replicate (le_refl row_room)

  -- the reading does not depend on what the row buffer held
  read_there : reading (lent held) line bits tally.place zeros ≡ here
  unfolding outcome_at
  read_there =
      reading_alike table line line bits refl long long (lent held) tally.place zeros rows zeros_room room
      ∙ ap (λ (l : Lent). reading l line bits tally.place rows) (sym (sound_lent s.holding fine))

  good_after : (m : Message) (next : ℕ) → here ≡ accepted m next → good m.after ≡ true
  unfolding lent_after is_holding
  good_after m next e = rw (read_there ∙ e) at (reading_good (lent held) line bits tally.place zeros (sounds s.holding fine).good_held)

  -- a message, and the walk from behind it on
  module _ (m : Message) (next : ℕ) (e : here ≡ accepted m next) where
    goes_left : walk_left held line bits tally.place ≡ hand (handed_at tally.place m next) (walk_on table (lent m.after) line bits next (rows_after (accepted m next) zeros))
    unfolding walk_left go_on
    goes_left = walk_step table (lent held) line bits tally.place zeros ∙ rw (read_there ∙ e)

    goes_owed : (input : List ℕ)
        → let d = lists_as s bits tally (accepted m next) line rows in
        owed_by (Walking bits tally) held s.number line input ≡ behind d.text (owed d.state d.line input)
    unfolding owed_by lists_as left_listed walk_left rows_after
    goes_owed input =
        let after : Tally = record { place = next; messages = tally.messages + 1; rows = tally.rows + length m.content.rows } in
        let alike = walk_alike table line line bits refl long long (lent m.after) next (rows_after (accepted m next) zeros) zeros
        (omega (arith, zeros_room, over_long (flatten m.content.rows) zeros)) zeros_room in
        ap (λ (w : Walk). left_listed tally w s.number input) goes_left
        ∙ left_hand tally (handed_at tally.place m next) _ s.number input
        ∙ ap (behind (message_text (handed_at tally.place m next)))
        (left_alike alike after s.number input
        ∙ ap (λ (h : Held). left_listed after (walk_left h line bits next) s.number input) (sym (mask_picture m.after (good_after m next e))))

  -- a stop, and the lines behind
  module _ (o : Outcome) (e : here ≡ o) (stopped : Stopped o) where
    stop_left : walk_left held line bits tally.place ≡ record { handed = []; stop = o; place = tally.place; rows = zeros }
    unfolding walk_left
    stop_left = stop_ends table (lent held) line bits tally.place zeros o (read_there ∙ e) stopped

    -- what it leaves is a holding
    left_holds : is_holding (lent_after o) ≡ true
    unfolding is_holding
    left_holds =
        subst (λ (x : Outcome). is_holding (lent_after x) ≡ true) (read_there ∙ e) (reading_good (lent held) line bits tally.place zeros (sounds s.holding fine).good_held)

    left_good : good (held_in (lent_after o)) ≡ true
    left_good = held_good (lent_after o) left_holds

    left_picture : holding_after s.holding o ≡ picture_of (held_in (lent_after o))
    left_picture = struct_held s.holding (lent_after o) left_holds

    pub left_sound : sound (holding_after s.holding o) ≡ true
    left_sound = rw left_picture (sound_picture (held_in (lent_after o)) left_good)

    left_mask : mask_of (holding_after s.holding o) ≡ held_in (lent_after o)
    left_mask = rw left_picture (mask_picture (held_in (lent_after o)) left_good)

    stops_owed : s.number + 1 < 2 ^ 64 → (input : List ℕ)
        → let d = stops_as s tally o line rows in
        owed_by (Walking bits tally) held s.number line input ≡ behind d.text (owed d.state d.line input)
    unfolding owed_by stops_as left_listed left_text messages row_count flat_map
    stops_owed few input =
        ap (λ (w : Walk). left_listed tally w s.number input) stop_left
        ∙ rw (add-zero tally.messages, add-zero tally.rows, counted_next s.number few, left_mask)

  lists_as_lem : s.number + 1 < 2 ^ 64 → (input : List ℕ) (o : Outcome) → here ≡ o
      → let d = lists_as s bits tally o line rows in
      owed_by (Walking bits tally) held s.number line input ≡ behind d.text (owed d.state d.line input)
  unfolding lists_as
  lists_as_lem few input (accepted m next) e = goes_owed m next e input
  lists_as_lem few input (idle holding) e = stops_owed (idle holding) e tt few input
  lists_as_lem few input (refused r missing holding) e = stops_owed (refused r missing holding) e tt few input

  pub lists_owed : s.number + 1 < 2 ^ 64 → (input : List ℕ)
      → let d = lists_as s bits tally (outcome_at s.holding line bits tally.place rows) line rows in
      owed_by (Walking bits tally) (mask_of s.holding) s.number line input ≡ behind d.text (owed d.state d.line input)
  lists_owed few input = lists_as_lem few input here refl
