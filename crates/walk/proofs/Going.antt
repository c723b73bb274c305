-- How a walk goes from one stand to the next: by an accepted reading; and how it ends: by a stop. Assumes nothing.
use mathlib.Core.Path.{◌≡◌, refl, sym, ap, subst, ◌∙◌}
use mathlib.Core.Bool.{true}
use mathlib.Core.List.{List, [], flatten}
use Prim.Native.Nat.{ℕ, suc, ◌+◌, ◌*◌, ◌≤◌, ◌<◌}
use native.Mathlib.Nat.{le_refl, add-zero, add_assoc}
use native.Mathlib.Omega.{arith}
use lib.IntN.{ℤ}
use lib.ListN.{length}
use borrow.Author.Tests.{le-leb}
use Rattle.format.specs.Ends.{Within}
use Rattle.format.specs.Good.{good, is_holding}
use Rattle.format.specs.Masks.{Lent, lent, held_in}
use Rattle.format.specs.Reading.{stretch_limit, row_room, Outcome, accepted, placed, lent_tests, reading_by, reading, answer_of, lent_after, rows_after}
use Rattle.format.specs.Table.{Message, table}
use Rattle.format.specs.Tests.{verdict}
use Rattle.format.specs.Walking.{HandedOut, handed_at, Walk, hand, go_on, walk_on, messages, row_count}
use Rattle.format.proofs.CutWalks.{over_long}
use Rattle.format.proofs.HeldGood.{reading_good}
use Rattle.format.proofs.Stops.{Stopped, reading_ends}
use Rattle.format.proofs.Walks.{ends_inside, walk_step, stop_ends}
use Rattle.holding.specs.Pictures.{picture_of, mask_of}
use Rattle.holding.proofs.Pictured.{mask_picture, sound_picture}
use Rattle.holding.proofs.Sounds.{sounds}
use Rattle.reader.specs.Readings.{holding_after, outcome_at, read_at}
use Rattle.reader.proofs.RowsRead.{few_rows}
use Rattle.reader.proofs.Lents.{sound_lent, struct_held}
use Rattle.walk.specs.Standing.{Stand, Stands, rest_of, walked_with, walked_from, rows_from}

-- the walk went from one stand to another, and not back: what it answers and leaves is the same from both
pub record Gone (bytes : List ℕ) (end : ℕ) (s t : Stand) : Type 0 where
  pub forth : s.tally.place ≤ t.tally.place
  pub walked : walked_from bytes end s ≡ walked_from bytes end t
  pub numbers : rows_from bytes end s ≡ rows_from bytes end t

pub gone_nowhere : (bytes : List ℕ) (end : ℕ) (s : Stand) → Gone bytes end s s
gone_nowhere bytes end s = record { forth = le_refl s.tally.place; walked = refl; numbers = refl }

pub gone_on : {bytes : List ℕ} {end : ℕ} {s t u : Stand} → Gone bytes end s t → Gone bytes end t u → Gone bytes end s u
gone_on first then = record { forth = omega (arith, first.forth, then.forth); walked = first.walked ∙ then.walked; numbers = first.numbers ∙ then.numbers }

-- ---- an accepted reading

-- where it ends
moves : (holding : Lent) (bytes : List ℕ) (end place : ℕ) (rows : List ℤ) (m : Message) (next : ℕ) → reading holding bytes end place rows ≡ accepted m next
    → (place < next) × (next ≤ end)
moves holding bytes end place rows m next =
    reading_ends (λ o. o ≡ accepted m next → (place < next) × (next ≤ end)) table bytes end place rows holding
    (λ r missing e. absurd (let z : ◌≡◌ {A = ℕ} 0 1 = cc in omega arith))
    (λ e. absurd (let z : ◌≡◌ {A = ℕ} 0 1 = cc in omega arith))
    (λ e. absurd (let z : ◌≡◌ {A = ℕ} 0 1 = cc in omega arith))
    (λ n taken ran e.
    let inside = ends_inside table holding bytes end place n taken ran in
    let same : place + taken ≡ next = cc in
    (omega arith, omega arith))

-- one more message was handed out
counted : (a b : ℕ) (d : HandedOut) (w : Walk) → walked_with a b (hand d w) ≡ walked_with (a + 1) (b + length d.content.rows) w
unfolding walked_with hand messages row_count
counted a b d w =
    let one : a + suc (length w.handed) ≡ a + 1 + length w.handed = omega arith in
    rw (one, ← (add_assoc b (length d.content.rows) (row_count w.handed))) refl

abbrev pub next_stand : Stand → Message → ℕ → Stand
next_stand s m next = record {
  holding = picture_of m.after;
  tally = record { place = next; messages = s.tally.messages + 1; rows = s.tally.rows + length m.content.rows };
  rows = rows_after (accepted m next) s.rows;
}

-- the walk goes on to a stand past the place
pub record Goes (bytes : List ℕ) (end : ℕ) (s t : Stand) : Type 0 where
  pub gone : Gone bytes end s t
  pub stands : Stands bytes end t
  pub past : s.tally.place < t.tally.place

module _ (bytes : List ℕ) (end : ℕ) (s : Stand) (stands : Stands bytes end s) where
  abbrev held : Lent
  held = lent (mask_of s.holding)

  abbrev found : Outcome
  found = read_at s.holding bytes end s.tally.place

  good_held : good (mask_of s.holding) ≡ true
  good_held = (sounds s.holding stands.held).good_held

  pub within : Within bytes end s.tally.place
  within = record { inside = stands.lent; short = omega (arith, stands.limit); room = stands.there }

  -- the reading there tests nothing that was not tested
  there : reading held bytes end s.tally.place s.rows ≡ found
  unfolding reading_by lent_tests verdict placed is_holding held_in
  there =
      rw (le-leb row_room (length s.rows) stands.room, le-leb end stretch_limit stands.limit, le-leb end (8 * length bytes) stands.lent, le-leb s.tally.place end stands.there, good_held)

  -- nor does that of the holding itself
  pub outcome_there : outcome_at s.holding bytes end s.tally.place s.rows ≡ found
  unfolding outcome_at
  outcome_there = rw (sound_lent s.holding stands.held) there

  -- and leaves a holding
  holds : is_holding (lent_after found) ≡ true
  unfolding is_holding
  holds = subst (λ (o : Outcome). is_holding (lent_after o) ≡ true) there (reading_good held bytes end s.tally.place s.rows good_held)

  module _ (m : Message) (next : ℕ) (said : found ≡ accepted m next) where
    abbrev t : Stand
    t = next_stand s m next

    good_after : good m.after ≡ true
    unfolding lent_after is_holding
    good_after = rw said at holds

    rest_next : rest_of bytes end s ≡ hand (handed_at s.tally.place m next) (rest_of bytes end t)
    unfolding rest_of go_on
    rest_next =
        walk_step table held bytes end s.tally.place s.rows
        ∙ ap (λ (o : Outcome). go_on o s.tally.place s.rows (λ n to. walk_on table (lent n.after) bytes end to (rows_after (accepted n to) s.rows))) (there ∙ said)
        ∙ rw (mask_picture m.after good_after)

    next_gone : s.tally.place < next → Gone bytes end s t
    unfolding walked_from rows_from hand
    next_gone past = record {
      forth = omega (arith, past);
      walked = ap (walked_with s.tally.messages s.tally.rows) rest_next ∙ counted s.tally.messages s.tally.rows (handed_at s.tally.place m next) (rest_of bytes end t);
      numbers = ap (λ (w : Walk). w.rows) rest_next;
    }

    next_stands : (s.tally.place < next) → (next ≤ end) → Stands bytes end t
    unfolding rows_after
    next_stands past inside =
        let few = few_rows s.holding stands.held bytes end s.tally.place m next said in
        record {
          held = sound_picture m.after good_after;
          lent = stands.lent;
          limit = stands.limit;
          there = inside;
          room = omega (arith, stands.room, over_long (flatten m.content.rows) s.rows);
          few = omega (arith, stands.few, past);
          rows = omega (arith, stands.rows, few);
        }

    pub next_goes : Goes bytes end s t
    next_goes =
        let after = moves held bytes end s.tally.place s.rows m next (there ∙ said) in
        record { gone = next_gone after.0; stands = next_stands after.0 after.1; past = after.0 }

  -- ---- a stop

  module _ (stopped : Stopped found) where
    rest_stop : rest_of bytes end s ≡ record { handed = []; stop = found; place = s.tally.place; rows = s.rows }
    unfolding rest_of
    rest_stop = stop_ends table held bytes end s.tally.place s.rows found there stopped

    -- what is held is what it leaves
    pub stop_walked : record { stop = answer_of found; tally = s.tally; holding = holding_after s.holding found } ≡ walked_from bytes end s
    unfolding walked_from walked_with messages row_count
    stop_walked = rw (rest_stop, struct_held s.holding (lent_after found) holds, add-zero s.tally.messages, add-zero s.tally.rows)

    pub stop_numbers : s.rows ≡ rows_from bytes end s
    unfolding rows_from
    stop_numbers = sym (ap (λ (w : Walk). w.rows) rest_stop)
