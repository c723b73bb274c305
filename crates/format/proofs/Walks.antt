-- Laws of the walk: what a message takes at the least, that the fuel suffices, how a walk goes on, and where it stops.
-- Assumes nothing.
use mathlib.Core.Path.{◌≡◌, refl, sym, ap, subst, ◌∙◌}
use mathlib.Core.Bool.{Bool, true}
use mathlib.Core.List.{List, []}
use Prim.Native.Nat.{ℕ, zero, suc, ◌+◌, ◌-◌, ◌*◌, ◌≤◌, ◌<◌}
use native.Mathlib.Omega.{arith}
use lib.IntN.{ℤ}
use lib.ListN.{length, length-append, length-drop, length-take}
use lib.Seq.{length-take-le}
use Rattle.bits.proofs.BitLists.{length_spell}
use Rattle.format.specs.declared.Refusal.{Refusal}
use Rattle.format.specs.Good.{is_holding}
use Rattle.format.specs.Masks.{Held, Lent, stray, lent, held_in}
use Rattle.format.specs.Programs.{Program, well, run}
use Rattle.format.specs.Reading.{Outcome, accepted, idle, refused, dropped, bits_from, reading_by, kept_by, lent_after, rows_after}
use Rattle.format.specs.Table.{Message, Kind, table, by_kind, message_by, message}
use Rattle.format.specs.Walking.{handed_at, Walk, hand, go_on, walk_from, walk_on, walk, messages}
use Rattle.format.proofs.HeldGood.{held_good, stays_good, reading_good}
use Rattle.format.proofs.Lengths.{message_enough}
use Rattle.format.proofs.Runs.{taken_le}
use Rattle.format.proofs.Steps.{Gives, gives_so, gives_itself}
use Rattle.format.proofs.Refusals.{stop_holds}
use Rattle.format.proofs.Stops.{reading_ends, stray_refused, Stopped}
use Rattle.format.proofs.Tables.{gives_message}

-- ---- what a message takes at the least

-- a law of the bits that a program took is one of their number
least : {A : Type 0} {p : Program A} (n : ℕ) → Gives p (λ a b. n ≤ length b) → (l : List Bool) (a : A) (taken : ℕ) → run p l ≡ well a taken → n ≤ taken
least {A} {p} n law l a taken e = rw (length-take-le taken l (taken_le p l a taken e)) at (law.gives l a taken e)

-- by any table: its number and its sub type
pub message_takes : (t : ℕ → Kind) (held : Held) (l : List Bool) (m : Message) (taken : ℕ) → run (message_by t held) l ≡ well m taken → 16 ≤ taken
message_takes t held =
    least 16 (gives_message t held λ n _. gives_so (gives_itself (by_kind (t n) held)) λ m b _. simp (length-append, length_spell) (omega arith))

-- by ours 37 bits or more
pub message_least : (held : Held) (l : List Bool) (m : Message) (taken : ℕ) → run (message held) l ≡ well m taken → 37 ≤ taken
message_least held = least 37 (message_enough held)

-- ---- the fuel suffices

-- no more bits than there are up to the end
from_le : (bytes : List ℕ) (end place : ℕ) → length (bits_from bytes end place) ≤ end - place
unfolding bits_from
from_le bytes end place = simp (length-drop, length-take) (omega arith)

module _ (t : ℕ → Kind) (holding : Lent) (bytes : List ℕ) (end place : ℕ) where
  -- a message read at a place ends after it and within the stretch
  pub ends_inside : (m : Message) (taken : ℕ) → run (message_by t (held_in holding)) (bits_from bytes end place) ≡ well m taken → (16 ≤ taken) × (place + taken ≤ end)
  ends_inside m taken e =
      let some = message_takes t (held_in holding) (bits_from bytes end place) m taken e in
      let there = taken_le (message_by t (held_in holding)) (bits_from bytes end place) m taken e in
      (some, omega (arith, from_le bytes end place))

  -- two ways to go on that agree past the place are one
  goes_same : (rows : List ℤ) (f g : Message → ℕ → Walk)
      → ((m : Message) (next : ℕ) → place < next → next ≤ end → f m next ≡ g m next)
      → go_on (reading_by t holding bytes end place rows) place rows f ≡ go_on (reading_by t holding bytes end place rows) place rows g
  unfolding go_on
  goes_same rows f g same =
      reading_ends (λ o. go_on o place rows f ≡ go_on o place rows g) t bytes end place rows holding (λ r missing. refl) refl refl
      (λ m taken e.
      let inside = ends_inside m taken e in
      ap (hand (handed_at place m (place + taken))) (same m (place + taken) (omega arith) inside.1))

-- whatever fuel there is, if it is more than the bits left
fuel_same :
    (t : ℕ → Kind) (fuel more : ℕ) (holding : Lent) (bytes : List ℕ) (end place : ℕ) (rows : List ℤ) → end - place < fuel → end - place < more
    → walk_from t fuel holding bytes end place rows ≡ walk_from t more holding bytes end place rows
unfolding walk_from
fuel_same t zero more holding bytes end place rows little much = absurd (omega arith)
fuel_same t (suc fuel) zero holding bytes end place rows little much = absurd (omega arith)
fuel_same t (suc fuel) (suc more) holding bytes end place rows little much =
    goes_same t holding bytes end place rows _ _
    (λ m next after inside. fuel_same t fuel more (lent m.after) bytes end next (rows_after (accepted m next) rows) (omega arith) (omega arith))

-- more fuel changes nothing
pub fuel_enough :
    (t : ℕ → Kind) (fuel : ℕ) (holding : Lent) (bytes : List ℕ) (end place : ℕ) (rows : List ℤ) → end - place < fuel
    → walk_from t fuel holding bytes end place rows ≡ walk_on t holding bytes end place rows
unfolding walk_on
fuel_enough t fuel holding bytes end place rows enough = fuel_same t fuel (suc (end - place)) holding bytes end place rows enough (omega arith)

-- a reading, then the walk from where it ended
pub walk_step :
    (t : ℕ → Kind) (holding : Lent) (bytes : List ℕ) (end place : ℕ) (rows : List ℤ)
    → walk_on t holding bytes end place rows
    ≡ go_on (reading_by t holding bytes end place rows) place rows (λ m next. walk_on t (lent m.after) bytes end next (rows_after (accepted m next) rows))
unfolding walk_on walk_from
walk_step t holding bytes end place rows =
    goes_same t holding bytes end place rows _ _
    (λ m next after inside. fuel_enough t (end - place) (lent m.after) bytes end next (rows_after (accepted m next) rows) (omega arith))

-- ---- every walk

module _ (t : ℕ → Kind) (bytes : List ℕ) (end : ℕ) where
  -- what holds of each stop, and before a message if after it, holds of every walk
  pub record Law (P : Lent → ℕ → List ℤ → Walk → Type 0) : Type 0 where
    pub stops :
        (holding : Lent) (place : ℕ) (rows : List ℤ) (o : Outcome) → reading_by t holding bytes end place rows ≡ o → Stopped o
        → P holding place rows (record { handed = []; stop = o; place = place; rows = rows })
    pub goes :
        (holding : Lent) (place : ℕ) (rows : List ℤ) (m : Message) (taken : ℕ) (w : Walk)
        → reading_by t holding bytes end place rows ≡ accepted m (place + taken) → run (message_by t (held_in holding)) (bits_from bytes end place) ≡ well m taken
        → P (lent m.after) (place + taken) (rows_after (accepted m (place + taken)) rows) w → P holding place rows (hand (handed_at place m (place + taken)) w)

  module _ (P : Lent → ℕ → List ℤ → Walk → Type 0) (law : Law P) where
    -- by fuel, which each message takes some of
    by_fuel : (fuel : ℕ) (holding : Lent) (place : ℕ) (rows : List ℤ) → end - place < fuel
        → P holding place rows (walk_from t fuel holding bytes end place rows)
    unfolding walk_from go_on
    by_fuel zero holding place rows enough = absurd (omega arith)
    by_fuel (suc fuel) holding place rows enough =
        reading_ends
        (λ o. reading_by t holding bytes end place rows ≡ o
        → P holding place rows (go_on o place rows (λ m next. walk_from t fuel (lent m.after) bytes end next (rows_after (accepted m next) rows))))
        t bytes end place rows holding
        (λ r missing e. law.stops holding place rows (refused r missing holding) e tt)
        (λ e. law.stops holding place rows dropped e tt)
        (λ e. law.stops holding place rows (idle holding) e tt)
        (λ m taken ran e.
        let inside = ends_inside t holding bytes end place m taken ran in
        law.goes holding place rows m taken _ e ran
        (by_fuel fuel (lent m.after) (place + taken) (rows_after (accepted m (place + taken)) rows) (omega arith)))
        refl

    -- so of every walk
    pub every_walk : (holding : Lent) (place : ℕ) (rows : List ℤ) → P holding place rows (walk_on t holding bytes end place rows)
    unfolding walk_on
    every_walk holding place rows = by_fuel (suc (end - place)) holding place rows (omega arith)

-- what a reading says where a walk stops, by what was lent there: a stop
abbrev pub Ends : (ℕ → Kind) → List ℕ → ℕ → Walk → Type 0
Ends t bytes end w = (holding : Lent) × (w.stop ≡ reading_by t holding bytes end w.place w.rows) × Stopped w.stop

-- so every walk ends
all_end : (t : ℕ → Kind) (bytes : List ℕ) (end : ℕ) → Law t bytes end (λ holding place rows w. Ends t bytes end w)
unfolding hand
all_end t bytes end = record {
  stops = λ holding place rows o e stopped. (holding, sym e, stopped);
  goes = λ holding place rows m taken w e ran it. it;
}

-- the stop of a walk is the outcome of a reading
pub walk_stops : (t : ℕ → Kind) (holding : Lent) (bytes : List ℕ) (end place : ℕ) (rows : List ℤ) → Ends t bytes end (walk_on t holding bytes end place rows)
walk_stops t holding bytes end place rows = every_walk t bytes end _ (all_end t bytes end) holding place rows

-- after a stop nothing goes on
goes_nowhere : (o : Outcome) (place : ℕ) (rows : List ℤ) (more : Message → ℕ → Walk) → Stopped o
    → go_on o place rows more ≡ record { handed = []; stop = o; place = place; rows = rows }
unfolding go_on
goes_nowhere (accepted m next) place rows more stopped = absurd stopped
goes_nowhere (idle holding) place rows more stopped = refl
goes_nowhere (refused r missing holding) place rows more stopped = refl

module _ (t : ℕ → Kind) (holding : Lent) (bytes : List ℕ) (end place : ℕ) (rows : List ℤ) where
  -- where the reading at a place is a stop, the walk from there is just that stop there: nothing handed out, the buffer as it was
  pub stop_ends : (o : Outcome) → reading_by t holding bytes end place rows ≡ o → Stopped o
      → walk_on t holding bytes end place rows ≡ record { handed = []; stop = o; place = place; rows = rows }
  stop_ends o e stopped = walk_step t holding bytes end place rows ∙ rw e (goes_nowhere o place rows _ stopped)

  -- and so where it is refused
  pub refusal_ends : (r : Refusal) (missing : ℕ) (kept : Lent) → reading_by t holding bytes end place rows ≡ refused r missing kept
      → walk_on t holding bytes end place rows ≡ record { handed = []; stop = refused r missing kept; place = place; rows = rows }
  refusal_ends r missing kept e = stop_ends (refused r missing kept) e tt

-- ---- places

-- a walk from a place: 37 bits or more for each message, and no stop past the end
abbrev pub Within : ℕ → ℕ → Walk → Type 0
Within end place w = (place + 37 * messages w ≤ w.place) × (place ≤ end → w.place ≤ end)

-- so every walk is
pub all_within : (bytes : List ℕ) (end : ℕ) → Law table bytes end (λ holding place rows w. Within end place w)
unfolding hand messages
all_within bytes end = record {
  stops = λ holding place rows o e stopped. (omega arith, λ h. h);
  goes = λ holding place rows m taken w e ran it.
      let some = message_least (held_in holding) (bits_from bytes end place) m taken ran in
      let inside = ends_inside table holding bytes end place m taken ran in
      (omega (arith, it.0), λ h. it.1 inside.1);
}

module _ (holding : Lent) (bytes : List ℕ) (end : ℕ) (rows : List ℤ) where
  -- where a walk stops
  pub walk_place : (37 * messages (walk holding bytes end rows) ≤ (walk holding bytes end rows).place) × ((walk holding bytes end rows).place ≤ end)
  walk_place =
      let it = every_walk table bytes end _ (all_within bytes end) holding 0 rows in
      (omega (arith, it.0), it.1 (omega arith))

  -- as many messages as have room
  pub few_messages : 37 * messages (walk holding bytes end rows) ≤ end
  few_messages = omega (arith, walk_place.0, walk_place.1)

-- ---- what is held after a walk

-- where no message was handed out, what its stop leaves of what was lent
all_kept : (bytes : List ℕ) (end : ℕ) → Law table bytes end (λ holding place rows w. messages w ≡ 0 → lent_after w.stop ≡ kept_by w.stop holding)
unfolding hand messages
all_kept bytes end = record {
  stops = λ holding place rows o e stopped none. rw e at (stop_holds holding bytes end place rows (rw e stopped));
  goes = λ holding place rows m taken w e ran it none. absurd (omega arith);
}

pub none_kept : (holding : Lent) (bytes : List ℕ) (end : ℕ) (rows : List ℤ) → messages (walk holding bytes end rows) ≡ 0
    → lent_after (walk holding bytes end rows).stop ≡ kept_by (walk holding bytes end rows).stop holding
none_kept holding bytes end rows = every_walk table bytes end _ (all_kept bytes end) holding 0 rows

-- what it leaves is good where what it found was
pub all_good : (bytes : List ℕ) (end : ℕ) → Law table bytes end (λ holding place rows w. is_holding holding ≡ true → is_holding (lent_after w.stop) ≡ true)
unfolding hand messages is_holding held_in
all_good bytes end = record {
  stops = λ holding place rows o e stopped fine. subst (λ (x : Outcome). is_holding (lent_after x) ≡ true) e (reading_good holding bytes end place rows fine);
  goes = λ holding place rows m taken w e ran it fine. it (stays_good (held_in holding) (held_good holding fine) (bits_from bytes end place) m taken ran);
}

pub walk_good : (holding : Lent) (bytes : List ℕ) (end : ℕ) (rows : List ℤ) → is_holding holding ≡ true → is_holding (lent_after (walk holding bytes end rows).stop) ≡ true
walk_good holding bytes end rows = every_walk table bytes end _ (all_good bytes end) holding 0 rows

-- under what is no holding nothing is handed out, and it stays none
pub walk_stray : (bytes : List ℕ) (end : ℕ) (rows : List ℤ) → (messages (walk stray bytes end rows) ≡ 0) × (lent_after (walk stray bytes end rows).stop ≡ stray)
unfolding messages lent_after
walk_stray bytes end rows =
    let it = stray_refused (λ o. Stopped o × (lent_after o ≡ stray)) table bytes end 0 rows (λ r. (tt, refl)) in
    rw (stop_ends table stray bytes end 0 rows _ refl it.0) (refl, it.1)
