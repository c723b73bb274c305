-- Nothing after a refusal is read, and masks adopted before it stay, but for one that changed: the walk over the stretch cut where a walk stopped says the same
-- and is idle there, holding what the stop left; or what it dropped.
-- Assumes nothing.
use mathlib.Core.Path.{◌≡◌, refl, sym, ap, ◌∙◌}
use mathlib.Core.Bool.{Bool, true, false, cond, false≢true}
use mathlib.Core.List.{List, [], ◌++◌, flatten}
use Prim.Native.Nat.{ℕ, ◌+◌, ◌≤◌}
use native.Mathlib.Nat.{le_refl}
use native.Mathlib.Omega.{arith}
use lib.Dec.{leb}
use lib.IntN.{ℤ}
use lib.ListN.{length, take, drop, take-append-drop, length-append, length-drop, length-take, drop_of_length-le}
use borrow.Author.Tests.{le-leb}
use Rattle.bits.specs.BitLists.{spell, bits}
use Rattle.format.specs.Assigned.{blank}
use Rattle.format.specs.Good.{good, is_holding}
use Rattle.format.specs.Masks.{Held, Lent, stray, lent, held_in}
use Rattle.format.specs.Programs.{well, run}
use Rattle.format.specs.Reading.{row_room, Outcome, accepted, idle, refused, ended_at, lent_tests, read_from, bits_from, placed, reading_by, reading, kept_by, lent_after, over, rows_after}
use Rattle.format.specs.Steady.{steady}
use Rattle.format.specs.Table.{Message, Kind, table, by_kind, message_by, message}
use Rattle.format.specs.Tests.{verdict}
use Rattle.format.specs.Walking.{handed_at, Walk, hand, go_on, walk_on, walk}
use Rattle.format.proofs.HeldGood.{stays_good}
use Rattle.format.proofs.Placed.{Inside, inside, is_placed, length_from, take_from}
use Rattle.format.proofs.Refusals.{stop_holds}
use Rattle.format.proofs.Runs.{run_agree}
use Rattle.format.proofs.Steps.{Gives, gives_so, gives_itself}
use Rattle.format.proofs.Stops.{Stopped, read_so}
use Rattle.format.proofs.Tables.{gives_message}
use Rattle.format.proofs.Verdicts.{AllHold, all_hold}
use Rattle.format.proofs.Walks.{ends_inside, walk_step, stop_ends, Law, every_walk, Within, all_within}

-- the bits of a message are not blank: they begin with 4073, whose first bit is one
pub message_bits : (t : ℕ → Kind) (held : Held) (l : List Bool) (m : Message) (taken : ℕ) → run (message_by t held) l ≡ well m taken → blank l ≡ false
unfolding blank spell
message_bits t held l m taken e =
    let begun : Gives (message_by t held) (λ m b. (more : List Bool) → blank (b ++ more) ≡ false) =
    gives_message t held λ n _. gives_so (gives_itself (by_kind (t n) held)) λ m b _ more. refl in
    rw take-append-drop at (begun.gives l m taken e (drop taken l))

-- ---- in a stretch

-- a reading accepts in a stretch only
accepts_placed : (t : ℕ → Kind) (holding : Lent) (bytes : List ℕ) (end start : ℕ) (rows : List ℤ) (m : Message) (next : ℕ)
    → reading_by t holding bytes end start rows ≡ accepted m next → Inside bytes end start
unfolding reading_by lent_tests AllHold
accepts_placed t holding bytes end start rows m next e = inside bytes end start (all_hold (λ r. refused r 0 holding) _ (accepted m next) _ (λ r f. false≢true cc) e).1.1.0

-- and only what may follow what is held
pub accepts_steady : (t : ℕ → Kind) (holding : Lent) (bytes : List ℕ) (end start : ℕ) (rows : List ℤ) (m : Message) (next : ℕ)
    → reading_by t holding bytes end start rows ≡ accepted m next → steady (held_in holding) m.after ≡ true
unfolding reading_by lent_tests read_from
accepts_steady t holding bytes end start rows m next e =
    go (blank (bits_from bytes end start)) (all_hold (λ r. refused r 0 holding) _ (accepted m next) _ (λ r f. false≢true cc) e).0
  where
    go : (b : Bool) → cond b (idle (lent (held_in holding))) (ended_at (held_in holding) start (run (message_by t (held_in holding)) (bits_from bytes end start))) ≡ accepted m next
        → steady (held_in holding) m.after ≡ true
    go true e = absurd (false≢true cc)
    go false e = (read_so (held_in holding) start (run (message_by t (held_in holding)) (bits_from bytes end start)) m next e).stays

-- ---- the same reading in a shorter stretch

-- no bits are left at the end
none_left : (bytes : List ℕ) (end : ℕ) → bits_from bytes end end ≡ []
unfolding bits_from
none_left bytes end = drop_of_length-le (take end (bits bytes)) {i = end} (simp length-take (omega arith))

module _ (t : ℕ → Kind) (held : Held) (fine : good held ≡ true) (bytes : List ℕ) (start : ℕ) (rows : List ℤ) (room : row_room ≤ length rows) where
  -- in a stretch a reading is what its bits say
  pub reads_from : (end : ℕ) → Inside bytes end start → reading_by t (lent held) bytes end start rows ≡ read_from t held start (bits_from bytes end start)
  unfolding reading_by lent_tests verdict is_holding held_in
  reads_from end f = rw (le-leb _ _ room, is_placed bytes end start f, fine)

  -- it is idle at the end
  idle_there : Inside bytes start start → reading_by t (lent held) bytes start start rows ≡ idle (lent held)
  unfolding read_from blank
  idle_there f = reads_from start f ∙ rw none_left

  -- a message that the cut leaves whole is read as before
  reads_cut : (end cut : ℕ) (m : Message) (taken : ℕ) → Inside bytes end start → run (message_by t held) (bits_from bytes end start) ≡ well m taken
      → steady held m.after ≡ true → start + taken ≤ cut → cut ≤ end → reading_by t (lent held) bytes cut start rows ≡ accepted m (start + taken)
  unfolding read_from ended_at
  reads_cut end cut m taken f ran stays whole order =
      let g : Inside bytes cut start = record { limit = omega arith; lent = omega arith; there = omega arith } in
      let same = take_from bytes end f.lent start taken (omega arith) ∙ sym (take_from bytes cut g.lent start taken whole) in
      let again = run_agree (message_by t held) (bits_from bytes end start) (bits_from bytes cut start) m taken ran same
      (rw (length_from bytes cut g.lent start) (omega arith)) in
      reads_from cut g ∙ rw (message_bits t held (bits_from bytes cut start) m taken again, again, stays)

-- ---- the cut walk

-- rows never make the row buffer shorter
pub over_long : (new old : List ℤ) → length old ≤ length (over new old)
unfolding over
over_long new old = simp (length-append, length-drop) (omega arith)

-- The walk v over the stretch cut where the walk w stopped hands out the same, leaves the same rows, and is idle there; what it holds is what w's stop leaves,
-- or what that dropped, where it is 13 (document 02, Ask 2).
pub record Before (v w : Walk) : Type 0 where
  pub held : Lent
  pub same : v ≡ record { handed = w.handed; stop = idle held; place = w.place; rows = w.rows }
  pub left : lent_after w.stop ≡ kept_by w.stop held

abbrev Cut : List ℕ → Lent → ℕ → List ℤ → Walk → Type 0
Cut bytes holding place rows w =
    is_holding holding ≡ true → row_room ≤ length rows → Inside bytes place place → Before (walk_on table holding bytes w.place place rows) w

-- so at a stop
cut_stops :
    (bytes : List ℕ) (end : ℕ) (holding : Lent) (place : ℕ) (rows : List ℤ) (o : Outcome) → reading holding bytes end place rows ≡ o → Stopped o
    → Cut bytes holding place rows (record { handed = []; stop = o; place = place; rows = rows })
unfolding is_holding
cut_stops bytes end stray place rows o e stopped fine room f = absurd (false≢true fine)
cut_stops bytes end (lent held) place rows o e stopped fine room f =
    record {
      held = lent held;
      same = stop_ends table (lent held) bytes place place rows (idle (lent held)) (idle_there table held fine bytes place rows room f) tt;
      left = rw e at (stop_holds (lent held) bytes end place rows (rw e stopped));
    }

-- so before a message, if so after it
cut_goes :
    (bytes : List ℕ) (end : ℕ) (holding : Lent) (place : ℕ) (rows : List ℤ) (m : Message) (taken : ℕ) (w : Walk)
    → reading holding bytes end place rows ≡ accepted m (place + taken) → run (message (held_in holding)) (bits_from bytes end place) ≡ well m taken
    → Within end (place + taken) w → Cut bytes (lent m.after) (place + taken) (rows_after (accepted m (place + taken)) rows) w
    → Cut bytes holding place rows (hand (handed_at place m (place + taken)) w)
unfolding hand go_on rows_after is_holding held_in
cut_goes bytes end stray place rows m taken w e ran within more fine room f = absurd (false≢true fine)
cut_goes bytes end (lent held) place rows m taken w e ran within more fine room f =
    let g = accepts_placed table (lent held) bytes end place rows m (place + taken) e in
    let inside = ends_inside table (lent held) bytes end place m taken ran in
    let there : Inside bytes (place + taken) (place + taken) = record { limit = omega arith; lent = omega arith; there = le_refl (place + taken) } in
    let stays = accepts_steady table (lent held) bytes end place rows m (place + taken) e in
    let again = reads_cut table held fine bytes place rows room end w.place m taken g ran stays (omega (arith, within.0)) (within.1 inside.1) in
    let rest = more (stays_good held fine (bits_from bytes end place) m taken ran) (omega (arith, over_long (flatten m.content.rows) rows)) there in
    record {
      held = rest.held;
      same = walk_step table (lent held) bytes w.place place rows ∙ rw again (ap (hand (handed_at place m (place + taken))) rest.same);
      left = rest.left;
    }

-- so every walk
all_cut : (bytes : List ℕ) (end : ℕ) → Law table bytes end (λ holding place rows w. Within end place w × Cut bytes holding place rows w)
all_cut bytes end = record {
  stops = λ holding place rows o e stopped. ((all_within bytes end).stops holding place rows o e stopped, cut_stops bytes end holding place rows o e stopped);
  goes = λ holding place rows m taken w e ran it.
      ((all_within bytes end).goes holding place rows m taken w e ran it.0, cut_goes bytes end holding place rows m taken w e ran it.0 it.1);
}

-- nothing after the stop was read, and what was adopted before it stays, but for what 13 drops
pub walk_before :
    (holding : Lent) (bytes : List ℕ) (end : ℕ) (rows : List ℤ) → is_holding holding ≡ true → row_room ≤ length rows
    → let w = walk holding bytes end rows in Before (walk holding bytes w.place rows) w
walk_before holding bytes end rows fine room =
    let f : Inside bytes 0 0 = record { limit = omega arith; lent = omega arith; there = omega arith } in
    (every_walk table bytes end _ (all_cut bytes end) holding 0 rows).1 fine room f
