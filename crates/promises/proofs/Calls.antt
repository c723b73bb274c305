-- Single calls of a function that reads, each answering and leaving what the reading at its place says, are the walk: one run of them gives what the walk
-- gives, and no other run gives anything else. For any way in which a holding is passed. Assumes nothing.
use mathlib.Core.Path.{◌≡◌, refl, subst}
use mathlib.Core.Bool.{true, false≢true}
use mathlib.Core.List.{List, []}
use Prim.Native.Nat.{ℕ, ◌+◌}
use lib.IntN.{ℤ}
use lib.ListN.{length}
use Rattle.format.specs.declared.Head.{Head}
use Rattle.format.specs.Answers.{Said, stop, message, said_at}
use Rattle.format.specs.Good.{good, is_holding}
use Rattle.format.specs.Masks.{Held, Lent, lent, held_in}
use Rattle.format.specs.Programs.{well, run}
use Rattle.format.specs.Reading.{Outcome, accepted, idle, refused, bits_from, reading, lent_after, rows_after, answer_of}
use Rattle.format.specs.Table.{Message, table, message_by}
use Rattle.format.specs.Walking.{HandedOut, handed_at, Walk, hand, walk}
use Rattle.format.proofs.HeldGood.{held_good, stays_good}
use Rattle.format.proofs.Stops.{Stopped}
use Rattle.format.proofs.Walks.{Law, every_walk, all_good}
use Rattle.format.proofs.WrittenRead.{took}
use Rattle.host.specs.Handing.{number_said, missing_said, walked_to}
use Rattle.promises.specs.Calls.{Got, answered, gets, Calls, stops, goes, got_by}
use Rattle.promises.proofs.Determined.{alike}
use Rattle.reader.proofs.RowsRead.{Eight, rows_left, message_eight}

-- what is equal in equal answers
stop_parts : {m n p q a b : ℕ} → stop m p a ≡ stop n q b → (m ≡ n) × ((p ≡ q) × (a ≡ b))
stop_parts e = (cc, (cc, cc))

pub message_parts : {h k : Head} {m n p q : ℕ} → message h m p ≡ message k n q → (h ≡ k) × ((m ≡ n) × (p ≡ q))
message_parts e = (cc, (cc, cc))

pub never_both : {h : Head} {m n p q a : ℕ} {A : Type 0} → stop m p a ≡ message h n q → A
never_both e = absurd (false≢true cc)

-- a function that allows no more than another has no more runs of calls
pub calls_so : {H : Type 0} {C D : H → ℕ → List ℤ → Said → H → List ℤ → Type 0} {h : H} {place : ℕ} {rows : List ℤ} {got : Got H}
    → ((h : H) (place : ℕ) (rows : List ℤ) (said : Said) (left : H) (after : List ℤ) → C h place rows said left after → D h place rows said left after)
    → Calls C h place rows got → Calls D h place rows got
calls_so f (stops c) = stops (f _ _ _ _ _ _ c)
calls_so f (goes c cs) = goes (f _ _ _ _ _ _ c) (calls_so f cs)

-- ---- a holding that is passed in some way: what it lends, and what a reading leaves of it

module _ {H : Type 0} (lent_in : H → Lent) (leave : Lent → H → H) where
  -- what is left after a message lends what is held then, and what a later one leaves is as if it had not been
  pub record Passes : Type 0 where
    pub lends : (h : H) (held : Held) → good held ≡ true → lent_in (leave (lent held) h) ≡ lent held
    pub anew : (h : H) (held : Held) (l : Lent) → good held ≡ true → is_holding l ≡ true → leave l (leave (lent held) h) ≡ leave l h

  module _ (bytes : List ℕ) (end : ℕ) where
    abbrev outcome : H → ℕ → List ℤ → Outcome
    outcome h place rows = reading (lent_in h) bytes end place rows

    -- a call that answers and leaves what the reading there says
    pub record Read (h : H) (place : ℕ) (rows : List ℤ) (said : Said) (left : H) (after : List ℤ) : Type 0 where
      pub says : said ≡ said_at place (answer_of (outcome h place rows))
      pub holds : left ≡ leave (lent_after (outcome h place rows)) h
      pub writes : after ≡ rows_after (outcome h place rows) rows

    -- ---- one run of calls gives what the walk gives

    module _ (h : H) (place : ℕ) (rows : List ℤ) where
      -- by its outcome
      read : (o : Outcome) → outcome h place rows ≡ o → Read h place rows (said_at place (answer_of o)) (leave (lent_after o) h) (rows_after o rows)
      read o e = record { says = rw e; holds = rw e; writes = rw e }

      -- a stop
      stops_so : (o : Outcome) → Stopped o → outcome h place rows ≡ o
          → Calls Read h place rows (got_by (record { handed = []; stop = o; place = place; rows = rows }) (leave (lent_after o) h))
      unfolding got_by walked_to number_said missing_said said_at answer_of rows_after
      stops_so (accepted m next) stopped e = absurd stopped
      stops_so (idle l) stopped e = stops (read (idle l) e)
      stops_so (refused r missing l) stopped e = stops (read (refused r missing l) e)

      -- the rows of a message are those that it leaves first in the buffer
      content_back : (m : Message) (next : ℕ) → Eight m.content.rows
          → answered place m.content.head next (length m.content.rows) (rows_after (accepted m next) rows) ≡ handed_at place m next
      unfolding answered
      content_back m next eight =
          let back = rows_left m next rows eight in
          λ i. record { place = place; next = next; content = record { head = m.content.head; rows = back i } }

    module _ (passes : Passes) where
      -- a message, then whatever run gives what the walk from there gives
      goes_so : (h : H) (place : ℕ) (rows : List ℤ) (m : Message) (taken : ℕ) (w : Walk) → outcome h place rows ≡ accepted m (place + taken)
          → run (message_by table (held_in (lent_in h))) (bits_from bytes end place) ≡ well m taken → (good m.after ≡ true → is_holding (lent_after w.stop) ≡ true)
          → ((k : H) → lent_in k ≡ lent m.after
          → Calls Read k (place + taken) (rows_after (accepted m (place + taken)) rows) (got_by w (leave (lent_after w.stop) k)))
          → Calls Read h place rows (got_by (hand (handed_at place m (place + taken)) w) (leave (lent_after w.stop) h))
      unfolding got_by gets hand walked_to said_at answer_of lent_after
      goes_so h place rows m taken w e ran stays it =
          let next = place + taken in
          let fine = stays_good (held_in (lent_in h)) (held_good (lent_in h) (took (lent_in h) bytes end place rows m next e).held) (bits_from bytes end place) m taken ran in
          let left : H = leave (lent m.after) h in
          let anew : leave (lent_after w.stop) left ≡ leave (lent_after w.stop) h = passes.anew h m.after (lent_after w.stop) fine (stays fine) in
          let rest = rw anew at (it left (passes.lends h m.after fine)) in
          subst (λ (d : HandedOut). Calls Read h place rows (gets d (got_by w (leave (lent_after w.stop) h))))
          (content_back h place rows m next ((message_eight (held_in (lent_in h))).gives (bits_from bytes end place) m taken ran))
          (goes (read h place rows (accepted m next) e) rest)

      -- so for every walk, which leaves a holding where it found one
      every : Law table bytes end (λ l place rows w. (is_holding l ≡ true → is_holding (lent_after w.stop) ≡ true)
          × ((h : H) → lent_in h ≡ l → Calls Read h place rows (got_by w (leave (lent_after w.stop) h))))
      unfolding hand is_holding
      every = record {
        stops = λ l place rows o e stopped. ((all_good bytes end).stops l place rows o e stopped, λ h same. stops_so h place rows o stopped (rw same e));
        goes = λ l place rows m taken w e ran it.
            ((all_good bytes end).goes l place rows m taken w e ran it.0, λ h same. goes_so h place rows m taken w (rw same e) (rw same ran) it.0 it.1);
      }

      pub reads_end : (h : H) (rows : List ℤ) → let w = walk (lent_in h) bytes end rows in Calls Read h 0 rows (got_by w (leave (lent_after w.stop) h))
      reads_end h rows = (every_walk table bytes end _ every (lent_in h) 0 rows).1 h refl

    -- ---- and no two runs give different things

    -- the same calls of equal things
    moved : {h k : H} {p q : ℕ} {a b : List ℤ} {got : Got H} → h ≡ k → p ≡ q → a ≡ b → Calls Read k q b got → Calls Read h p a got
    moved e f g cs = rw (e, f, g) cs

    same_calls : {h : H} {place : ℕ} {rows : List ℤ} {a b : Got H} → Calls Read h place rows a → Calls Read h place rows b → a ≡ b
    same_calls (stops c) (stops d) =
        let said = stop_parts (alike c.says d.says) in
        λ i. record { handed = []; number = said.0 i; place = said.1.0 i; missing = said.1.1 i; holding = alike c.holds d.holds i; rows = alike c.writes d.writes i }
    same_calls (stops c) (goes d ds) = never_both (alike c.says d.says)
    same_calls (goes c cs) (stops d) = never_both (alike d.says c.says)
    same_calls (goes {place = place} c cs) (goes d ds) =
        let said = message_parts (alike c.says d.says) in
        let rows = alike c.writes d.writes in
        let rest = same_calls cs (moved (alike c.holds d.holds) said.1.0 rows ds) in
        λ i. gets (answered place (said.0 i) (said.1.0 i) (said.1.1 i) (rows i)) (rest i)

    pub reads_walk : Passes → (h : H) (rows : List ℤ) {got : Got H} → Calls Read h 0 rows got
        → let w = walk (lent_in h) bytes end rows in got ≡ got_by w (leave (lent_after w.stop) h)
    reads_walk passes h rows calls = same_calls calls (reads_end passes h rows)
