-- How many bits were missing (document 02, Ask 7): what `read`, `walk`, `hundurzek_read` and `hundurzek_walk` say of it, by their contracts, is what is missing of
-- the field at which the message is short. Assumes nothing.
use mathlib.Core.Path.{◌≡◌, refl, sym, ap, subst}
use mathlib.Core.List.{List}
use mathlib.Core.Logic.{inl, inr}
use Prim.Native.Nat.{ℕ}
use native.Mathlib.Omega.{arith}
use lib.IntN.{ℤ}
use Rattle.format.specs.declared.Refusal.{Refusal}
use Rattle.format.specs.declared.Refusal.TheVariants.{Short}
use Rattle.format.specs.Answers.{Said, stop, said_at, number_of}
use Rattle.format.specs.Masks.{Held, Lent, held_in}
use Rattle.format.specs.Missing.{Lacks, Reason}
use Rattle.format.specs.Reading.{Outcome, accepted, idle, refused, bits_from, reading, answer_of, lent_after}
use Rattle.format.specs.Table.{table, message}
use Rattle.format.specs.Walking.{walk}
use Rattle.format.proofs.Refusals.{reading_reason}
use Rattle.format.proofs.ShortReadings.{reading_short, walk_reason, walk_short}
use Rattle.format.proofs.Stops.{Stopped, said_stopped}
use Rattle.format.proofs.Walks.{walk_stops}
use Rattle.holding.specs.declared.Holding.{Holding}
use Rattle.holding.specs.Pictures.{lent_by}
use Rattle.host.specs.declared.Walked.{Walked}
use Rattle.host.specs.Handing.{number_said, missing_said, host_walk, walked_to}
use Rattle.promises.specs.Calls.{CodeCall, CodeWalk, HostCall, HostWalk}
use Rattle.promises.specs.LateJoiners.{held_after}
use Rattle.promises.specs.Missing.{Tells}
use Rattle.promises.proofs.CallsOfRead.{code_reads, host_reads_lem, lent_in}
use Rattle.walk.specs.declared.Halt.{Halt}
use Rattle.walk.specs.Walks.{walk_at, walked_of}

-- ---- of a stop

-- what it tells, by what is known of its refusals
told : (held : Held) (bytes : List ℕ) (end place : ℕ) (o : Outcome) → Stopped o → ((r : Refusal) (missing : ℕ) (l : Lent) → o ≡ refused r missing l → Reason r missing)
    → ((missing : ℕ) (l : Lent) → o ≡ refused Short missing l → Lacks (message held) (bits_from bytes end place) missing)
    → Tells held bytes end place (number_said (said_at place (answer_of o))) (missing_said (said_at place (answer_of o)))
unfolding number_said missing_said said_at answer_of number_of
told held bytes end place (accepted m next) stopped why short = absurd stopped
told held bytes end place (idle l) stopped why short = inr ((λ z. omega arith), refl)
told held bytes end place (refused r missing l) stopped why short = go (why r missing l refl)
  where
    go : Reason r missing → Tells held bytes end place (number_of r) missing
    go (inl it) = inl (ap number_of it.0, short missing l (ap (λ (q : Refusal). refused q missing l) it.0))
    go (inr other) = inr other

-- ---- of the reading at a place

stop_told : (holding : Lent) (bytes : List ℕ) (end place : ℕ) (rows : List ℤ) (number at missing : ℕ) → stop number at missing ≡ said_at place (answer_of (reading holding bytes end place rows))
    → Tells (held_in holding) bytes end place number missing
unfolding number_said missing_said
stop_told holding bytes end place rows number at missing said =
    subst (λ (s : Said). Tells (held_in holding) bytes end place (number_said s) (missing_said s)) (sym said)
    (told (held_in holding) bytes end place (reading holding bytes end place rows) (said_stopped place _ (sym said)) (reading_reason holding bytes end place rows) (reading_short holding bytes end place rows))

pub read_missing : (bytes : List ℕ) (end : ℕ) (h : Holding) (place : ℕ) (rows : List ℤ) (number at missing : ℕ) (left : Holding) (after : List ℤ)
    → CodeCall bytes end h place rows (stop number at missing) left after → Tells (held_in (lent_by h)) bytes end place number missing
read_missing bytes end h place rows number at missing left after c =
    stop_told (lent_by h) bytes end place rows number at missing (code_reads bytes end h place rows (stop number at missing) left after c).says

pub hundurzek_read_missing : (bytes : List ℕ) (end : ℕ) (hb : List ℕ) (place : ℕ) (rows : List ℤ) (number at missing : ℕ) (left : List ℕ) (after : List ℤ)
    → HostCall bytes end hb place rows (stop number at missing) left after → Tells (held_in (lent_in hb)) bytes end place number missing
hundurzek_read_missing bytes end hb place rows number at missing left after c =
    stop_told (lent_in hb) bytes end place rows number at missing (host_reads_lem bytes end hb place rows (stop number at missing) left after c).says

-- ---- of the walk over a stretch

walk_told : (holding : Lent) (bytes : List ℕ) (end : ℕ) (rows : List ℤ) → let w = walk holding bytes end rows in
    Tells (held_after w.stop) bytes end (walked_to w).place (walked_to w).answer (walked_to w).missing
unfolding held_after lent_after walked_to
walk_told holding bytes end rows =
    let w = walk holding bytes end rows in
    told (held_after w.stop) bytes end w.place w.stop (walk_stops table holding bytes end 0 rows).2 (walk_reason holding bytes end rows)
    (λ missing l e. subst (λ (h : Held). Lacks (message h) (bits_from bytes end w.place) missing) (sym (ap held_after e)) (walk_short holding bytes end rows missing l e))

pub walk_missing : (bytes : List ℕ) (end : ℕ) (h : Holding) (rows : List ℤ) (result : Halt) (after : List ℤ) → CodeWalk bytes end h rows result after
    → let said = said_at result.tally.place result.stop in Tells (held_after (walk_at h bytes end rows).stop) bytes end result.tally.place (number_said said) (missing_said said)
unfolding walk_at walked_of walked_to
walk_missing bytes end h rows result after c =
    let held = held_after (walk (lent_by h) bytes end rows).stop in
    subst (λ (x : Halt). let said = said_at x.tally.place x.stop in Tells held bytes end x.tally.place (number_said said) (missing_said said)) (sym c.allowed.0)
    (walk_told (lent_by h) bytes end rows)

pub hundurzek_walk_missing : (bytes : List ℕ) (end : ℕ) (hb : List ℕ) (rows : List ℤ) (result : Walked) (left : List ℕ) (after : List ℤ) → HostWalk bytes end hb rows result left after
    → Tells (held_after (host_walk hb bytes end rows).stop) bytes end result.place result.answer result.missing
unfolding host_walk walk_at
hundurzek_walk_missing bytes end hb rows result left after c =
    let held = held_after (walk (lent_in hb) bytes end rows).stop in
    subst (λ (x : Walked). Tells held bytes end x.place x.answer x.missing) (sym c.allowed.0) (walk_told (lent_in hb) bytes end rows)
