-- One reading by two receivers at one place: where the first is not refused, both are idle, both read a message, or the second is refused for its mask, with
-- more, or for a mask that changed under the issue that it holds (document 02, Ask 2). Assumes nothing.
use mathlib.Core.Path.{◌≡◌, refl, sym, ◌∙◌}
use mathlib.Core.Bool.{Bool, true, false, cond, false≢true}
use mathlib.Core.List.{List}
use mathlib.Core.Logic.{inl}
use Prim.Native.Nat.{ℕ, ◌≤◌}
use lib.Dec.{leb}
use lib.IntN.{ℤ}
use lib.ListN.{length}
use borrow.Author.Tests.{le-leb}
use Rattle.format.specs.declared.Refusal.{Refusal}
use Rattle.format.specs.Assigned.{blank}
use Rattle.format.specs.Good.{good, is_holding}
use Rattle.format.specs.Masks.{Held, Lent, lent, held_in}
use Rattle.format.specs.Programs.{Ended}
use Rattle.format.specs.Reading.{row_room, Outcome, accepted, idle, refused, dropped, ended_at, read_from, bits_from, sub_type_in, placed, lent_tests, reading_by}
use Rattle.format.specs.Steady.{steady}
use Rattle.format.specs.Table.{Kind, Message}
use Rattle.format.specs.Tests.{verdict}
use Rattle.format.proofs.HeldGood.{held_good}
use Rattle.promises.proofs.Follows as Follows
use Rattle.promises.proofs.Follows.{Beside}
use Rattle.promises.proofs.TwoTables.{Weaker, Near, Alike, Stops, message_beside}

-- what the second's reading is to the first's
pub data Abreast (More : Refusal → Type 0) (f s : Held) (k : Kind) : Outcome → Outcome → Type 0 where
  first_refused : {r : Refusal} {missing : ℕ} {holding : Lent} {o : Outcome} → Abreast More f s k (refused r missing holding) o
  both_idle : {holding : Lent} → good s ≡ true → Abreast More f s k (idle holding) (idle (lent s))
  both_read : {m n : Message} {next : ℕ} → Alike f s k m n → Abreast More f s k (accepted m next) (accepted n next)
  second_refused : {m : Message} {next : ℕ} {r : Refusal} {missing : ℕ} → good s ≡ true → Stops More f s k r
      → Abreast More f s k (accepted m next) (refused r missing (lent s))
  -- its bits are good, but what the second holds may not become what they leave: where both held the same, the first's could not either
  second_changed : {m : Message} {next : ℕ} → ¬ (f ≡ s) → Abreast More f s k (accepted m next) dropped

module _ {More : Refusal → Type 0} {f s : Held} {k : Kind} where
  -- a test that is the second's if it is the first's
  tested : (first second : Bool) (r : Refusal) (holding : Lent) {o p : Outcome} → (first ≡ true → second ≡ true) → (second ≡ true → Abreast More f s k o p)
      → Abreast More f s k (elim first [ true ↦ o | false ↦ refused r 0 holding ]) (elim second [ true ↦ p | false ↦ refused r 0 (lent s) ])
  tested true second r holding too law = rw (too refl) (law (too refl))
  tested false second r holding too law = first_refused

  -- the first goes on with a message only where what it holds may become what that leaves
  first_steady : (stays : Bool) {m : Message} {next : ℕ} {p : Outcome} → (stays ≡ true → Abreast More f s k (accepted m next) p)
      → Abreast More f s k (cond stays (accepted m next) dropped) p
  first_steady true law = law refl
  first_steady false law = first_refused

  -- and so does the second: wherever the first does, if both held the same
  second_steady : (stays : Bool) {m n : Message} {next : ℕ} → steady f m.after ≡ true → steady s n.after ≡ stays → Alike f s k m n
      → Abreast More f s k (accepted m next) (cond stays (accepted n next) dropped)
  second_steady true ours theirs it = both_read it
  second_steady false ours theirs it = second_changed λ same. false≢true (sym theirs ∙ sym (λ i. steady (same i) (it.sure (inl same) i)) ∙ ours)

  -- all zero, or a program's end
  read_abreast : (zeros : Bool) (place : ℕ) {e g : Ended Message} → good s ≡ true → Beside (Alike f s k) (Stops More f s k) e g
      → Abreast More f s k (cond zeros (idle (lent f)) (ended_at f place e)) (cond zeros (idle (lent s)) (ended_at s place g))
  unfolding ended_at
  read_abreast true place fine it = both_idle fine
  read_abreast false place fine Follows.first_refused = first_refused
  read_abreast false place fine (Follows.both_well it) = first_steady (steady f _) λ ours. second_steady (steady s _) ours refl it
  read_abreast false place fine (Follows.second_refused named) = first_steady (steady f _) λ _. second_refused fine named

pub reading_abreast : {More : Refusal → Type 0} (t u : ℕ → Kind) → ((n : ℕ) → Weaker More (t n) (u n)) → (holding : Lent) (s : Held) → Near (held_in holding) s
    → (bytes : List ℕ) (end start : ℕ) (rows others : List ℤ) → row_room ≤ length others
    → Abreast More (held_in holding) s (t (sub_type_in (bits_from bytes end start)))
    (reading_by t holding bytes end start rows) (reading_by u (lent s) bytes end start others)
unfolding reading_by read_from lent_tests verdict is_holding held_in
reading_abreast t u weak holding s near bytes end start rows others room =
    let l : List Bool = bits_from bytes end start in
    tested (leb row_room (length rows)) (leb row_room (length others)) _ holding (λ _. le-leb row_room (length others) room) λ _.
    tested (placed bytes end start) (placed bytes end start) _ holding (λ there. there) λ _.
    tested (is_holding holding) (good s) _ holding (λ fine. near.sound (held_good holding fine)) λ fine.
    read_abreast (blank l) start fine (message_beside t u weak near l)
