-- How many bits were missing (document 02, Ask 7), of readings and walks: the number says what is missing of the field that is short, and any refusal but 3 has
-- none; the same stretch with fewer bits more is short at the same place, by that many less.
-- Assumes nothing.
use mathlib.Core.Path.{◌≡◌, refl, sym, ap, subst, ◌∙◌}
use mathlib.Core.Bool.{Bool, true, false, cond, false≢true}
use mathlib.Core.List.{List, [], ◌∷◌, ◌++◌}
use mathlib.Core.Logic.{◌⊎◌, inl, inr, ⊎_elim}
use Prim.Native.Nat.{ℕ, ◌+◌, ◌-◌, ◌*◌, ◌≤◌, ◌<◌}
use native.Mathlib.Omega.{arith}
use lib.IntN.{ℤ}
use lib.ListN.{length, take, drop, length-append}
use lib.Seq.{drop-append-le, length-take-le}
use Rattle.bits.specs.BitLists.{bits}
use Rattle.bits.proofs.BitLists.{length_bits}
use Rattle.format.specs.declared.Head.{Head}
use Rattle.format.specs.declared.Refusal.{Refusal}
use Rattle.format.specs.declared.Refusal.TheVariants.{Room, Place, Short, SubType, NoMask, OtherIssue, Network, Value, Changed}
use Rattle.format.specs.Answers.{number_of}
use Rattle.format.specs.Assigned.{blank}
use Rattle.format.specs.Good.{is_holding}
use Rattle.format.specs.Masks.{Held, Lent, lent, held_in}
use Rattle.format.specs.Missing.{Lacks, Reason, LongerBy}
use Rattle.format.specs.Programs.{Ended, well, badly, run}
use Rattle.format.specs.Reading.{Outcome, accepted, idle, refused, ended_at, read_from, bits_from, lent_tests, reading_by, reading}
use Rattle.format.specs.Table.{Message, table, message}
use Rattle.format.specs.Walking.{handed_at, Walk, hand, go_on, walk_on, walk}
use Rattle.format.specs.Writing as Writing
use Rattle.format.specs.Writing.{writing}
use Rattle.format.proofs.CutWalks.{message_bits, accepts_steady}
use Rattle.format.proofs.Missing.{lacks}
use Rattle.format.proofs.Placed.{Inside, inside, is_placed}
use Rattle.format.proofs.Refusals.{Why, by_test, by_bits, by_change, ByBits, refused_why, reading_reason}
use Rattle.format.proofs.Runs.{run_append}
use Rattle.format.proofs.Verdicts.{AllHold, all_hold, holds_all, EachElse, judged_why}
use Rattle.format.proofs.Walks.{walk_step, Law, every_walk, walk_stops, refusal_ends}

-- ---- a reading that is short

module _ (holding : Lent) (bytes : List ℕ) (end start : ℕ) (rows : List ℤ) (missing : ℕ) (left : Lent)
    (e : reading holding bytes end start rows ≡ refused Short missing left) where
  by_its_bits : ByBits holding bytes end start rows Short missing left
  unfolding number_of
  by_its_bits = go (refused_why holding bytes end start rows Short missing left e)
    where
      go : Why holding bytes end start rows Short missing left → ByBits holding bytes end start rows Short missing left
      go (by_test it) = absurd (it.whole refl)
      go (by_bits it) = it
      go (by_change it) = absurd (omega (arith, ap number_of it.is))

  some_missing : 0 < missing
  some_missing = go (reading_reason holding bytes end start rows Short missing left e)
    where
      go : Reason Short missing → 0 < missing
      go (inl it) = it.1
      go (inr it) = absurd (it.0 refl)

  -- so many bits are missing of the message that begins there
  pub reading_short : Lacks (message (held_in holding)) (bits_from bytes end start) missing
  reading_short = lacks (message (held_in holding)) (bits_from bytes end start) missing by_its_bits.ran some_missing

-- so it is where a walk stops, by what is held then
pub walk_short : (holding : Lent) (bytes : List ℕ) (end : ℕ) (rows : List ℤ) (missing : ℕ) (left : Lent) → (walk holding bytes end rows).stop ≡ refused Short missing left
    → Lacks (message (held_in left)) (bits_from bytes end (walk holding bytes end rows).place) missing
unfolding held_in
walk_short holding bytes end rows missing left e =
    let w = walk holding bytes end rows in
    let it = walk_stops table holding bytes end 0 rows in
    let said : reading it.0 bytes end w.place w.rows ≡ refused Short missing left = sym it.1 ∙ e in
    let kept = (by_its_bits it.0 bytes end w.place w.rows missing left said).kept in
    rw kept (reading_short it.0 bytes end w.place w.rows missing left said)

pub walk_reason : (holding : Lent) (bytes : List ℕ) (end : ℕ) (rows : List ℤ) (r : Refusal) (missing : ℕ) (left : Lent) → (walk holding bytes end rows).stop ≡ refused r missing left
    → Reason r missing
walk_reason holding bytes end rows r missing left e =
    let w = walk holding bytes end rows in
    let it = walk_stops table holding bytes end 0 rows in
    reading_reason it.0 bytes end w.place w.rows r missing left (sym it.1 ∙ e)

-- ---- more bits behind the stretch's end

more_blank : (l more : List Bool) → blank l ≡ false → blank (l ++ more) ≡ false
unfolding blank
more_blank [] more some = absurd (false≢true (sym some))
more_blank (true ∷ l) more some = refl
more_blank (false ∷ l) more some = more_blank l more some

module _ (more : List Bool) (bytes : List ℕ) (end : ℕ) (others : List ℕ) (far : ℕ) (longer : LongerBy more bytes end others far) where
  module _ (start : ℕ) (f : Inside bytes end start) where
    long : length (take end (bits bytes)) ≡ end
    long = length-take-le end (bits bytes) (rw (length_bits bytes) f.lent)

    there : Inside others far start
    there =
        let g = inside others far 0 longer.is in
        let far-long = length-take-le far (bits others) (rw (length_bits others) g.lent) in
        let sum = ap length longer.bits ∙ length-append (take end (bits bytes)) more in
        record { limit = g.limit; lent = g.lent; there = omega (arith, f.there, far-long, sum, long) }

    bits_longer : bits_from others far start ≡ bits_from bytes end start ++ more
    unfolding bits_from
    bits_longer = ap (drop start) longer.bits ∙ drop-append-le start (take end (bits bytes)) more (omega (arith, long, f.there))

  -- a reading that is short, with fewer bits more
  pub longer_reading : (holding : Lent) (start : ℕ) (rows : List ℤ) (missing : ℕ) (left : Lent) → reading holding bytes end start rows ≡ refused Short missing left
      → length more < missing → reading holding others far start rows ≡ refused Short (missing - length more) left
  unfolding reading_by lent_tests AllHold read_from ended_at
  longer_reading holding start rows missing left e less =
      let it = by_its_bits holding bytes end start rows missing left e in
      let f = inside bytes end start it.tests.1.0 in
      let short = (reading_short holding bytes end start rows missing left e).fewer more less in
      holds_all (λ r. refused r 0 holding) _ (lent_tests (is_holding holding) others far start (length rows)) (it.tests.0, (is_placed others far start (there start f), it.tests.1.1))
      ∙ rw (bits_longer start f, more_blank (bits_from bytes end start) more it.some, short) (ap (refused Short (missing - length more)) (sym it.kept))

  -- and one that accepts, with any
  pub longer_accepts : (holding : Lent) (start : ℕ) (rows : List ℤ) (m : Message) (taken : ℕ) → reading holding bytes end start rows ≡ accepted m (start + taken)
      → run (message (held_in holding)) (bits_from bytes end start) ≡ well m taken → reading holding others far start rows ≡ accepted m (start + taken)
  unfolding reading_by lent_tests AllHold read_from ended_at
  longer_accepts holding start rows m taken e ran =
      let all = (all_hold (λ r. refused r 0 holding) _ (accepted m (start + taken)) _ (λ r f. false≢true cc) e).1 in
      let f = inside bytes end start all.1.0 in
      let again = run_append (message (held_in holding)) (bits_from bytes end start) more m taken ran in
      let stays = accepts_steady table holding bytes end start rows m (start + taken) e in
      holds_all (λ r. refused r 0 holding) _ (lent_tests (is_holding holding) others far start (length rows)) (all.0, (is_placed others far start (there start f), all.1.1))
      ∙ rw (bits_longer start f, message_bits table (held_in holding) (bits_from bytes end start ++ more) m taken again, again, stays)

  -- so a walk that is short, with fewer bits more, hands out the same, and stops where it did, by that many less
  abbrev Longer : Lent → ℕ → List ℤ → Walk → Type 0
  Longer holding place rows w =
      (missing : ℕ) (left : Lent) → w.stop ≡ refused Short missing left → length more < missing
      → walk_on table holding others far place rows ≡ record { handed = w.handed; stop = refused Short (missing - length more) left; place = w.place; rows = w.rows }

  all_longer : Law table bytes end Longer
  unfolding hand go_on
  all_longer = record {
    stops = λ holding place rows o e stopped missing left said less.
        refusal_ends table holding others far place rows Short (missing - length more) left (longer_reading holding place rows missing left (e ∙ said) less);
    goes = λ holding place rows m taken w e ran it missing left said less.
        walk_step table holding others far place rows ∙ rw (longer_accepts holding place rows m taken e ran) (ap (hand (handed_at place m (place + taken))) (it missing left said less));
  }

  pub longer_walk : (holding : Lent) (rows : List ℤ) (missing : ℕ) (left : Lent) → (walk holding bytes end rows).stop ≡ refused Short missing left → length more < missing
      → walk holding others far rows
      ≡ record { handed = (walk holding bytes end rows).handed; stop = refused Short (missing - length more) left; place = (walk holding bytes end rows).place; rows = (walk holding bytes end rows).rows }
  longer_walk holding rows = every_walk table bytes end Longer all_longer holding 0 rows

-- ---- no writing is, nor does it find a mask changed

-- the numbers of its tests: 1, 2, 5 to 12
abbrev Writers : Refusal → Type 0
Writers r = (number_of r < 3) ⊎ ((4 < number_of r) × (number_of r < 13))

-- one of its tests
one_of : (q : Refusal) → Writers q → (r : Refusal) → Writing.refused q ≡ Writing.refused r → Writers r
one_of q own r e =
    let same : q ≡ r = cc in
    subst Writers same own

writing_refuses : (holding : Lent) (h : Head) (rows : List ℤ) (count : ℕ) (bytes : List ℕ) (start : ℕ) (r : Refusal)
    → writing holding h rows count bytes start ≡ Writing.refused r → Writers r
unfolding writing EachElse number_of
writing_refuses holding h rows count bytes start r e =
    let value : Writing.refused Value ≡ Writing.refused r → Writers r = one_of Value (inr (omega arith, omega arith)) r in
    let issue : (q : Refusal) → (4 < number_of q) × (number_of q < 13) → Writing.refused q ≡ Writing.refused r → Writers r = λ q own. one_of q (inr own) r in
    go (judged_why Writing.refused _ (Writing.refused r) _ (
      one_of Place (inl (omega arith)) r,
      (
        value,
        (
          issue SubType (omega arith, omega arith),
          (
            issue NoMask (omega arith, omega arith),
            (issue OtherIssue (omega arith, omega arith), (issue Network (omega arith, omega arith), (value, (one_of Room (inl (omega arith)) r, tt)))),
          ),
        ),
      ),
    ) e)
  where
    go : {l : List Bool} {A : Type 0} → ((Writing.wrote l ≡ Writing.refused r) × A) ⊎ Writers r → Writers r
    go (inl it) = let never = it.0 in absurd (false≢true cc)
    go (inr it) = it

-- a refused writing says another number than 3, and than 13
pub writing_not_short : (holding : Lent) (h : Head) (rows : List ℤ) (count : ℕ) (bytes : List ℕ) (start : ℕ) (r : Refusal)
    → writing holding h rows count bytes start ≡ Writing.refused r → ¬ (number_of r ≡ number_of Short)
unfolding number_of
writing_not_short holding h rows count bytes start r e three = ⊎_elim (λ few. omega arith) (λ more. omega (arith, more.0)) (writing_refuses holding h rows count bytes start r e)

pub writing_not_changed : (holding : Lent) (h : Head) (rows : List ℤ) (count : ℕ) (bytes : List ℕ) (start : ℕ) (r : Refusal)
    → writing holding h rows count bytes start ≡ Writing.refused r → ¬ (number_of r ≡ number_of Changed)
unfolding number_of
writing_not_changed holding h rows count bytes start r e changed = ⊎_elim (λ few. omega arith) (λ more. omega (arith, more.1)) (writing_refuses holding h rows count bytes start r e)
