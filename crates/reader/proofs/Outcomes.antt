-- The outcome of a reading by the tests of what is lent. Assumes nothing.
use Rattle.bits.proofs.Words.{◌≡◌, refl, sym, ◌∙◌, Bool, true, false, List, [], ◌∷◌, ℕ, ◌≤◌, arith, leb, length, ℤ}
use borrow.Author.Tests.{leb-true}
use denote.Enum.Declared.{tag_of}
use Rattle.format.specs.declared.Refusal.TheVariants.{Room, Place, Value}
use Rattle.format.specs.Good.{is_holding}
use Rattle.format.specs.Masks.{Lent, held_in}
use Rattle.format.specs.Reading.{row_room, Outcome, refused, bits_from, read_from, placed, lent_tests, reading_by}
use Rattle.format.specs.Table.{table}
use Rattle.format.specs.Tests.{Test, verdict}
use Rattle.format.proofs.Placed.{Inside, inside}
use Rattle.holding.specs.declared.Holding.{Holding}
use Rattle.holding.specs.Pictures.{sound, lent_by}
use Rattle.reader.specs.declared.Verdict.{Verdict}
use Rattle.reader.specs.declared.Verdict.TheVariants.{Good, Refused}
use Rattle.reader.specs.Readings.{outcome_at, tests_of, tested_by, read_at}
use Rattle.reader.specs.contracts.Verdict.{the_type}
use Rattle.reader.proofs.Lents.{is_holding_lem, sound_lent}

-- ---- by the tests

-- what is read where they hold, or the refusal
unfoldable pub tested_outcome : Lent → Outcome → Verdict → Outcome
tested_outcome holding o Good = o
tested_outcome holding o (Refused r) = refused r 0 holding

by_tests : (holding : Lent) (o : Outcome) (ts : List Test) → verdict (λ r. refused r 0 holding) o ts ≡ tested_outcome holding o (tested_by ts)
unfolding verdict tested_by tested_outcome
by_tests holding o [] = refl
by_tests holding o (t ∷ ts) = go t.holds (by_tests holding o ts)
  where
    go : (b : Bool) → verdict (λ r. refused r 0 holding) o ts ≡ tested_outcome holding o (tested_by ts)
        → elim b [ true ↦ verdict (λ r. refused r 0 holding) o ts | false ↦ refused t.else 0 holding ] ≡ tested_outcome holding o (elim b [ true ↦ verdict Refused Good ts | false ↦ Refused t.else ])
    go true rest = rest
    go false rest = refl

pub outcome_tested : (h : Holding) (bs : List ℕ) (end start : ℕ) (rows : List ℤ)
    → outcome_at h bs end start rows ≡ tested_outcome (lent_by h) (read_from table (held_in (lent_by h)) start (bits_from bs end start)) (tested_by (tests_of h bs end start (length rows)))
unfolding outcome_at reading_by
outcome_tested h bs end start rows = by_tests (lent_by h) (read_from table (held_in (lent_by h)) start (bits_from bs end start)) (tests_of h bs end start (length rows))

-- ---- what is lent is good

pub record Fine (h : Holding) (bs : List ℕ) (end start room : ℕ) : Type 0 where
  pub held : sound h ≡ true
  pub inside : Inside bs end start
  pub rows : row_room ≤ room

pub all_good : (h : Holding) (bs : List ℕ) (end start room : ℕ) → tag_of the_type (tested_by (tests_of h bs end start room)) ≡ 0 → Fine h bs end start room
unfolding tested_by lent_tests verdict
all_good h bs end start room = go (leb row_room room) (placed bs end start) (is_holding (lent_by h)) refl refl refl
  where
    go : (a b c : Bool) → leb row_room room ≡ a → placed bs end start ≡ b → is_holding (lent_by h) ≡ c
        → tag_of the_type (elim a [ true ↦ elim b [ true ↦ elim c [ true ↦ Good | false ↦ Refused Value ] | false ↦ Refused Place ] | false ↦ Refused Room ]) ≡ 0 → Fine h bs end start room
    go true true true p q r f = record { held = sym (is_holding_lem h) ∙ r; inside = inside bs end start q; rows = leb-true row_room room p }
    go true true false p q r f = absurd (omega arith)
    go true false c p q r f = absurd (omega arith)
    go false b c p q r f = absurd (omega arith)

pub begun : (h : Holding) → sound h ≡ true → (bs : List ℕ) (end start : ℕ) → read_from table (held_in (lent_by h)) start (bits_from bs end start) ≡ read_at h bs end start
unfolding held_in
begun h e bs end start = rw (sound_lent h e)
