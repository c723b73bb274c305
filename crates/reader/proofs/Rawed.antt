-- The raw part of an answer: a stop's is empty, a message's reaches from its first bit to its last. Assumes nothing.
use Rattle.bits.proofs.Words.{◌≡◌, refl, Bool, true, false, List, ℕ, suc, ◌+◌, ◌-◌, ◌≤◌, arith, leb, length, ℤ}
use native.Mathlib.Nat.{le_refl}
use borrow.Author.Tests.{le-ltb}
use denote.Enum.Declared.{tag_of}
use denote.Ref.{Bor}
use Rattle.bits.specs.Parts.{start_of, count_of, part_of, IsPart}
use Rattle.format.specs.declared.Answer.{Answer}
use Rattle.format.specs.declared.Answer.TheVariants as Answers
use Rattle.format.specs.declared.Refusal.TheVariants.{Room, Place}
use Rattle.format.specs.Masks.{Lent, held_in}
use Rattle.format.specs.Tests.{verdict}
use Rattle.format.specs.Reading.{Outcome, refused, bits_from, placed, lent_tests, reading_by, reading, raw_end, answer_of}
use Rattle.format.specs.Table.{table, message}
use Rattle.format.specs.contracts.Answer.{the_type}
use Rattle.format.proofs.Placed.{Inside, inside, is_placed, length_from}
use Rattle.format.proofs.Runs.{taken_le}
use Rattle.format.proofs.Stops.{reading_ends}
use Rattle.reader.specs.Readings.{raw_to}

-- ---- an empty part is the same at every place

pub none_starts : (n : ℕ) → start_of n n ≡ 0
unfolding start_of
none_starts n = rw (le-ltb n n (le_refl n))

pub none_counts : (n : ℕ) → count_of n n ≡ 0
unfolding count_of
none_counts n = rw (le-ltb n n (le_refl n))

pub empty_part : (whole part : Bor (List ℕ)) (n : ℕ) → IsPart whole part 0 0 → IsPart whole part n n
unfolding part_of start_of count_of
empty_part whole part n p = record { bytes = rw (none_starts n, none_counts n) p.bytes; memory = p.memory; offset = rw (none_starts n) p.offset }

-- a stop's part is empty: its tag is another than a message's
pub not_message : (bs : List ℕ) (start : ℕ) (a : Answer) (k : ℕ) → tag_of the_type a ≡ suc k → raw_to bs start a ≡ start
unfolding raw_to
not_message bs start (Answers.Message h next rows) k e = absurd (omega arith)
not_message bs start Answers.Idle k e = refl
not_message bs start (Answers.Refused r missing) k e = refl

-- ---- an answer of the reader's own

-- a message that was read lies in its stretch
in_stretch : (bs : List ℕ) (end start taken : ℕ) → Inside bs end start → taken ≤ end - start → placed bs (start + taken) start ≡ true
in_stretch bs end start taken known few =
    is_placed bs _ _ (record { limit = omega (arith, known.limit, known.there); lent = omega (arith, known.lent, known.there); there = omega arith })

-- so its raw part is from its first bit to its last, and a stop's is empty
abbrev Raw : List ℕ → ℕ → Outcome → Type 0
Raw bs start o = raw_to bs start (answer_of o) ≡ raw_end o start

module _ (holding : Lent) (bs : List ℕ) (end start : ℕ) (rows : List ℤ) where
  outside : placed bs end start ≡ false → Raw bs start (reading holding bs end start rows)
  unfolding reading_by lent_tests verdict raw_to answer_of raw_end
  outside e = rw e (go (leb 2048 (length rows)))
    where
      go : (b : Bool) → Raw bs start (elim b [ true ↦ refused Place 0 holding | false ↦ refused Room 0 holding ])
      go true = refl
      go false = refl

  within : Inside bs end start → Raw bs start (reading holding bs end start rows)
  unfolding raw_to answer_of raw_end
  within known =
      reading_ends (Raw bs start) table bs end start rows holding (λ r missing. refl) refl refl
      (λ m taken e.
      let few = taken_le (message (held_in holding)) (bits_from bs end start) m taken e in
      rw (in_stretch bs end start taken known (omega (arith, few, length_from bs end known.lent start))))

  pub raw_read : Raw bs start (reading holding bs end start rows)
  raw_read = go (placed bs end start) refl
    where
      go : (b : Bool) → placed bs end start ≡ b → Raw bs start (reading holding bs end start rows)
      go true e = within (inside bs end start e)
      go false e = outside e
