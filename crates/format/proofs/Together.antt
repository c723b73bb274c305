-- Fields read one after the other and only then looked at, as the code reads them at once: where all of their bits are there, they are parts of the
-- one number that it took; else the program is short by what the first short one misses.
-- Assumes nothing.
use Rattle.std.specs.Prelude.{Ok, Err}
use mathlib.Core.Path.{◌≡◌, sym, ap, ◌∙◌}
use mathlib.Core.List.{List, [], ◌∷◌}
use Prim.Native.Nat.{ℕ, ◌+◌, ◌-◌, ◌/◌, ◌%◌, ◌^◌, ◌<◌}
use native.Mathlib.Decide.{dec_lt}
use native.Mathlib.Nat.{add-zero, add_assoc, suc-pred-eq_of_pos}
use native.Mathlib.Omega.{arith}
use lib.Pow.{high, low}
use borrow.Author.Tests.{lt-ltb, le-ltb}
use Rattle.bits.proofs.Fields.{field_add, field_lt}
use Rattle.bits.proofs.Short.{none_short, one_short, field_whole, field_short}
use Rattle.bits.specs.declared.read.Short as Bits
use Rattle.bits.specs.Places.{field}
use Rattle.bits.specs.Short.{taken_at, bits_of, short_by}
use Rattle.format.specs.declared.Refusal.TheVariants.{Short}
use Rattle.format.specs.Ends.{Within, end_from}
use Rattle.format.specs.Programs.{Program, ◌>>=◌, numbered, Ended, badly, unless_short}
use Rattle.format.proofs.Ends.{onward, number_there, number_cut}

-- fields of these widths, and then what their numbers say
unfoldable pub together : {A : Type 0} → List ℕ → (List ℕ → Program A) → Program A
together [] k = k []
together (w ∷ ws) k = numbered w >>= (λ n. together ws (λ ns. k (n ∷ ns)))

-- a number cut into parts of these widths
unfoldable pub parts_of : List ℕ → ℕ → List ℕ
parts_of [] n = []
parts_of (w ∷ ws) n = n / 2 ^ bits_of ws ∷ parts_of ws (n % 2 ^ bits_of ws)

is_short : {A : Type 0} (missing : ℕ) (e : Ended A) → 0 < missing → unless_short missing e ≡ badly Short missing
unfolding unless_short
is_short missing e some = rw (← (suc-pred-eq_of_pos some))

module _ {A : Type 0} (bs : List ℕ) (end : ℕ) where
  -- what is left after some of them
  abbrev rest : List ℕ → ℕ → (List ℕ → Program A) → Ended A
  rest ws place k = unless_short (short_by ws (end - place)) (end_from (k (parts_of ws (field bs place (bits_of ws)))) bs end (place + bits_of ws))

  end_together : (ws : List ℕ) (place : ℕ) (k : List ℕ → Program A) → Within bs end place → end_from (together ws k) bs end place ≡ rest ws place k
  unfolding together short_by bits_of parts_of unless_short
  end_together [] place k at = rw add-zero
  end_together (w ∷ ws) place k at = go (dec_lt (end - place) w) (end_together ws (place + w) (λ ns. k (field bs place w ∷ ns)))
    where
      go : Dec (end - place < w)
          → (Within bs end (place + w) → end_from (together ws (λ ns. k (field bs place w ∷ ns))) bs end (place + w) ≡ rest ws (place + w) (λ ns. k (field bs place w ∷ ns)))
          → end_from (numbered w >>= (λ n. together ws (λ ns. k (n ∷ ns)))) bs end place ≡ rest (w ∷ ws) place k
      go (yes short) more = rw (lt-ltb (end - place) w short) (number_cut at w _ short ∙ sym (is_short (w - (end - place)) _ (omega arith)))
      go (no there) more =
          let left : end - (place + w) ≡ end - place - w = omega arith in
          let front = ap (λ (n : ℕ). n / 2 ^ bits_of ws) (field_add bs place w (bits_of ws)) ∙ high (field bs place w) (bits_of ws) (field_lt bs (place + w) (bits_of ws)) in
          let back = ap (λ (n : ℕ). n % 2 ^ bits_of ws) (field_add bs place w (bits_of ws)) ∙ low (field bs place w) (bits_of ws) (field_lt bs (place + w) (bits_of ws)) in
          rw (le-ltb (end - place) w (omega arith), ← left, front, back, ← (add_assoc place w (bits_of ws)))
          (number_there at w _ (omega arith) ∙ more (onward at (omega arith)))

-- as the code took them
module _ {A : Type 0} {bs : List ℕ} {end place : ℕ} (at : Within bs end place) (ws : List ℕ) (k : List ℕ → Program A) where
  pub fields_whole : {n : ℕ} → taken_at bs end place (bits_of ws) ≡ Ok n → end_from (together ws k) bs end place ≡ end_from (k (parts_of ws n)) bs end (place + bits_of ws)
  unfolding unless_short
  fields_whole {n} e =
      let it = field_whole bs end place (bits_of ws) n e in
      end_together bs end ws place k at ∙ rw (none_short ws (end - place) it.0, it.1)

  pub fields_short : {s : Bits.Short} → taken_at bs end place (bits_of ws) ≡ Err s → end_from (together ws k) bs end place ≡ badly Short (short_by ws (end - place))
  fields_short {s} e =
      end_together bs end ws place k at ∙ is_short (short_by ws (end - place)) _ (one_short ws (end - place) (field_short bs end place (bits_of ws) s e).0)
