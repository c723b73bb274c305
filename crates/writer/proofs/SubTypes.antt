-- The sub types as the code has them are those of crate format's table. Assumes nothing.
use Rattle.bits.proofs.Words.{◌≡◌, refl, sym, ap, ◌∙◌, Bool, true, false, List, [], ◌∷◌, map, ℕ, zero, suc, ◌-◌, ◌^◌, ◌<◌, arith, ℤ, pos, get_or}
use native.Mathlib.Nat.{zero-add}
use lib.IntN.{negsuc}
use mir.Syntax.{w32}
use mir.Val.{SFits}
use Rattle.bits.specs.Signed.{unsigned}
use Rattle.format.proofs.Tables.{Each, end, then, each_at, NoneOf}
use Rattle.format.specs.Messages.{combined_shape, orbit_shape, over_satellites, over_cells}
use Rattle.format.specs.Same.{sameℤ}
use Rattle.format.specs.Writing.{has_network}
use Rattle.rows.specs.Table.{shapes, listed, shape_at}
use Rattle.table.proofs.Tabled.{combined_shapes, bias_shapes, unlisted_other}
use Rattle.table.specs.declared.Kind.{Kind}
use Rattle.table.specs.declared.Kind.TheVariants.{Other, Mask, Packet, Masked}
use Rattle.table.specs.Kinds.{code_kinds, kind_for, over_by, keys_by}
use Rattle.fitting.specs.FitHeads.{Asks, never, asked, asked_by}
use Rattle.writer.specs.Kinds.{kind_at, asks_of}
use Rattle.pens.specs.Numbers.{word_of}
use Rattle.pens.proofs.Numbers.{halved}

-- ---- the kind of a sub type by its bits

pub kind_word : (z : ℤ) → SFits w32 z → kind_for (word_of z) ≡ kind_at z
unfolding word_of unsigned kind_at NoneOf
kind_word (pos n) fits = refl
kind_word (negsuc n) fits =
    let big : 2 ^ 31 < suc (2 ^ 32 - suc n) = omega (arith, halved fits) in
    sym (unlisted_other (2 ^ 32 - suc n) (((((((((tt, λ e. omega arith), λ e. omega arith), λ e. omega arith), λ e. omega arith), λ e. omega arith), λ e. omega arith), λ e. omega arith), λ e. omega arith), λ e. omega arith))

-- ---- what they ask

mapped : (n : ℕ) (ks : List Kind) → get_or (map asks_of ks) n never ≡ asks_of (get_or ks n Other)
unfolding asks_of
mapped n [] = refl
mapped zero (k ∷ ks) = refl
mapped (suc n) (k ∷ ks) = mapped n ks

asks_listed : map asks_of code_kinds ≡ asked
unfolding code_kinds asks_of asked over_by keys_by over_satellites over_cells shape_at listed shapes orbit_shape combined_shape
asks_listed = rw (combined_shapes, bias_shapes)

pub asks_mean : (n : ℕ) → asked_by (pos n) ≡ asks_of (kind_for n)
unfolding asked_by kind_for
asks_mean n = ap (λ (l : List Asks). get_or l n never) (sym asks_listed) ∙ mapped n code_kinds

-- ---- which numbers they have

-- one of ours has a number of four bits, and is that of a network where it has flags
unfoldable pub flagged_in : Kind → Bool
flagged_in Other = false
flagged_in Mask = false
flagged_in Packet = false
flagged_in (Masked l) = l.flagged

unfoldable pub is_other : Kind → Bool
is_other Other = true
is_other Mask = false
is_other Packet = false
is_other (Masked l) = false

pub record Numbered (n : ℕ) (k : Kind) : Type 0 where
  pub small : (k ≡ Other → ⊥) → n < 2 ^ 4
  pub network : (k ≡ Other → ⊥) → has_network (pos n) ≡ flagged_in k

numbers : Each Numbered 0 code_kinds
unfolding code_kinds flagged_in has_network sameℤ
numbers =
    then (none 0) (then (one 1 Mask (omega arith) refl) (then (one 2 _ (omega arith) refl) (then (one 3 _ (omega arith) refl) (then (one 4 _ (omega arith) refl)
    (then (one 5 _ (omega arith) refl) (then (one 6 _ (omega arith) refl) (then (one 7 _ (omega arith) refl) (then (none 8) (then (none 9) (then (one 10 Packet (omega arith) refl) (then (one 11 _ (omega arith) refl) end)))))))))))
  where
    none : (n : ℕ) → Numbered n Other
    none n = record { small = λ ours. absurd (ours refl); network = λ ours. absurd (ours refl) }

    one : (n : ℕ) (k : Kind) → n < 2 ^ 4 → has_network (pos n) ≡ flagged_in k → Numbered n k
    one n k small network = record { small = λ _. small; network = λ _. network }

pub numbered : (n : ℕ) → Numbered n (kind_for n)
unfolding kind_for
numbered n = rw zero-add at (each_at Other numbers (λ k. record { small = λ ours. absurd (ours refl); network = λ ours. absurd (ours refl) }) n)
