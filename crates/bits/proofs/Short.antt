-- When a field is whole, and by how much it is short. Assumes nothing.
use Rattle.bits.proofs.Words.{◌≡◌, refl, cond, List, [], ◌∷◌, ℕ, zero, suc, ◌+◌, ◌-◌, ◌≤◌, ◌<◌, arith, ltb}
use mathlib.Core.Bool.{false≢true}
use native.Mathlib.Nat.{suc-pred-eq_of_pos}
use native.Mathlib.Decide.{dec_lt}
use borrow.Author.Tests.{lt-ltb, le-ltb}
use Rattle.bits.specs.Places.{field}
use Rattle.bits.specs.Short.{missing, unless_short, taken_at, bits_of, short_by, widths_of}
use Rattle.bits.specs.declared.read.Widths.{Widths}
use Rattle.bits.specs.declared.read.Short.{Short}
use Rattle.std.specs.Prelude.{Ok, Err}

pub taken_whole : (bs : List ℕ) (end place w : ℕ) → w ≤ end - place → taken_at bs end place w ≡ Ok (field bs place w)
unfolding taken_at missing unless_short
taken_whole bs end place w room =
    let none : w - (end - place) ≡ 0 = omega arith in
    rw none

pub taken_short : (bs : List ℕ) (end place w : ℕ) → end - place < w → taken_at bs end place w ≡ Err (record { missing = w - (end - place) })
unfolding taken_at missing unless_short
taken_short bs end place w over =
    let some : zero < w - (end - place) = omega arith in
    rw (← (suc-pred-eq_of_pos some))

-- ---- fields one after the other

pub widths_sum : (w : Widths) → w.first + w.second + w.third + w.fourth ≡ bits_of (widths_of w)
unfolding bits_of widths_of
widths_sum w = omega arith

-- none is short where the bits of all are there
pub none_short : (ws : List ℕ) (left : ℕ) → bits_of ws ≤ left → short_by ws left ≡ 0
unfolding bits_of short_by
none_short [] left room = refl
none_short (w ∷ ws) left room = rw (le-ltb left w (omega arith)) (none_short ws (left - w) (omega arith))

-- and one is where they are not
pub one_short : (ws : List ℕ) (left : ℕ) → left < bits_of ws → 0 < short_by ws left
unfolding bits_of short_by
one_short [] left over = absurd (omega arith)
one_short (w ∷ ws) left over = go (dec_lt left w) (one_short ws (left - w))
  where
    go : Dec (left < w) → (left - w < bits_of ws → 0 < short_by ws (left - w)) → 0 < cond (ltb left w) (w - left) (short_by ws (left - w))
    go (yes short) rest = rw (lt-ltb left w short) (omega arith)
    go (no there) rest = rw (le-ltb left w (omega arith)) (rest (omega arith))

-- ---- back from what was taken

pub field_whole : (bs : List ℕ) (end place w n : ℕ) → taken_at bs end place w ≡ Ok n → (w ≤ end - place) × (n ≡ field bs place w)
unfolding taken_at missing unless_short
field_whole bs end place w n e = go (w - (end - place)) refl e
  where
    go : (m : ℕ) → w - (end - place) ≡ m → unless_short (Ok (field bs place w)) m ≡ Ok n → (w ≤ end - place) × (n ≡ field bs place w)
    go zero none e = (omega arith, cc)
    go (suc m) some e = absurd (false≢true cc)

pub field_short : (bs : List ℕ) (end place w : ℕ) (s : Short) → taken_at bs end place w ≡ Err s → (end - place < w) × (s.missing ≡ w - (end - place))
unfolding taken_at missing unless_short
field_short bs end place w s e = go (w - (end - place)) refl e
  where
    go : (n : ℕ) → w - (end - place) ≡ n → unless_short (Ok (field bs place w)) n ≡ Err s → (end - place < w) × (s.missing ≡ w - (end - place))
    go zero none e = absurd (false≢true cc)
    go (suc n) some e =
        let same : suc n ≡ s.missing = cc in
        (omega arith, omega arith)

-- what is short misses one bit at least
pub short_some : (bs : List ℕ) (end place w : ℕ) (s : Short) → taken_at bs end place w ≡ Err s → 0 < s.missing
short_some bs end place w s e =
    let short = field_short bs end place w s e in
    omega arith
