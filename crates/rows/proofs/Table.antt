-- The table of shapes: each is formed and has its columns in every system; those of satellites are laid, and those of cells narrow.
-- Assumes nothing.
use Rattle.bits.proofs.Words.{◌≡◌, refl, sym, ap, ◌∙◌, Bool, true, false, cond, List, [], ◌∷◌, ℕ, zero, suc, ◌+◌, ◌-◌, ◌*◌, ◌≤◌, ◌<◌, arith, eqb, length}
use mathlib.Core.Logic.{inl, inr}
use native.Mathlib.Nat.{zero-add}
use borrow.Author.Tests.{eqb-true}
use Rattle.format.proofs.Tables.{Each, end, then, each_at, NoneOf, none_of}
use Rattle.format.specs.Messages.{iode_width, clock_shape, code_shape, phase_shape, bias_shape, accuracy_shape, combined_shape, packet_shape, named}
use Rattle.format.specs.Rows.{Column, gap, plain, counts, width_of, shape_width}
use Rattle.rows.specs.declared.shape.Shape.{Shape}
use Rattle.rows.specs.Shapes.{column_of, column_for, columns_of, columns_in, shape_with, orbit_of, last_of, FormedShape, Laid, Narrow}
use Rattle.rows.specs.Table.{Listed, bare, gaps, shapes, listed, shape_at, shape_in, shape_for}
use Rattle.rows.proofs.Columns.{Fine, fine_gap, fine_plain, fine_counts, column_back, width_for, formed_for}
use Rattle.rows.proofs.Laid.{iode_some, laid_orbit, laid_bare, columns_width}

-- ---- five columns

-- each a gap or of 1 to 15 bits, the first four within a window, also where the first has 10
data FineShape : List Column → Type 0 where
  five : {a b c d e : Column} → Fine a → Fine b → Fine c → Fine d → Fine e → width_of a + width_of b + width_of c + width_of d ≤ 56
      → 10 + width_of b + width_of c + width_of d ≤ 56 → FineShape (a ∷ b ∷ c ∷ d ∷ e ∷ [])

columns_of_lem : {cs : List Column} (iode : Bool) → FineShape cs → columns_of (shape_with iode cs) ≡ cs
unfolding columns_of shape_with
columns_of_lem iode (five fa fb fc fd fe room more) = rw (column_back fa, column_back fb, column_back fc, column_back fd, column_back fe)

formed_shape : {cs : List Column} (iode : Bool) → FineShape cs → FormedShape (shape_with iode cs)
unfolding shape_with
formed_shape iode (five {a} {b} {c} {d} fa fb fc fd fe room more) =
    record {
      first = formed_for fa;
      second = formed_for fb;
      third = formed_for fc;
      fourth = formed_for fd;
      fifth = formed_for fe;
      window = omega (arith, width_for a, width_for b, width_for c, width_for d);
      longest = omega (arith, width_for b, width_for c, width_for d);
    }

-- ---- the rows of the table

-- what holds of a row: its columns are fine, the code has them in every system, and but for two there is no IODE
record Row (n : ℕ) (l : Listed) : Type 0 where
  fine : (system : ℕ) → FineShape (l.columns system)
  columns : (system : ℕ) → columns_in (shape_with l.iode (l.columns 0)) system ≡ l.columns system
  bare : (n ≡ 2 → ⊥) → (n ≡ 3 → ⊥) → l.iode ≡ false

-- without an IODE, the same in every system
same : {n : ℕ} {cs : List Column} → FineShape cs → Row n (bare (λ _. cs))
unfolding columns_in columns_of shape_with
same fine = record { fine = λ _. fine; columns = λ _. columns_of_lem false fine; bare = λ _ _. refl }

c15 : Fine (counts 15)
c15 = fine_counts 15 (omega arith) (omega arith)

-- an orbit and one column more
orbiting : {n : ℕ} {e : Column} → Fine e → ((n ≡ 2 → ⊥) → (n ≡ 3 → ⊥) → ⊥)
    → Row n (record { iode = true; columns = λ system. plain (iode_width system) ∷ counts 15 ∷ counts 13 ∷ counts 13 ∷ e ∷ [] })
unfolding columns_in columns_of column_of column_for shape_with width_of
orbiting fine two =
    let c13 = fine_counts 13 (omega arith) (omega arith) in
    record {
      fine = λ system.
          let wide = iode_some system refl in
          five (fine_plain (iode_width system) wide.0 (omega arith)) c15 c13 c13 fine (omega arith) (omega arith);
      columns = λ system. rw (column_back fine);
      bare = λ a b. absurd (two a b);
    }

each : Each Row 0 shapes
unfolding shapes combined_shape clock_shape code_shape phase_shape packet_shape bias_shape accuracy_shape width_of
each =
    let byte = fine_plain 8 (omega arith) (omega arith) in
    let c11 = fine_counts 11 (omega arith) (omega arith) in
    let p2 = fine_plain 2 (omega arith) (omega arith) in
    then (same (five fine_gap fine_gap fine_gap fine_gap fine_gap (omega arith) (omega arith)))
    (then (same (five fine_gap fine_gap fine_gap fine_gap c15 (omega arith) (omega arith)))
    (then (orbiting fine_gap (λ two _. two refl))
    (then (orbiting c15 (λ _ three. three refl))
    (then (same (five c15 fine_gap fine_gap fine_gap fine_gap (omega arith) (omega arith)))
    (then (same (five c11 fine_gap fine_gap fine_gap fine_gap (omega arith) (omega arith)))
    (then (same (five c15 p2 fine_gap fine_gap fine_gap (omega arith) (omega arith)))
    (then (same (five byte byte byte byte byte (omega arith) (omega arith)))
    (then (same (five fine_gap fine_gap fine_gap fine_gap fine_gap (omega arith) (omega arith)))
    (then (same (five fine_gap c15 p2 fine_gap fine_gap (omega arith) (omega arith)))
    (then (same (five c11 fine_gap fine_gap fine_gap fine_gap (omega arith) (omega arith)))
    (then (same (five c11 c15 p2 fine_gap fine_gap (omega arith) (omega arith)))
    (then (same (five (fine_plain 6 (omega arith) (omega arith)) fine_gap fine_gap fine_gap fine_gap (omega arith) (omega arith))) end))))))))))))

row : (i : ℕ) → Row i (listed i)
unfolding listed combined_shape width_of
row i =
    let it = each_at gaps each (λ _. same (five fine_gap fine_gap fine_gap fine_gap fine_gap (omega arith) (omega arith))) i in
    rw zero-add at it

pub columns_at : (system i : ℕ) → columns_of (shape_in i system) ≡ shape_at i system
unfolding shape_in shape_at
columns_at system i = columns_of_lem _ ((row i).fine system)

pub columns_in_lem : (system i : ℕ) → columns_in (shape_for i) system ≡ shape_at i system
unfolding shape_in shape_at
columns_in_lem system i = (row i).columns system

-- but for two, the same in every system
pub no_iode : (i : ℕ) → (i ≡ 2 → ⊥) → (i ≡ 3 → ⊥) → (shape_for i).iode ≡ false
unfolding shape_in shape_with
no_iode i = (row i).bare

-- ---- what the code makes

formed_at : (system i : ℕ) → FormedShape (shape_in i system)
unfolding shape_in shape_at
formed_at system i = formed_shape _ ((row i).fine system)

pub formed : (i : ℕ) → FormedShape (shape_for i)
formed i = formed_at 0 i

-- no other number has a row but the first
abbrev pub listed_numbers : List ℕ
listed_numbers = 12 ∷ 11 ∷ 10 ∷ 9 ∷ 7 ∷ 6 ∷ 5 ∷ 4 ∷ 3 ∷ 2 ∷ 1 ∷ []

unlisted_rows : Each (λ n l. NoneOf listed_numbers n → gaps ≡ l) 0 shapes
unfolding shapes combined_shape bias_shape named
unlisted_rows =
    let known = none_of listed_numbers in
    then (λ _. refl) (then (λ u. absurd (known 1 u refl)) (then (λ u. absurd (known 2 u refl)) (then (λ u. absurd (known 3 u refl)) (then (λ u. absurd (known 4 u refl))
    (then (λ u. absurd (known 5 u refl)) (then (λ u. absurd (known 6 u refl)) (then (λ u. absurd (known 7 u refl)) (then (λ _. refl) (then (λ u. absurd (known 9 u refl))
    (then (λ u. absurd (known 10 u refl)) (then (λ u. absurd (known 11 u refl)) (then (λ u. absurd (known 12 u refl)) end))))))))))))

unlisted : (i : ℕ) → NoneOf listed_numbers i → gaps ≡ listed i
unfolding listed
unlisted i u = let it = each_at gaps unlisted_rows (λ _ _. refl) i in (rw zero-add at it) u

-- without an orbit and with one, by the clock's flag
pub last_made : (clock : Bool) (system : ℕ) → last_of (column_for (cond clock (counts 15) gap)) ≡ shape_in (cond clock 1 0) system
unfolding shapes listed shape_at shape_in shape_with last_of combined_shape
last_made true system = refl
last_made false system = refl

pub orbit_made : (clock : Bool) (system : ℕ) → orbit_of (iode_width system) (column_for (cond clock (counts 15) gap)) ≡ shape_in (cond clock 3 2) system
unfolding shapes listed shape_at shape_in shape_with orbit_of combined_shape
orbit_made true system = refl
orbit_made false system = refl

pub gaps_made : (i : ℕ) (system : ℕ) → NoneOf listed_numbers i → last_of (column_for gap) ≡ shape_in i system
unfolding shape_at shape_in shape_with last_of combined_shape
gaps_made i system u = ap (λ (l : Listed). shape_with l.iode (l.columns system)) (unlisted i u)

pub made_formed : (system i : ℕ) {s : Shape} → s ≡ shape_in i system → FormedShape s
made_formed system i made = rw made (formed_at system i)

pub made_width : (system i : ℕ) {s : Shape} {w : ℕ} → s ≡ shape_in i system → w ≡ shape_width (columns_of s) → w ≡ shape_width (shape_at i system)
made_width system i made wide = wide ∙ rw (made, columns_at system i)

-- ---- what callers ask of a row's columns

pub five_at : (system i : ℕ) → length (shape_at i system) ≡ 5
unfolding columns_in
five_at system i = ap length (sym (columns_in_lem system i))

pub width_at : (system i : ℕ) → shape_width (shape_at i system) ≤ 71
width_at system i = rw columns_in_lem at (columns_width (shape_for i) system (formed i))

-- only an IODE's goes by the system, and Galileo's is the longest
longest : (s : Shape) (iode : Bool) → s.iode ≡ iode → shape_width (columns_in s 0) ≤ shape_width (columns_in s 2)
unfolding columns_in shape_width width_of iode_width
longest s true e = rw e (omega arith)
longest s false e = rw e (omega arith)

module _ (i : ℕ) where
  pub width_longest : shape_width (shape_at i 0) ≤ shape_width (shape_at i 2)
  width_longest = rw (← (columns_in_lem 0 i), ← (columns_in_lem 2 i)) (longest (shape_for i) _ refl)

  pub width_by : (system : ℕ) (galileo : Bool) → eqb system 2 ≡ galileo
      → shape_width (shape_at i system) ≡ shape_width (shape_at i 0) + cond galileo 1 0 * (shape_width (shape_at i 2) - shape_width (shape_at i 0))
  unfolding columns_in iode_width
  width_by system true e = rw (eqb-true system 2 e) (omega (arith, width_longest))
  width_by system false e =
      let same : columns_in (shape_for i) system ≡ columns_in (shape_for i) 0 = rw e in
      ap shape_width (sym (columns_in_lem system i) ∙ same ∙ columns_in_lem 0 i) ∙ omega arith

-- ---- layouts

-- by the two flags
pub laid : (i : ℕ) → i < 4 → Laid (shape_for i)
unfolding shapes listed shape_at shape_in shape_with column_for orbit_of iode_width combined_shape
laid zero few = laid_bare (shape_for 0) refl refl (inl refl)
laid (suc zero) few = laid_bare (shape_for 1) refl refl (inr refl)
laid (suc (suc zero)) few = laid_orbit 8 (column_for gap)
laid (suc (suc (suc zero))) few = laid_orbit 8 (column_for (counts 15))
laid (suc (suc (suc (suc i)))) few = absurd (omega arith)

-- a narrow one is laid
pub narrow_laid : {s : Shape} → Narrow s → Laid s
narrow_laid {s} n = laid_bare s n.iode n.fourth (inl n.fifth)

-- two columns at most, the first one of them
two_narrow : {s : Shape} → s.iode ≡ false → s.v3.width ≡ 0 → s.v4.width ≡ 0 → s.v5.width ≡ 0 → (s.v1.width ≡ 0 → s.v2.width ≡ 0) → Narrow s
two_narrow bare third fourth fifth none = record { iode = bare; fourth = fourth; fifth = fifth; whole = λ _ some. absurd (omega arith); none = λ first _. none first }

-- gaps, the clock's own message, those of cells, and accuracy
pub narrows : Narrow (shape_for 0) × Narrow (shape_for 4) × Narrow (shape_for 5) × Narrow (shape_for 6) × Narrow (shape_for 12)
unfolding shapes listed shape_at shape_in shape_with column_for combined_shape clock_shape code_shape phase_shape accuracy_shape
narrows =
    let gaps : Narrow (shape_for 0) = two_narrow refl refl refl refl (λ _. refl) in
    let clock : Narrow (shape_for 4) = two_narrow refl refl refl refl (λ _. refl) in
    let code : Narrow (shape_for 5) = two_narrow refl refl refl refl (λ _. refl) in
    let phase : Narrow (shape_for 6) = two_narrow refl refl refl refl (λ e. absurd (omega (arith, e))) in
    (gaps, clock, code, phase, two_narrow refl refl refl refl (λ _. refl))

-- and by the two flags of biases
pub biases_narrow : (k : ℕ) → k < 4 → Narrow (shape_for (8 + k))
unfolding shapes listed shape_at shape_in shape_with column_for bias_shape
biases_narrow zero few = two_narrow refl refl refl refl (λ _. refl)
biases_narrow (suc zero) few = record { iode = refl; fourth = refl; fifth = refl; whole = λ some _. absurd (omega (arith, some)); none = λ _ e. absurd (omega (arith, e)) }
biases_narrow (suc (suc zero)) few = two_narrow refl refl refl refl (λ e. absurd (omega (arith, e)))
biases_narrow (suc (suc (suc zero))) few = record { iode = refl; fourth = refl; fifth = refl; whole = λ _ _. refl; none = λ e. absurd (omega (arith, e)) }
biases_narrow (suc (suc (suc (suc k)))) few = absurd (omega arith)
