-- The table of the code is the table of crate format: one computed law over its rows. Assumes nothing.
use Rattle.bits.proofs.Words.{◌≡◌, refl, sym, ap, ◌∙◌, Bool, true, false, List, [], ◌∷◌, ℕ, zero, suc, ◌+◌, ◌≤◌, ◌<◌, arith, get_or}
use native.Mathlib.Nat.{add-zero, zero-add}
use Rattle.format.specs.Messages.{combined_shape, orbit_shape, code_shape, phase_shape, bias_shape, named}
use Rattle.format.specs.Rows.{Column, width_of, shape_width}
use Rattle.format.specs.Table as Table
use Rattle.format.proofs.Tables.{Each, end, then, each_at, NoneOf, none_of}
use Rattle.table.specs.declared.Kind.{Kind}
use Rattle.table.specs.declared.Kind.TheVariants.{Other}
use Rattle.table.specs.Bodies.{FitsKeys}
use Rattle.table.specs.Kinds.{keys_for, code_kinds, kind_for, LaidOut, OfTable, over_by, keys_by, program_by, masked_by, kind_by}
use Rattle.rows.proofs.Table.{laid, narrow_laid, narrows, biases_narrow}
use Rattle.rows.specs.Shapes.{Laid, Narrow}
use Rattle.rows.specs.Table.{shapes, listed, shape_at, shape_for}
use Rattle.table.specs.Shapes.{shapes_from}

-- the rows from a number on, by what they mean
unfoldable kinds_by : ℕ → List Kind → List Table.Kind
kinds_by n [] = []
kinds_by n (k ∷ ks) = kind_by n k ∷ kinds_by (suc n) ks

-- the four shapes by two flags, of both kinds: what is the same at each of the four is the same
by_flags : {f g : Bool → Bool → ℕ → List Column} → f true true ≡ g true true → f true false ≡ g true false → f false true ≡ g false true
    → f false false ≡ g false false → f ≡ g
by_flags {f} {g} tt tf ft ff = λ i a b. each a b i
  where
    each : (a b : Bool) → f a b ≡ g a b
    each true true = tt
    each true false = tf
    each false true = ft
    each false false = ff

pub combined_shapes : shapes_from 0 ≡ combined_shape
unfolding shapes_from shape_at listed shapes
combined_shapes = by_flags refl refl refl refl

pub bias_shapes : shapes_from 8 ≡ bias_shape
unfolding shapes_from shape_at listed shapes
bias_shapes = by_flags refl refl refl refl

-- the computed law
rows_mean : kinds_by 0 code_kinds ≡ Table.kinds
unfolding kinds_by code_kinds kind_by masked_by program_by keys_by over_by shape_at listed shapes Table.kinds Table.alone Table.with_flags orbit_shape combined_shape
rows_mean = rw (combined_shapes, bias_shapes)

at_row : (k n : ℕ) (ks : List Kind) → kind_by (k + n) (get_or ks n Other) ≡ get_or (kinds_by k ks) n Table.other
unfolding kinds_by kind_by
at_row k n [] = refl
at_row k zero (x ∷ ks) = rw add-zero
at_row k (suc n) (x ∷ ks) =
    let next : k + suc n ≡ suc k + n = omega arith in
    rw next (at_row (suc k) n ks)

pub table_means : (n : ℕ) → kind_by n (kind_for n) ≡ Table.table n
unfolding kind_for Table.table
table_means n = rw zero-add at (at_row 0 n code_kinds) ∙ ap (λ (ks : List Table.Kind). get_or ks n Table.other) rows_mean

-- ---- which rows are of ours

-- no number but these has a row
abbrev pub ours : List ℕ
ours = 11 ∷ 10 ∷ 7 ∷ 6 ∷ 5 ∷ 4 ∷ 3 ∷ 2 ∷ 1 ∷ []

unlisted_rows : Each (λ n k. NoneOf ours n → Other ≡ k) 0 code_kinds
unfolding code_kinds named
unlisted_rows =
    let known = none_of ours in
    then (λ _. refl) (then (λ u. absurd (known 1 u refl)) (then (λ u. absurd (known 2 u refl)) (then (λ u. absurd (known 3 u refl)) (then (λ u. absurd (known 4 u refl))
    (then (λ u. absurd (known 5 u refl)) (then (λ u. absurd (known 6 u refl)) (then (λ u. absurd (known 7 u refl)) (then (λ _. refl) (then (λ _. refl)
    (then (λ u. absurd (known 10 u refl)) (then (λ u. absurd (known 11 u refl)) end)))))))))))

pub unlisted_other : (n : ℕ) → NoneOf ours n → Other ≡ kind_for n
unfolding kind_for
unlisted_other n u = let it = each_at Other unlisted_rows (λ n _. refl) n in (rw zero-add at it) u

-- ---- what is known of their layouts

differ : false ≡ true → ⊥
differ e = let z : ◌≡◌ {A = ℕ} 0 1 = cc in omega arith

of_satellites : (shape : ℕ) → shape < 16 → Laid (shape_for shape) → LaidOut (record { cells = false; flagged = false; shape = shape })
unfolding FitsKeys keys_for
of_satellites shape small laid = record { small = small; four = λ e _. absurd (differ e); of_flags = λ e. absurd (differ e); fits = λ _. laid }

of_cells : (shape : ℕ) → shape < 16 → Narrow (shape_for shape) → shape_width (shape_at shape 0) ≤ 28 → LaidOut (record { cells = true; flagged = false; shape = shape })
unfolding FitsKeys keys_for
of_cells shape small narrow few = record { small = small; four = λ e _. absurd (differ e); of_flags = λ e. absurd (differ e); fits = λ _. (narrow, few) }

-- behind flags
combined : LaidOut (record { cells = false; flagged = true; shape = 0 })
unfolding FitsKeys keys_for
combined = record { small = omega arith; four = λ _ _. refl; of_flags = λ _ k few _. rw zero-add (laid k few); fits = λ _. laid 0 (omega arith) }

bias_width : (k : ℕ) → k < 4 → shape_width (shape_at (8 + k) 0) ≤ 28
unfolding shapes listed shape_at bias_shape shape_width width_of
bias_width zero few = omega arith
bias_width (suc zero) few = omega arith
bias_width (suc (suc zero)) few = omega arith
bias_width (suc (suc (suc zero))) few = omega arith
bias_width (suc (suc (suc (suc k)))) few = absurd (omega arith)

biases : LaidOut (record { cells = true; flagged = true; shape = 8 })
unfolding FitsKeys keys_for
biases = record { small = omega arith; four = λ _ e. absurd (differ (sym e)); of_flags = λ _ k few _. (biases_narrow k few, bias_width k few); fits = λ _. (biases_narrow 0 (omega arith), bias_width 0 (omega arith)) }

layouts : Each (λ n k. OfTable k) 0 code_kinds
unfolding code_kinds OfTable shapes listed shape_at code_shape phase_shape shape_width width_of
layouts =
    then tt (then tt (then (of_satellites 2 (omega arith) (laid 2 (omega arith))) (then (of_satellites 4 (omega arith) (narrow_laid narrows.1)) (then (of_cells 5 (omega arith) narrows.2 (omega arith)) (then (of_cells 6 (omega arith) narrows.3 (omega arith))
    (then biases (then (of_satellites 12 (omega arith) (narrow_laid narrows.4)) (then tt (then tt (then tt (then combined end)))))))))))

pub tabled : (n : ℕ) → OfTable (kind_for n)
unfolding kind_for OfTable
tabled n = each_at Other layouts (λ _. tt) n
