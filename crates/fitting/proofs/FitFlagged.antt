-- Sub types 6 and 11: a head and rows that fit are what its program reads some bits to, and what it reads fits.
-- Assumes nothing.
use mathlib.Core.Path.{◌≡◌, refl, sym, ap, subst, ◌∙◌}
use mathlib.Core.Bool.{Bool, true, false, cond, not, ◌&&◌, false≢true}
use mathlib.Core.List.{List, [], ◌∷◌, ◌++◌}
use Prim.Native.Nat.{ℕ, zero, suc, ◌^◌, ◌<◌}
use native.Mathlib.Omega.{arith}
use borrow.Author.Tests.{ltb-true, lt-ltb, ne_eqb}
use lib.Dec.{eqb, ltb}
use lib.IntN.{ℤ, pos, negsuc}
use lib.ListN.{length, take, drop}
use Rattle.bits.specs.BitLists.{spell}
use Rattle.format.proofs.Sames.{and_true, true_and, sameℤ_sound}
use Rattle.format.proofs.Selections.{Distinct, Keyed, rows_keyed, marks_pick, marks_nameable}
use Rattle.format.proofs.Spells.{lines_threes}
use Rattle.format.proofs.Steps.{Gives, gives_done, gives_require, gives_taking, gives_numbered, gives_bind, Reads, reads_done, reads_require, reads_taking, reads_numbered, reads_bind}
use Rattle.format.specs.declared.Head.{Head}
use Rattle.format.specs.Masks.{Satellite, Sky}
use Rattle.format.specs.Messages.{Common, head_of, Keys, lines_of, nameable, selection, flagged}
use Rattle.format.specs.Rows.{absent, Column, Line, rows_of}
use Rattle.format.specs.Same.{sameℤ, same_list}
use Rattle.format.specs.Spelling.{rows_for, marks, chosen_by}
use Rattle.fitting.specs.Fits.{rows_fit}
use Rattle.fitting.specs.FitHeads.{number_fits, network_fits, flagged_fits}
use Rattle.fitting.proofs.FitHeads.{number_fits_lem, Carried, Fitting}
use Rattle.fitting.proofs.FitRows.{rows_fit_lem}

-- ---- what fits is read

-- a bit for each satellite
pub marks_count : (own : Satellite → ℕ) (sats : List Satellite) (rows : List (List ℤ)) → length (marks own sats rows) ≡ length sats
unfolding marks
marks_count own [] rows = refl
marks_count own (s ∷ ss) [] = ap suc (marks_count own ss [])
marks_count own (s ∷ ss) (r ∷ rs) =
    ap suc (go (ltb 0 (own s) && same_list sameℤ (take 2 r) (pos s.system ∷ pos s.number ∷ [])) (marks_count own ss (drop (own s) (r ∷ rs))) (marks_count own ss (r ∷ rs)))
  where
    go : (here : Bool) → length (marks own ss (drop (own s) (r ∷ rs))) ≡ length ss → length (marks own ss (r ∷ rs)) ≡ length ss
        → length (cond here (marks own ss (drop (own s) (r ∷ rs))) (marks own ss (r ∷ rs))) ≡ length ss
    go true e f = e
    go false e f = f

module _ (keys : Keys) (sky : Sky) where
  abbrev own : Satellite → ℕ
  own = rows_for keys sky

  abbrev told : List (List ℤ) → List Bool
  told rows = marks own sky.satellites rows

  abbrev chosen : ℤ → List (List ℤ) → List Satellite
  chosen network rows = chosen_by own sky.satellites network rows

  -- a flag and some bits are read to a network that fits, and to those that have rows
  record Chosen (network : ℤ) (rows : List (List ℤ)) : Type 0 where
    flag : ℕ
    bit : flag < 2 ^ 1
    front : List Bool
    selects : Reads (selection keys sky flag) front (record { network = network; chosen = chosen network rows })

some_network : (n : ℕ) → not (eqb (suc n) 0) ≡ true
some_network n = rw (ne_eqb (suc n) 0 (λ same. omega arith))

network_chosen : (keys : Keys) (sky : Sky) (network : ℤ) (rows : List (List ℤ)) → network_fits network ≡ true → Chosen keys sky network rows
unfolding network_fits selection chosen_by sameℤ
network_chosen keys sky (pos zero) rows fits = absurd (false≢true fits)
network_chosen keys sky (pos (suc n)) rows fits = record {
  flag = 1;
  bit = omega arith;
  front = spell 5 (suc n) ++ (told keys sky rows ++ []);
  selects =
      reads_numbered _ 5 (suc n) (ltb-true (suc n) 32 fits) (reads_require _ _ _ (some_network n)
      (reads_taking _ (length sky.satellites) (told keys sky rows) (marks_count (own keys sky) sky.satellites rows)
      (reads_require _ _ _ (marks_nameable keys sky rows) reads_done)));
}
network_chosen keys sky (negsuc n) rows fits =
    let none : absent ≡ negsuc n = sym (sameℤ_sound (negsuc n) absent fits) in
    subst (λ (z : ℤ). Chosen keys sky z rows) none (record { flag = 0; bit = omega arith; front = []; selects = reads_done })

pub flagged_carried : (n : ℕ) (keys : Keys) (shape : Bool → Bool → ℕ → List Column) (sky : Sky) (k : Common) (h : Head) (rows : List (List ℤ))
    → h ≡ head_of n k h.a h.b h.c → flagged_fits keys shape sky h rows ≡ true → Carried (flagged n keys shape sky k) h rows
unfolding flagged flagged_fits sameℤ
flagged_carried n keys shape sky k h rows same fits =
    let first = and_true (number_fits 1 h.a) _ fits in
    let second = and_true (number_fits 1 h.b) _ first.1 in
    let third = and_true (network_fits h.c) _ second.1 in
    let a = number_fits_lem 1 h.a first.0 in
    let b = number_fits_lem 1 h.b second.0 in
    let c = network_chosen keys sky h.c rows third.0 in
    let whole : head_of n k (pos a.value) (pos b.value) h.c ≡ h = sym (same ∙ (λ i. head_of n k (a.same i) (b.same i) h.c)) in
    let lines : List Line = lines_of keys (shape (eqb a.value 1) (eqb b.value 1)) sky (chosen keys sky h.c rows) in
    let bits : List Bool = spell 1 a.value ++ (spell 1 b.value ++ (spell 1 c.flag ++ (c.front ++ []))) in
    record {
      front = bits;
      lines = lines;
      heading =
          subst (λ (g : Head). Reads (flagged n keys shape sky k) bits (record { head = g; lines = lines })) whole
          (reads_numbered _ 1 a.value a.small
          (reads_numbered _ 1 b.value b.small
          (reads_numbered _ 1 c.flag c.bit
          (reads_bind _ c.selects reads_done))));
      fitting =
          subst (λ (z : ℤ). rows_fit (lines_of keys (shape (eqb a.value 1) (sameℤ z (pos 1))) sky (chosen keys sky h.c rows)) rows ≡ true) b.same
          (subst (λ (z : ℤ). rows_fit (lines_of keys (shape (sameℤ z (pos 1)) (sameℤ h.b (pos 1))) sky (chosen keys sky h.c rows)) rows ≡ true) a.same
          third.1);
    }

-- ---- what is read fits

network_fits_lem : (n : ℕ) → n < 2 ^ 5 → not (eqb n 0) ≡ true → network_fits (pos n) ≡ true
unfolding network_fits
network_fits_lem zero small some = absurd (false≢true some)
network_fits_lem (suc n) small some = lt-ltb (suc n) 32 small

selection_fits : (keys : Keys) (sky : Sky) → Distinct sky.satellites → (flag : ℕ)
    → Gives (selection keys sky flag) (λ s b. (network_fits s.network ≡ true)
    × ((rows : List (List ℤ)) → (nameable keys sky s.chosen ≡ true → Keyed (own keys sky) s.chosen rows) → chosen keys sky s.network rows ≡ s.chosen))
unfolding selection network_fits chosen_by sameℤ
selection_fits keys sky d zero = gives_done (refl, λ rows keyed. refl)
selection_fits keys sky d (suc one) =
    gives_numbered _ _ λ network small.
    gives_require _ _ _ λ some.
    gives_taking _ _ λ bits whole.
    gives_require _ _ _ λ named.
    gives_done (network_fits_lem network small some, λ rows keyed. rw (marks_pick (own keys sky) sky.satellites bits rows d whole (keyed named)))

pub flagged_fits_lem : (n : ℕ) (keys : Keys) (shape : Bool → Bool → ℕ → List Column) (sky : Sky) → Distinct sky.satellites → (k : Common)
    → Gives (flagged n keys shape sky k) (λ d b. (d.head ≡ head_of n k d.head.a d.head.b d.head.c) × Fitting (flagged_fits keys shape sky) d)
unfolding flagged flagged_fits head_of sameℤ number_fits
flagged_fits_lem n keys shape sky distinct k =
    gives_numbered _ _ λ a small.
    gives_numbered _ _ λ b bit.
    gives_numbered _ _ λ flag _.
    gives_bind (selection_fits keys sky distinct flag) λ s m it.
    let columns : ℕ → List Column = shape (eqb a 1) (eqb b 1) in
    gives_done (
      refl,
      λ l whole.
          let lines : List Line = lines_of keys columns sky s.chosen in
          let rows = rows_of lines l in
          let fit : rows_fit lines rows ≡ true = rows_fit_lem lines (lines_threes keys columns sky s.chosen) l (omega arith) in
          let found = it.1 rows (rows_keyed keys columns sky s.chosen l) in
          true_and (lt-ltb a 2 small) (true_and (lt-ltb b 2 bit) (true_and it.0
          (subst (λ (ss : List Satellite). rows_fit (lines_of keys columns sky ss) rows ≡ true) (sym found) fit))),
    )
