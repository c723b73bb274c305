-- Cells by strips: of satellites of which no two are the same, each one's cells are those of its own strip; so the cells of those that a selection chooses are
-- those of the strips that it chooses. Assumes nothing.
use Rattle.bits.proofs.Words.{◌≡◌, refl, sym, ap, ap₂, ◌∙◌, Bool, true, false, cond, ◌&&◌, List, [], ◌∷◌, ◌++◌, map, ℕ, zero, suc, ◌^◌, ◌≤◌, ◌<◌, arith, ltb, length, take}
use mathlib.Core.Bool.{not-eq-not}
use mathlib.Core.List.{flat_map, append-nil}
use borrow.Author.Tests.{ltb-true, lt-ltb}
use lib.Count.{ones}
use lib.ListN.{length-map}
use Rattle.bits.specs.BitLists.{spell}
use Rattle.format.specs.Masks.{Satellite, Cell, places_from, pick, same_satellite, cells_on}
use Rattle.format.specs.Messages.{celled}
use Rattle.format.proofs.Bodies.{All, none, more}
use Rattle.format.proofs.Sames.{and_true, eqb_refl}
use Rattle.format.proofs.Selections.{Apart, Distinct, another, all_pick, same_key}
use Rattle.holding.specs.Bounds.{every, narrow}
use Rattle.holding.specs.Held.{cells_at, strip_cells}
use Rattle.holding.proofs.Places.{ones_places, no_place, first_place}
use Rattle.table.specs.Bodies.{all_set}

-- ---- the cells of one satellite

on_append : (xs ys : List Cell) (s : Satellite) → cells_on (xs ++ ys) s ≡ cells_on xs s ++ cells_on ys s
unfolding cells_on
on_append [] ys s = refl
on_append (c ∷ cs) ys s = go (same_satellite c.satellite s) (on_append cs ys s)
  where
    go : (b : Bool) → cells_on (cs ++ ys) s ≡ cells_on cs s ++ cells_on ys s
        → cond b (c ∷ cells_on (cs ++ ys) s) (cells_on (cs ++ ys) s) ≡ cond b (c ∷ cells_on cs s) (cells_on cs s) ++ cells_on ys s
    go true e = ap (λ (l : List Cell). c ∷ l) e
    go false e = e

same_self : (s : Satellite) → same_satellite s s ≡ true
unfolding same_satellite
same_self s = rw (eqb_refl s.system, eqb_refl s.number)

on_own : (s : Satellite) (places : List ℕ) → cells_on (cells_at s places) s ≡ cells_at s places
unfolding cells_on
on_own s [] = refl
on_own s (p ∷ ps) = rw (same_self s) (ap (λ (l : List Cell). record { satellite = s; signal = p } ∷ l) (on_own s ps))

apart_same : (s t : Satellite) → Apart s t → same_satellite s t ≡ false
apart_same s t apart = not-eq-not.0 λ same. apart (same_key s t same)

on_other : (s t : Satellite) (places : List ℕ) → Apart s t → cells_on (cells_at s places) t ≡ []
unfolding cells_on
on_other s t [] apart = refl
on_other s t (p ∷ ps) apart = rw (apart_same s t apart) (on_other s t ps apart)

-- ---- by strips

abbrev own : Satellite → ℕ → List Cell
own s strip = cells_at s (places_from 0 (spell 16 strip))

-- none of the others' is its own
on_none : (s : Satellite) (sats : List Satellite) (strips : List ℕ) → All (λ t. Apart t s) sats → cells_on (strip_cells sats strips) s ≡ []
unfolding strip_cells cells_on
on_none s [] strips none = refl
on_none s (t ∷ ts) [] (more p ps) = refl
on_none s (t ∷ ts) (x ∷ xs) (more p ps) = on_append (own t x) (strip_cells ts xs) s ∙ rw (on_other t s (places_from 0 (spell 16 x)) p) (on_none s ts xs ps)

abbrev turned : {s : Satellite} {ts : List Satellite} → All (Apart s) ts → All (λ t. Apart t s) ts
turned none = none
turned (more p ps) = more (λ e. p (sym e)) (turned ps)

on_first : (s : Satellite) (sats : List Satellite) (x : ℕ) (xs : List ℕ) → All (Apart s) sats → cells_on (strip_cells (s ∷ sats) (x ∷ xs)) s ≡ own s x
unfolding strip_cells
on_first s sats x xs apart =
    on_append (own s x) (strip_cells sats xs) s
    ∙ rw (on_own s (places_from 0 (spell 16 x)), on_none s sats xs (turned apart)) (append-nil (own s x))

on_behind : (s t : Satellite) (sats : List Satellite) (x : ℕ) (xs : List ℕ) → Apart s t → cells_on (strip_cells (s ∷ sats) (x ∷ xs)) t ≡ cells_on (strip_cells sats xs) t
unfolding strip_cells
on_behind s t sats x xs apart = on_append (own s x) (strip_cells sats xs) t ∙ rw (on_other s t (places_from 0 (spell 16 x)) apart)

-- ---- of the satellites that bits choose

cells_behind : (s : Satellite) (sats : List Satellite) (x : ℕ) (xs : List ℕ) (ts : List Satellite) → All (Apart s) ts
    → flat_map (cells_on (strip_cells (s ∷ sats) (x ∷ xs))) ts ≡ flat_map (cells_on (strip_cells sats xs)) ts
unfolding flat_map
cells_behind s sats x xs [] none = refl
cells_behind s sats x xs (t ∷ ts) (more p ps) = ap₂ ◌++◌ (on_behind s t sats x xs p) (cells_behind s sats x xs ts ps)

pub picked_cells : (bits : List Bool) (sats : List Satellite) (strips : List ℕ) → Distinct sats → length sats ≤ length strips
    → flat_map (cells_on (strip_cells sats strips)) (pick bits sats) ≡ strip_cells (pick bits sats) (pick bits strips)
unfolding pick flat_map strip_cells
picked_cells [] sats strips d room = refl
picked_cells (b ∷ bits) [] strips d room = refl
picked_cells (b ∷ bits) (s ∷ ss) [] d room = absurd (omega arith)
picked_cells (true ∷ bits) (s ∷ ss) (x ∷ xs) (another apart d) room =
    ap₂ ◌++◌ (on_first s ss x xs apart) (cells_behind s ss x xs (pick bits ss) (all_pick bits ss apart) ∙ picked_cells bits ss xs d (omega arith))
picked_cells (false ∷ bits) (s ∷ ss) (x ∷ xs) (another apart d) room =
    cells_behind s ss x xs (pick bits ss) (all_pick bits ss apart) ∙ picked_cells bits ss xs d (omega arith)

-- ---- how many cells each has

module _ (s : Satellite) (sats : List Satellite) (x : ℕ) (xs : List ℕ) where
  abbrev all : List Cell
  all = strip_cells (s ∷ sats) (x ∷ xs)

  counts_behind : (ts : List Satellite) → All (Apart s) ts → map (λ t. length (cells_on all t)) ts ≡ map (λ t. length (cells_on (strip_cells sats xs) t)) ts
  counts_behind [] none = refl
  counts_behind (t ∷ ts) (more p ps) = ap₂ ◌∷◌ (ap length (on_behind s t sats x xs p)) (counts_behind ts ps)

  celled_behind : (ts : List Satellite) → All (Apart s) ts → celled all ts ≡ celled (strip_cells sats xs) ts
  unfolding celled
  celled_behind [] none = refl
  celled_behind (t ∷ ts) (more p ps) = ap₂ (λ (n : ℕ) (b : Bool). ltb 0 n && b) (ap length (on_behind s t sats x xs p)) (celled_behind ts ps)

  -- the first has as many as its strip has ones
  first_count : All (Apart s) sats → x < 2 ^ 16 → length (cells_on all s) ≡ ones x
  first_count apart thin = ap length (on_first s sats x xs apart) ∙ length-map (places_from 0 (spell 16 x)) _ ∙ sym (ones_places 16 x 0 thin)

pub own_counts : (sats : List Satellite) (strips : List ℕ) → Distinct sats → length sats ≤ length strips → narrow 16 strips ≡ true
    → map (λ s. length (cells_on (strip_cells sats strips) s)) sats ≡ map ones (take (length sats) strips)
unfolding every
own_counts [] strips d room thin = refl
own_counts (s ∷ ss) [] d room thin = absurd (omega arith)
own_counts (s ∷ ss) (x ∷ xs) (another apart d) room thin =
    let both = and_true (ltb x (2 ^ 16)) _ thin in
    ap₂ ◌∷◌ (first_count s ss x xs apart (ltb-true x (2 ^ 16) both.0)) (counts_behind s ss x xs ss apart ∙ own_counts ss xs d (omega arith) both.1)

-- one has a cell whose strip is not 0
some_places : (x : ℕ) → x < 2 ^ 16 → ltb 0 (ones x) ≡ ltb 0 x
some_places zero thin = rw (ones_places 16 0 0 (omega arith), no_place 16 0)
some_places (suc x) thin =
    let some : 1 ≤ ones (suc x) = rw (ones_places 16 (suc x) 0 thin, (first_place 15 (suc x) 0 (omega arith) thin).2) (omega arith) in
    lt-ltb 0 (ones (suc x)) some ∙ sym (lt-ltb 0 (suc x) (omega arith))

pub picked_celled : (bits : List Bool) (sats : List Satellite) (strips : List ℕ) → Distinct sats → length sats ≤ length strips → narrow 16 strips ≡ true
    → celled (strip_cells sats strips) (pick bits sats) ≡ all_set (pick bits (take (length sats) strips))
unfolding pick celled all_set every
picked_celled [] sats strips d room thin = refl
picked_celled (b ∷ bits) [] strips d room thin = refl
picked_celled (b ∷ bits) (s ∷ ss) [] d room thin = absurd (omega arith)
picked_celled (true ∷ bits) (s ∷ ss) (x ∷ xs) (another apart d) room thin =
    let both = and_true (ltb x (2 ^ 16)) _ thin in
    ap₂ (λ (b c : Bool). b && c) (ap (ltb 0) (first_count s ss x xs apart (ltb-true x (2 ^ 16) both.0)) ∙ some_places x (ltb-true x (2 ^ 16) both.0))
    (celled_behind s ss x xs (pick bits ss) (all_pick bits ss apart) ∙ picked_celled bits ss xs d (omega arith) both.1)
picked_celled (false ∷ bits) (s ∷ ss) (x ∷ xs) (another apart d) room thin =
    let both = and_true (ltb x (2 ^ 16)) _ thin in
    celled_behind s ss x xs (pick bits ss) (all_pick bits ss apart) ∙ picked_celled bits ss xs d (omega arith) both.1
