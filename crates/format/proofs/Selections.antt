-- No two satellites of a good mask are the same, so the rows of those that were selected, or of their cells, show the selection.
-- Assumes nothing.
use mathlib.Core.Path.{◌≡◌, refl, sym, ap, ◌∙◌}
use mathlib.Core.Bool.{Bool, true, false, cond, ◌&&◌, false≢true, not-eq-not}
use mathlib.Core.List.{List, [], ◌∷◌, ◌++◌, map, flat_map, map-append}
use Prim.Native.Nat.{ℕ, suc, ◌≤◌, ◌<◌}
use native.Mathlib.Omega.{arith}
use borrow.Author.Tests.{not-true, eqb-true, eqb-false, ltb-true, lt-ltb}
use lib.Dec.{eqb, ltb}
use lib.IntN.{ℤ, pos}
use lib.ListN.{length, take, drop, length-map, length-append}
use lib.Seq.{drop_at, drop-drop}
use Rattle.format.specs.Good.{good_system, good_systems, good}
use Rattle.format.specs.Masks.{System, Mask, mask, Satellite, Cell, Sky, places_from, pick, satellites_of, satellites, same_satellite, cells_on}
use Rattle.format.specs.Messages.{Keys, by_satellite, by_cell, lines_of, satellite_lines, cell_lines, celled, nameable, named, ids_of}
use Rattle.format.specs.Rows.{Column, Line, shape_width, values_of, body_width, rows_of}
use Rattle.format.specs.Same.{sameℤ, same_list}
use Rattle.format.specs.Spelling.{rows_for, marks}
use Rattle.format.proofs.Bodies.{All, none, more, all_weaken, all_append, rows_count}
use Rattle.format.proofs.MakesBack.{good_system_lem, named_snoc}
use Rattle.format.proofs.Sames.{and_true, sameℤ_sound, sameℤ_refl, same_list_sound, same_list_refl}

-- ---- no two satellites of a good mask are the same

abbrev pub key_of : Satellite → List ℤ
key_of s = pos s.system ∷ pos s.number ∷ []

-- not the same satellite
abbrev pub Apart : Satellite → Satellite → Type 0
Apart s t = key_of s ≡ key_of t → ⊥

pub data Distinct : List Satellite → Type 0 where
  nobody : Distinct []
  another : {s : Satellite} {ss : List Satellite} → All (Apart s) ss → Distinct ss → Distinct (s ∷ ss)

distinct_append : {xs ys : List Satellite} → Distinct xs → Distinct ys → All (λ x. All (Apart x) ys) xs → Distinct (xs ++ ys)
distinct_append nobody ds across = ds
distinct_append (another p ps) ds (more a across) = another (all_append p a) (distinct_append ps ds across)

-- the satellites of one system, from the k-th place on, have numbers past k that increase
abbrev Past : ℕ → ℕ → Satellite → Type 0
Past id k s = (s.system ≡ id) × (k < s.number)

abbrev placed : ℕ → ℕ → List Bool → List Satellite
placed id k l = map (λ place. record { system = id; number = suc place }) (places_from k l)

system_distinct : (id k : ℕ) (l : List Bool) → All (Past id k) (placed id k l) × Distinct (placed id k l)
unfolding places_from
system_distinct id k [] = (none, nobody)
system_distinct id k (true ∷ l) =
    let first : Satellite = record { system = id; number = suc k } in
    let rest = system_distinct id (suc k) l in (
      more {x = first} (refl, omega arith) (all_weaken (λ s p. (p.0, omega (arith, p.1))) rest.0),
      another {s = first} (all_weaken (λ s p same. let n : suc k ≡ s.number = cc in omega (arith, p.1)) rest.0) rest.1,
    )
system_distinct id k (false ∷ l) =
    let rest = system_distinct id (suc k) l in
    (all_weaken (λ s p. (p.0, omega (arith, p.1))) rest.0, rest.1)

-- no system after others has an id that is named among them
cond_false : (t r : Bool) → cond t true r ≡ false → (t ≡ false) × (r ≡ false)
cond_false true r e = absurd (false≢true (sym e))
cond_false false r e = (refl, e)

named_before : (id : ℕ) (before : List System) (s : System) → named id (ids_of (before ++ (s ∷ []))) ≡ false → (named id (ids_of before) ≡ false) × (eqb id s.id ≡ false)
named_before id before s e =
    let both = cond_false (eqb id s.id) _ (sym (named_snoc id before s) ∙ e) in
    (both.1, both.0)

-- satellites of systems after others: none of a system named before, and no two the same
distinct_from : (before ss : List System) → good_systems before ss ≡ true → All (λ t. named t.system (ids_of before) ≡ false) (satellites ss) × Distinct (satellites ss)
unfolding good_systems satellites satellites_of flat_map
distinct_from before [] e = (none, nobody)
distinct_from before (s ∷ ss) e =
    let parts = and_true (good_system before s) _ e in
    let here = system_distinct s.id 0 s.satellites in
    let others = distinct_from (before ++ (s ∷ [])) ss parts.1 in (
      all_append (all_weaken (λ t p. rw p.0 (not-true _ (good_system_lem before s parts.0).fresh)) here.0) (all_weaken (λ t unnamed. (named_before t.system before s unnamed).0) others.0),
      distinct_append here.1 others.1
          (all_weaken (λ t p. all_weaken (λ u unnamed same. eqb-false u.system s.id (named_before u.system before s unnamed).1 (cc p.0)) others.0) here.0),
    )

pub satellites_distinct : (m : Mask) → good (mask m) ≡ true → Distinct (satellites m.systems)
unfolding good
satellites_distinct m e = (distinct_from [] m.systems (and_true (ltb m.iod 16) _ e).1).1

-- ---- which satellites were selected can be seen from the rows

-- rows of satellites one after the other, so many of each, the first of which begins with its keys
pub data Keyed (own : Satellite → ℕ) : List Satellite → List (List ℤ) → Type 0 where
  unkeyed : Keyed own [] []
  keyed : {s : Satellite} {ss : List Satellite} {r : List ℤ} (rs : List (List ℤ)) {rest : List (List ℤ)} → take 2 r ≡ key_of s → length (r ∷ rs) ≡ own s
      → Keyed own ss rest → Keyed own (s ∷ ss) (r ∷ (rs ++ rest))

satellites_keyed : (shape : ℕ → List Column) (sky : Sky) (sats : List Satellite) (l : List Bool) → Keyed (rows_for by_satellite sky) sats (rows_of (satellite_lines shape sats) l)
unfolding satellite_lines rows_of rows_for
satellites_keyed shape sky [] l = unkeyed
satellites_keyed shape sky (s ∷ ss) l = keyed [] refl refl (satellites_keyed shape sky ss (drop (shape_width (shape s.system)) l))

-- the cells of a satellite are its own
pub same_key : (s t : Satellite) → same_satellite s t ≡ true → key_of s ≡ key_of t
unfolding same_satellite
same_key s t e =
    let both = and_true (eqb s.system t.system) _ e in
    λ i. pos (eqb-true s.system t.system both.0 i) ∷ pos (eqb-true s.number t.number both.1 i) ∷ []

pub own_cells : (cs : List Cell) (s : Satellite) → All (λ c. key_of c.satellite ≡ key_of s) (cells_on cs s)
unfolding cells_on
own_cells [] s = none
own_cells (c ∷ cs) s = go (same_satellite c.satellite s) refl (own_cells cs s)
  where
    go : (b : Bool) → same_satellite c.satellite s ≡ b → All (λ x. key_of x.satellite ≡ key_of s) (cells_on cs s)
        → All (λ x. key_of x.satellite ≡ key_of s) (cond b (c ∷ cells_on cs s) (cells_on cs s))
    go true e rest = more (same_key c.satellite s e) rest
    go false e rest = rest

pub rows_append : (xs ys : List Line) (l : List Bool) → rows_of (xs ++ ys) l ≡ rows_of xs l ++ rows_of ys (drop (body_width xs) l)
unfolding rows_of body_width
rows_append [] ys l = refl
rows_append (x ∷ xs) ys l =
    ap (λ (rs : List (List ℤ)). (x.keys ++ values_of x.shape l) ∷ rs) (rows_append xs ys (drop (shape_width x.shape) l)
    ∙ ap (λ (m : List Bool). rows_of xs (drop (shape_width x.shape) l) ++ rows_of ys m) (drop-drop (body_width xs) (shape_width x.shape) l))

-- so the rows of a satellite that has one are keyed by it
group_keyed : {own : Satellite → ℕ} {ss : List Satellite} {rest : List (List ℤ)} (shape : ℕ → List Column) (s : Satellite) (cs : List Cell) (l : List Bool)
    → All (λ c. key_of c.satellite ≡ key_of s) cs → ltb 0 (length cs) ≡ true → length cs ≡ own s → Keyed own ss rest
    → Keyed own (s ∷ ss) (rows_of (cell_lines shape cs) l ++ rest)
unfolding cell_lines rows_of
group_keyed shape s [] l alike some size k = absurd (omega (arith, ltb-true 0 0 some))
group_keyed shape s (c ∷ cs) l (more it its) some size k =
    let rest : List Bool = drop (shape_width (shape c.satellite.system)) l in
    let long : length (rows_of (cell_lines shape cs) rest) ≡ length cs = rows_count (cell_lines shape cs) rest ∙ length-map cs _ in
    keyed (rows_of (cell_lines shape cs) rest) it (ap suc long ∙ size) k

cells_keyed : (shape : ℕ → List Column) (sky : Sky) (sats : List Satellite) (l : List Bool) → celled sky.cells sats ≡ true
    → Keyed (rows_for by_cell sky) sats (rows_of (cell_lines shape (flat_map (cells_on sky.cells) sats)) l)
unfolding cell_lines flat_map celled rows_for rows_of
cells_keyed shape sky [] l each = unkeyed
cells_keyed shape sky (s ∷ ss) l each =
    let here : List Cell = cells_on sky.cells s in
    let both = and_true (ltb 0 (length here)) _ each in
    let parted = ap (λ (lines : List Line). rows_of lines l) (map-append _ here (flat_map (cells_on sky.cells) ss)) ∙ rows_append (cell_lines shape here) _ l in
    rw parted (group_keyed shape s here l (own_cells sky.cells s) both.0 refl (cells_keyed shape sky ss _ both.1))

pub rows_keyed : (keys : Keys) (shape : ℕ → List Column) (sky : Sky) (sats : List Satellite) (l : List Bool) → nameable keys sky sats ≡ true
    → Keyed (rows_for keys sky) sats (rows_of (lines_of keys shape sky sats) l)
unfolding lines_of nameable
rows_keyed by_satellite shape sky sats l named = satellites_keyed shape sky sats l
rows_keyed by_cell shape sky sats l named = cells_keyed shape sky sats l named

pub all_pick : {A : Type 0} {P : A → Type 0} (bits : List Bool) (xs : List A) → All P xs → All P (pick bits xs)
unfolding pick
all_pick [] xs ps = none
all_pick (b ∷ bits) [] ps = none
all_pick (true ∷ bits) (x ∷ xs) (more p ps) = more p (all_pick bits xs ps)
all_pick (false ∷ bits) (x ∷ xs) (more p ps) = all_pick bits xs ps

-- a row tells whose keys it begins with
own_key : (s : Satellite) (r : List ℤ) → take 2 r ≡ key_of s → same_list sameℤ (take 2 r) (key_of s) ≡ true
own_key s r e = rw e (same_list_refl sameℤ sameℤ_refl (key_of s))

other_key : {own : Satellite → ℕ} (s : Satellite) (r : List ℤ) {ts : List Satellite} {rows : List (List ℤ)} → All (Apart s) ts → Keyed own ts (r ∷ rows)
    → same_list sameℤ (take 2 r) (key_of s) ≡ false
other_key {own = own} s r {rows = rows} none kept = elim kept [ ]
other_key s r (more apart ps) (keyed rs e size k) = not-eq-not.0 λ same. apart (cc (same_list_sound sameℤ sameℤ_sound (take 2 r) (key_of s) same))

and_false : (b : Bool) → b && false ≡ false
and_false true = refl
and_false false = refl

-- so the rows of those selected show the selection
pub marks_pick : (own : Satellite → ℕ) (sats : List Satellite) (bits : List Bool) (rows : List (List ℤ)) → Distinct sats → length bits ≡ length sats
    → Keyed own (pick bits sats) rows → marks own sats rows ≡ bits
unfolding marks pick
marks_pick own [] [] rows d size k = refl
marks_pick own [] (b ∷ bits) rows d size k = absurd (omega arith)
marks_pick own (s ∷ ss) [] rows d size k = absurd (omega arith)
marks_pick own (s ∷ ss) (true ∷ bits) [] d size k = elim k [ ]
marks_pick own (s ∷ ss) (true ∷ bits) (r ∷ rows) (another a d) size (keyed rs {rest} e long k) =
    rw (lt-ltb 0 (own s) (omega arith), own_key s r e, drop_at (r ∷ rs) rest (own s) long, marks_pick own ss bits rest d (omega arith) k)
marks_pick own (s ∷ ss) (false ∷ bits) [] (another a d) size k = rw (marks_pick own ss bits [] d (omega arith) k)
marks_pick own (s ∷ ss) (false ∷ bits) (r ∷ rows) (another a d) size k =
    rw (other_key s r (all_pick bits ss a) k, and_false (ltb 0 (own s)), marks_pick own ss bits (r ∷ rows) d (omega arith) k)

-- and one that they show names nobody without a row
marks_own : (own : Satellite → ℕ) (sats : List Satellite) (rows : List (List ℤ)) → All (λ s. ltb 0 (own s) ≡ true) (pick (marks own sats rows) sats)
unfolding marks pick
marks_own own [] rows = none
marks_own own (s ∷ ss) [] = marks_own own ss []
marks_own own (s ∷ ss) (r ∷ rs) = go (ltb 0 (own s)) (same_list sameℤ (take 2 r) (key_of s)) refl (marks_own own ss (drop (own s) (r ∷ rs))) (marks_own own ss (r ∷ rs))
  where
    go : (some here : Bool) → ltb 0 (own s) ≡ some → All (λ x. ltb 0 (own x) ≡ true) (pick (marks own ss (drop (own s) (r ∷ rs))) ss)
        → All (λ x. ltb 0 (own x) ≡ true) (pick (marks own ss (r ∷ rs)) ss)
        → All (λ x. ltb 0 (own x) ≡ true) (pick ((some && here) ∷ cond (some && here) (marks own ss (drop (own s) (r ∷ rs))) (marks own ss (r ∷ rs))) (s ∷ ss))
    go true true e with without = more e with
    go true false e with without = without
    go false here e with without = without

celled_all : (cs : List Cell) (sats : List Satellite) → All (λ s. ltb 0 (length (cells_on cs s)) ≡ true) sats → celled cs sats ≡ true
unfolding celled
celled_all cs [] none = refl
celled_all cs (s ∷ ss) (more p ps) = rw p (celled_all cs ss ps)

pub marks_nameable : (keys : Keys) (sky : Sky) (rows : List (List ℤ)) → nameable keys sky (pick (marks (rows_for keys sky) sky.satellites rows) sky.satellites) ≡ true
unfolding nameable rows_for
marks_nameable by_satellite sky rows = refl
marks_nameable by_cell sky rows = celled_all sky.cells _ (marks_own (rows_for by_cell sky) sky.satellites rows)

-- ---- cells go to one satellite each

pub distinct_pick : (bits : List Bool) {sats : List Satellite} → Distinct sats → Distinct (pick bits sats)
unfolding pick
distinct_pick [] d = nobody
distinct_pick (b ∷ bits) nobody = nobody
distinct_pick (true ∷ bits) (another a d) = another (all_pick bits _ a) (distinct_pick bits d)
distinct_pick (false ∷ bits) (another a d) = distinct_pick bits d

-- one that is none of theirs
none_more : (c : Cell) (cs : List Cell) (sats : List Satellite) → All (λ t. same_satellite c.satellite t ≡ false) sats
    → flat_map (cells_on (c ∷ cs)) sats ≡ flat_map (cells_on cs) sats
unfolding cells_on flat_map
none_more c cs [] none = refl
none_more c cs (s ∷ ss) (more p ps) = rw (p, none_more c cs ss ps)

apart_cell : (c : Cell) (s t : Satellite) → same_satellite c.satellite s ≡ true → Apart s t → same_satellite c.satellite t ≡ false
apart_cell c s t same apart = not-eq-not.0 λ other. apart (sym (same_key c.satellite s same) ∙ same_key c.satellite t other)

one_more : (c : Cell) (cs : List Cell) {sats : List Satellite} → Distinct sats → length (flat_map (cells_on (c ∷ cs)) sats) ≤ suc (length (flat_map (cells_on cs) sats))
unfolding cells_on flat_map
one_more c cs nobody = omega arith
one_more c cs (another {s} {ss} a d) = go (same_satellite c.satellite s) refl (one_more c cs d)
  where
    go : (b : Bool) → same_satellite c.satellite s ≡ b → length (flat_map (cells_on (c ∷ cs)) ss) ≤ suc (length (flat_map (cells_on cs) ss))
        → length (cond b (c ∷ cells_on cs s) (cells_on cs s) ++ flat_map (cells_on (c ∷ cs)) ss) ≤ suc (length (cells_on cs s ++ flat_map (cells_on cs) ss))
    go true same rest = rw (none_more c cs ss (all_weaken (λ t apart. apart_cell c s t same apart) a)) (omega arith)
    go false same rest = simp length-append (omega (arith, rest))

-- so those of some satellites are no more than all
pub cells_shared : (cs : List Cell) {sats : List Satellite} → Distinct sats → length (flat_map (cells_on cs) sats) ≤ length cs
unfolding cells_on flat_map
cells_shared [] nobody = omega arith
cells_shared [] (another a d) = cells_shared [] d
cells_shared (c ∷ cs) d = omega (arith, one_more c cs d, cells_shared cs d)
