-- Programs taken apart step by step: what holds of whatever a program makes and of the bits that it took, and which bits a program reads whole.
-- Assumes nothing.
use mathlib.Core.Path.{◌≡◌, refl, sym, ap, subst, ◌∙◌}
use mathlib.Core.Bool.{Bool, true, false≢true}
use mathlib.Core.List.{List, [], ◌++◌, append-nil}
use Prim.Native.Nat.{ℕ, ◌+◌, ◌^◌, ◌≤◌, ◌<◌}
use native.Mathlib.Nat.{mod-eq_of_lt}
use native.Mathlib.Omega.{arith}
use lib.ListN.{length, take, drop, length-append}
use lib.Seq.{take-add, take_at, drop_at, drop-append_seam, length-take-le}
use Rattle.bits.specs.BitLists.{number, spell}
use Rattle.bits.proofs.BitLists.{number_lt, number_spell, spell_number, length_spell}
use Rattle.format.specs.declared.Refusal.{Refusal}
use Rattle.format.specs.Programs.{Program, done, refuse, field, ◌>>=◌, ◌>>◌, taking, numbered, require, well, later, run}
use Rattle.format.proofs.Runs.{run_field, run_bind, run_append, run_take, taken_le, began, both, required, require_true}

-- ---- the bits of a field

-- what a field of w bits says, spelled in w bits, is the field
pub field_spelled : (w : ℕ) (b : List Bool) → length b ≡ w → spell w (number b) ≡ b
field_spelled w b e = rw e at (spell_number b)

pub field_lt : (w : ℕ) (b : List Bool) → length b ≡ w → number b < 2 ^ w
field_lt w b e = rw e at (number_lt b)

-- ---- whatever bits

-- if the program ends well, then this holds of what it made and of the bits that it took
pub record Gives {A : Type 0} (p : Program A) (P : A → List Bool → Type 0) : Type 0 where
  pub gives : (l : List Bool) (a : A) (taken : ℕ) → run p l ≡ well a taken → P a (take taken l)

-- the bits of a field, then those after it
cut : (w : ℕ) (l : List Bool) (taken rest : ℕ) → taken ≡ w + rest → take taken l ≡ take w l ++ take rest (drop w l)
cut w l taken rest e = ap (λ (n : ℕ). take n l) e ∙ take-add w rest l

module _ {A : Type 0} {P : A → List Bool → Type 0} where
  pub gives_done : {a : A} → P a [] → Gives (done a) P
  unfolding run
  gives_done {a} h = record {
    gives = λ l b taken e.
        let same : a ≡ b = cc in
        let none : 0 ≡ taken = cc in
        rw (← same, ← none) h;
  }

  pub gives_refuse : (r : Refusal) → Gives (refuse r) P
  unfolding run
  gives_refuse r = record { gives = λ l a taken e. absurd (false≢true cc) }

  pub gives_require : (test : Bool) (r : Refusal) (p : Program A) → (test ≡ true → Gives p P) → Gives (require test r >> p) P
  gives_require test r p h = record {
    gives = λ l a taken e.
        let parts = required test r p l a taken e in
        (h parts.0).gives l a taken parts.1;
  }

  pub gives_taking : (w : ℕ) (k : List Bool → Program A) → ((b : List Bool) → length b ≡ w → Gives (k b) (λ a m. P a (b ++ m))) → Gives (taking w >>= k) P
  unfolding taking ◌>>=◌
  gives_taking w k h = record {
    gives = λ l a taken e.
        let b = began w k l a taken e in
        rw (cut w l taken b.rest b.sum) ((h (take w l) (length-take-le w l b.room)).gives (drop w l) a b.rest b.goes);
  }

  pub gives_numbered : (w : ℕ) (k : ℕ → Program A) → ((n : ℕ) → n < 2 ^ w → Gives (k n) (λ a m. P a (spell w n ++ m))) → Gives (numbered w >>= k) P
  unfolding numbered ◌>>=◌
  gives_numbered w k h = record {
    gives = λ l a taken e.
        let b = began w (λ bs. k (number bs)) l a taken e in
        let whole : length (take w l) ≡ w = length-take-le w l b.room in
        rw (cut w l taken b.rest b.sum, ← (field_spelled w (take w l) whole))
        ((h (number (take w l)) (field_lt w (take w l) whole)).gives (drop w l) a b.rest b.goes);
  }

  pub gives_bind : {B : Type 0} {Q : B → List Bool → Type 0} {p : Program B} {k : B → Program A} → Gives p Q
      → ((b : B) (m : List Bool) → Q b m → Gives (k b) (λ a n. P a (m ++ n))) → Gives (p >>= k) P
  gives_bind {B} {Q} {p} {k} g h = record {
    gives = λ l a taken e.
        let b = both p k l a taken e in
        rw (cut b.used l taken b.rest b.sum)
        ((h b.value (take b.used l) (g.gives l b.value b.used b.first)).gives (drop b.used l) a b.rest b.second);
  }

  -- what follows from it holds too
  pub gives_so : {Q : A → List Bool → Type 0} {p : Program A} → Gives p Q → ((a : A) (m : List Bool) → Q a m → P a m) → Gives p P
  gives_so g h = record { gives = λ l a taken e. h a (take taken l) (g.gives l a taken e) }

-- both hold
pub gives_both : {A : Type 0} {P Q : A → List Bool → Type 0} {p : Program A} → Gives p P → Gives p Q → Gives p (λ a m. P a m × Q a m)
gives_both g h = record { gives = λ l a taken e. (g.gives l a taken e, h.gives l a taken e) }

-- ---- these bits

-- the program reads these bits, all of them, to this
pub record Reads {A : Type 0} (p : Program A) (l : List Bool) (a : A) : Type 0 where
  pub reads : run p l ≡ well a (length l)

module _ {A : Type 0} {a : A} where
  pub reads_done : Reads (done a) [] a
  unfolding run
  reads_done = record { reads = refl }

  pub reads_require : (test : Bool) (r : Refusal) (p : Program A) {l : List Bool} → test ≡ true → Reads p l a → Reads (require test r >> p) l a
  reads_require test r p {l} e h = record { reads = ap (λ (q : Program A). run q l) (require_true test r p e) ∙ h.reads }

  reads_field : (next : List Bool → Program A) (w : ℕ) (b : List Bool) {l : List Bool} → length b ≡ w → Reads (next b) l a → Reads (field w next) (b ++ l) a
  unfolding later
  reads_field next w b {l} e h = record {
    reads =
        let room : w ≤ length (b ++ l) = rw length-append (omega arith) in
        run_field w next (b ++ l) room ∙ rw (take_at b l w e, drop_at b l w e, h.reads, length-append b l, e);
  }

  pub reads_taking : (k : List Bool → Program A) (w : ℕ) (b : List Bool) {l : List Bool} → length b ≡ w → Reads (k b) l a → Reads (taking w >>= k) (b ++ l) a
  unfolding taking ◌>>=◌
  reads_taking k w b e h = reads_field k w b e h

  pub reads_numbered : (k : ℕ → Program A) (w n : ℕ) {l : List Bool} → n < 2 ^ w → Reads (k n) l a → Reads (numbered w >>= k) (spell w n ++ l) a
  unfolding numbered ◌>>=◌
  reads_numbered k w n {l} small h =
      let back : number (spell w n) ≡ n = number_spell w n ∙ mod-eq_of_lt small in
      reads_field (λ b. k (number b)) w (spell w n) (length_spell w n) (subst (λ (j : ℕ). Reads (k j) l a) (sym back) h)

  pub reads_bind : {B : Type 0} (k : B → Program A) {p : Program B} {b : B} {l m : List Bool} → Reads p l b → Reads (k b) m a → Reads (p >>= k) (l ++ m) a
  unfolding later
  reads_bind k {p} {b} {l} {m} g h = record {
    reads =
        run_bind p k (l ++ m) b (length l) (run_append p l m b (length l) g.reads) ∙ rw (drop-append_seam l m, h.reads, length-append l m);
  }

  -- bits with none after them
  pub reads_end : {p : Program A} (l : List Bool) → Reads p (l ++ []) a → Reads p l a
  reads_end l h = rw append-nil at h

-- the bits that a program took it reads alone to the same
pub gives_itself : {A : Type 0} (p : Program A) → Gives p (λ a m. Reads p m a)
gives_itself p = record {
  gives = λ l a taken e. record { reads = run_take p l a taken e ∙ ap (well a) (sym (length-take-le taken l (taken_le p l a taken e))) };
}
