-- Laws of programs of fields: what a run of one after the other is, that a run takes bits that are there, and that it does not look at bits past those.
-- Assumes nothing.
use mathlib.Core.Path.{◌≡◌, refl, sym, ap, ◌∙◌}
use mathlib.Core.Bool.{Bool, true, false, false≢true}
use mathlib.Core.List.{List, ◌++◌}
use Prim.Native.Nat.{ℕ, ◌+◌, ◌-◌, ◌≤◌, ◌<◌}
use native.Mathlib.Nat.{zero-add, add_assoc, le_refl, suc-pred-eq_of_pos}
use native.Mathlib.Decide.{dec_lt}
use native.Mathlib.Omega.{arith}
use lib.ListN.{length, take, drop, length-append, length-drop}
use lib.Seq.{drop-drop, drop_at, take-add, take-append-le, take-take, length-take-le}
use Rattle.format.specs.declared.Refusal.{Refusal}
use Rattle.format.specs.declared.Refusal.TheVariants.{Short}
use Rattle.format.specs.Programs.{Program, done, refuse, field, ◌>>=◌, ◌>>◌, require, Ended, well, badly, later, unless_short, run}

-- ---- a field is there, or short

pub run_field : {A : Type 0} (w : ℕ) (next : List Bool → Program A) (l : List Bool) → w ≤ length l
    → run (field w next) l ≡ later w (run (next (take w l)) (drop w l))
unfolding run unless_short
run_field w next l room =
    let none : w - length l ≡ 0 = omega arith in
    rw none

pub run_short : {A : Type 0} (w : ℕ) (next : List Bool → Program A) (l : List Bool) → length l < w
    → run (field w next) l ≡ badly Short (w - length l)
unfolding run unless_short
run_short w next l over =
    let some : 0 < w - length l = omega arith in
    rw (← (suc-pred-eq_of_pos some))

pub drop_take : (w n : ℕ) (l : List Bool) → w ≤ length l → drop w (take (w + n) l) ≡ take n (drop w l)
drop_take w n l h = ap (drop w) (take-add w n l) ∙ drop_at (take w l) (take n (drop w l)) w (length-take-le w l h)

-- ---- ends

later_zero : {A : Type 0} (e : Ended A) → later 0 e ≡ e
unfolding later
later_zero (well a taken) = ap (well a) (zero-add taken)
later_zero (badly r missing) = refl

pub later_later : {A : Type 0} (v w : ℕ) (e : Ended A) → later v (later w e) ≡ later (v + w) e
unfolding later
later_later v w (well a taken) = ap (well a) (sym (add_assoc v w taken))
later_later v w (badly r missing) = refl

later_well : {A : Type 0} (w : ℕ) (e : Ended A) (a : A) (taken : ℕ) → later w e ≡ well a taken → (rest : ℕ) × (e ≡ well a rest) × (taken ≡ w + rest)
unfolding later
later_well w (well b rest) a taken e = (rest, cc, cc)
later_well w (badly r missing) a taken e = absurd (false≢true cc)

badly_later : {A : Type 0} (w : ℕ) (r : Refusal) (missing : ℕ) → later {A = A} w (badly r missing) ≡ badly r missing
unfolding later
badly_later w r missing = refl

pub later_badly : {A : Type 0} (w : ℕ) (e : Ended A) (r : Refusal) (missing : ℕ) → later w e ≡ badly r missing → e ≡ badly r missing
unfolding later
later_badly w (well b rest) r missing e = absurd (false≢true cc)
later_badly w (badly q rest) r missing e = e

pub not_well : {A : Type 0} (r : Refusal) (missing : ℕ) (a : A) (taken : ℕ) → badly r missing ≡ well a taken → ⊥
not_well r missing a taken e = false≢true cc

-- ---- a run that ended well

-- it began with a field that was there
pub record Began {A : Type 0} (w : ℕ) (next : List Bool → Program A) (l : List Bool) (a : A) (taken : ℕ) : Type 0 where
  pub room : w ≤ length l
  pub rest : ℕ
  pub sum : taken ≡ w + rest
  pub goes : run (next (take w l)) (drop w l) ≡ well a rest

pub began : {A : Type 0} (w : ℕ) (next : List Bool → Program A) (l : List Bool) (a : A) (taken : ℕ) → run (field w next) l ≡ well a taken → Began w next l a taken
began w next l a taken e = go (dec_lt (length l) w)
  where
    go : Dec (length l < w) → Began w next l a taken
    go (yes over) = absurd (not_well Short (w - length l) a taken (sym (run_short w next l over) ∙ e))
    go (no there) =
        let h : w ≤ length l = omega arith in
        let parts = later_well w (run (next (take w l)) (drop w l)) a taken (sym (run_field w next l h) ∙ e) in
        record { room = h; rest = parts.0; sum = parts.2; goes = parts.1 }

-- it took bits that were there
pub taken_le : {A : Type 0} (p : Program A) (l : List Bool) (a : A) (taken : ℕ) → run p l ≡ well a taken → taken ≤ length l
unfolding run
taken_le (done b) l a taken e =
    let none : 0 ≡ taken = cc in
    omega arith
taken_le (refuse r) l a taken e = absurd (not_well r 0 a taken e)
taken_le (field w next) l a taken e =
    let b = began w next l a taken e in
    let h = taken_le (next (take w l)) (drop w l) a b.rest b.goes in
    omega (arith, b.room, b.sum, h, length-drop w l)

-- one after the other
pub run_bind : {A B : Type 0} (p : Program A) (k : A → Program B) (l : List Bool) (a : A) (taken : ℕ) → run p l ≡ well a taken
    → run (p >>= k) l ≡ later taken (run (k a) (drop taken l))
unfolding run ◌>>=◌
run_bind (done b) k l a taken e =
    let none : 0 ≡ taken = cc in
    let same : b ≡ a = cc in
    rw (← none, ← same) (sym (later_zero (run (k b) l)))
run_bind (refuse r) k l a taken e = absurd (not_well r 0 a taken e)
run_bind (field w next) k l a taken e =
    let b = began w next l a taken e in
    run_field w (λ bs. next bs >>= k) l b.room
    ∙ rw (run_bind (next (take w l)) k (drop w l) a b.rest b.goes, later_later, drop-drop b.rest w l, ← b.sum)

pub run_bind_badly : {A B : Type 0} (p : Program A) (k : A → Program B) (l : List Bool) (r : Refusal) (missing : ℕ) → run p l ≡ badly r missing
    → run (p >>= k) l ≡ badly r missing
unfolding run ◌>>=◌
run_bind_badly (done b) k l r missing e = absurd (not_well r missing b 0 (sym e))
run_bind_badly (refuse q) k l r missing e =
    let same : q ≡ r = cc in
    let none : 0 ≡ missing = cc in
    rw (same, none)
run_bind_badly (field w next) k l r missing e = go (run_bind_badly (next (take w l)) k (drop w l) r missing) (dec_lt (length l) w)
  where
    go : (run (next (take w l)) (drop w l) ≡ badly r missing → run (next (take w l) >>= k) (drop w l) ≡ badly r missing) → Dec (length l < w)
        → run (field w (λ bs. next bs >>= k)) l ≡ badly r missing
    go more (yes over) =
        let f = sym (run_short w next l over) ∙ e in
        let same : Short ≡ r = cc in
        let count : w - length l ≡ missing = cc in
        run_short w (λ bs. next bs >>= k) l over ∙ rw (same, count)
    go more (no there) =
        let h : w ≤ length l = omega arith in
        run_field w (λ bs. next bs >>= k) l h ∙ ap (later w) (more (later_badly w (run (next (take w l)) (drop w l)) r missing (sym (run_field w next l h) ∙ e)))
        ∙ badly_later w r missing

-- three, one after the other
pub bind_assoc : {A B C : Type 0} (p : Program A) (f : A → Program B) (g : B → Program C) → ((p >>= f) >>= g) ≡ (p >>= (λ a. f a >>= g))
unfolding ◌>>=◌
bind_assoc (done a) f g = refl
bind_assoc (refuse r) f g = refl
bind_assoc (field w more) f g = λ i. field w (λ b. bind_assoc (more b) f g i)

-- and back: a run of one after the other that ended well is two
pub record Both {A B : Type 0} (p : Program A) (k : A → Program B) (l : List Bool) (b : B) (taken : ℕ) : Type 0 where
  pub value : A
  pub used : ℕ
  pub rest : ℕ
  pub first : run p l ≡ well value used
  pub second : run (k value) (drop used l) ≡ well b rest
  pub sum : taken ≡ used + rest

pub both : {A B : Type 0} (p : Program A) (k : A → Program B) (l : List Bool) (b : B) (taken : ℕ) → run (p >>= k) l ≡ well b taken → Both p k l b taken
unfolding run ◌>>=◌ later
both (done a) k l b taken e = record { value = a; used = 0; rest = taken; first = refl; second = e; sum = sym (zero-add taken) }
both (refuse r) k l b taken e = absurd (not_well r 0 b taken e)
both (field w next) k l b taken e =
    let f = began w (λ bs. next bs >>= k) l b taken e in
    let g = both (next (take w l)) k (drop w l) b f.rest f.goes in
    record {
      value = g.value;
      used = w + g.used;
      rest = g.rest;
      first = run_field w next l f.room ∙ ap (later w) g.first;
      second = ap (λ (m : List Bool). run (k g.value) m) (sym (drop-drop g.used w l)) ∙ g.second;
      sum = f.sum ∙ ap (λ (n : ℕ). w + n) g.sum ∙ sym (add_assoc w g.used g.rest);
    }

-- it looks at no bit past those that it took
pub run_agree : {A : Type 0} (p : Program A) (l m : List Bool) (a : A) (taken : ℕ) → run p l ≡ well a taken → take taken l ≡ take taken m → taken ≤ length m
    → run p m ≡ well a taken
unfolding run later
run_agree (done b) l m a taken e same room = e
run_agree (refuse r) l m a taken e same room = e
run_agree (field w next) l m a taken e same room =
    let b = began w next l a taken e in
    let order : w ≤ taken = omega (arith, b.sum) in
    let there : w ≤ length m = omega arith in
    let front : take w l ≡ take w m = sym (take-take w taken l order) ∙ ap (take w) same ∙ take-take w taken m order in
    let back : take b.rest (drop w l) ≡ take b.rest (drop w m) =
    sym (drop_take w b.rest l b.room) ∙ ap (λ (n : ℕ). drop w (take n l)) (sym b.sum) ∙ ap (drop w) same
    ∙ ap (λ (n : ℕ). drop w (take n m)) b.sum ∙ drop_take w b.rest m there in
    let goes : run (next (take w m)) (drop w l) ≡ well a b.rest = rw front at b.goes in
    run_field w next m there
    ∙ ap (later w) (run_agree (next (take w m)) (drop w l) (drop w m) a b.rest goes back (rw length-drop (omega (arith, b.sum))))
    ∙ ap (well a) (sym b.sum)

pub run_append : {A : Type 0} (p : Program A) (l more : List Bool) (a : A) (taken : ℕ) → run p l ≡ well a taken → run p (l ++ more) ≡ well a taken
run_append p l more a taken e =
    let h = taken_le p l a taken e in
    run_agree p l (l ++ more) a taken e (sym (take-append-le taken l more h)) (rw length-append (omega arith))

pub run_take : {A : Type 0} (p : Program A) (l : List Bool) (a : A) (taken : ℕ) → run p l ≡ well a taken → run p (take taken l) ≡ well a taken
run_take p l a taken e =
    let h = taken_le p l a taken e in
    run_agree p l (take taken l) a taken e (sym (take-take taken taken l (le_refl taken))) (rw (length-take-le taken l h) (le_refl taken))

-- ---- a test

pub required : {B : Type 0} (test : Bool) (r : Refusal) (p : Program B) (l : List Bool) (b : B) (taken : ℕ) → run (require test r >> p) l ≡ well b taken
    → (test ≡ true) × (run p l ≡ well b taken)
unfolding require ◌>>◌ ◌>>=◌ run
required true r p l b taken e = (refl, e)
required false r p l b taken e = absurd (not_well r 0 b taken e)

pub require_true : {B : Type 0} (test : Bool) (r : Refusal) (p : Program B) → test ≡ true → (require test r >> p) ≡ p
unfolding require ◌>>◌ ◌>>=◌
require_true test r p e = rw e
