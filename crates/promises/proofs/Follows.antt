-- Two programs over the same bits: what the first reads, the second reads too, to what is in some relation to it, or refuses with one of some refusals.
-- Assumes nothing.
use mathlib.Core.Path.{◌≡◌, refl}
use mathlib.Core.Bool.{Bool}
use mathlib.Core.List.{List}
use Prim.Native.Nat.{ℕ, zero, suc}
use Rattle.format.specs.declared.Refusal.{Refusal}
use Rattle.format.specs.Programs.{Program, done, refuse, ◌>>=◌, Ended, well, badly, later, unless_short, run}
use Rattle.format.proofs.Runs.{run_bind, run_bind_badly}

-- ---- how they end

pub data Beside {A : Type 0} (R : A → A → Type 0) (Named : Refusal → Type 0) : Ended A → Ended A → Type 0 where
  first_refused : {r : Refusal} {missing : ℕ} {e : Ended A} → Beside R Named (badly r missing) e
  both_well : {a b : A} {taken : ℕ} → R a b → Beside R Named (well a taken) (well b taken)
  second_refused : {a : A} {taken : ℕ} {r : Refusal} {missing : ℕ} → Named r → Beside R Named (well a taken) (badly r missing)

module _ {A : Type 0} {R : A → A → Type 0} {Named : Refusal → Type 0} where
  -- after bits that both read, or that are missing
  pub beside_later : (w : ℕ) {e g : Ended A} → Beside R Named e g → Beside R Named (later w e) (later w g)
  unfolding later
  beside_later w first_refused = first_refused
  beside_later w (both_well it) = both_well it
  beside_later w (second_refused named) = second_refused named

  pub beside_short : (missing : ℕ) {e g : Ended A} → Beside R Named e g → Beside R Named (unless_short missing e) (unless_short missing g)
  unfolding unless_short
  beside_short zero it = it
  beside_short (suc n) it = first_refused

  -- whatever the first does, the second may refuse
  beside_refused : (e : Ended A) {r : Refusal} {missing : ℕ} → Named r → Beside R Named e (badly r missing)
  beside_refused (well a taken) named = second_refused named
  beside_refused (badly r missing) named = first_refused

-- ---- programs

pub record Follows {A : Type 0} (R : A → A → Type 0) (Named : Refusal → Type 0) (p q : Program A) : Type 0 where
  pub follows : (l : List Bool) → Beside R Named (run p l) (run q l)

module _ {A : Type 0} {R : A → A → Type 0} {Named : Refusal → Type 0} where
  pub follows_done : {a b : A} → R a b → Follows R Named (done a) (done b)
  unfolding run
  follows_done it = record { follows = λ l. both_well it }

  pub first_refuses : {r : Refusal} {q : Program A} → Follows R Named (refuse r) q
  unfolding run
  first_refuses = record { follows = λ l. first_refused }

  pub second_refuses : {p : Program A} {r : Refusal} → Named r → Follows R Named p (refuse r)
  unfolding run
  second_refuses {p} named = record { follows = λ l. beside_refused (run p l) named }

  -- it may refuse with more
  pub follows_so : {Fewer : Refusal → Type 0} {p q : Program A} → ((r : Refusal) → Fewer r → Named r) → Follows R Fewer p q → Follows R Named p q
  follows_so {Fewer} {p} {q} so it = record { follows = λ l. go (it.follows l) }
    where
      go : {e g : Ended A} → Beside R Fewer e g → Beside R Named e g
      go first_refused = first_refused
      go (both_well same) = both_well same
      go (second_refused named) = second_refused (so _ named)

  -- one after the other
  pub follows_then : {B : Type 0} {p q : Program B} {j k : B → Program A} → Follows ◌≡◌ Named p q → ((b : B) → Follows R Named (j b) (k b))
      → Follows R Named (p >>= j) (q >>= k)
  follows_then {B} {p} {q} {j} {k} it then = record { follows = λ l. go l (run p l) (run q l) refl refl (it.follows l) }
    where
      go : (l : List Bool) (e g : Ended B) → run p l ≡ e → run q l ≡ g → Beside ◌≡◌ Named e g → Beside R Named (run (p >>= j) l) (run (q >>= k) l)
      go l e g first second (first_refused {r} {missing}) = rw (run_bind_badly p j l r missing first) first_refused
      go l e g first second (both_well {a} {b} {taken} same) =
          rw (run_bind p j l a taken first, run_bind q k l b taken second, same) (beside_later taken ((then b).follows _))
      go l e g first second (second_refused {a} {taken} {r} {missing} named) = rw (run_bind_badly q k l r missing second) (beside_refused _ named)

-- a program follows itself
pub follows_itself : {A : Type 0} {Named : Refusal → Type 0} (p : Program A) → Follows ◌≡◌ Named p p
follows_itself {A} {Named} p = record { follows = λ l. go (run p l) }
  where
    go : (e : Ended A) → Beside ◌≡◌ Named e e
    go (well a taken) = both_well refl
    go (badly r missing) = first_refused
