-- Tests as Booleans, and a test of each number of a list, in parts. Assumes nothing.
use Rattle.bits.proofs.Words.{◌≡◌, refl, sym, ap, ◌∙◌, Bool, true, false, ◌&&◌, List, [], ◌∷◌, ◌++◌, ℕ, ◌+◌, ◌-◌, ◌≤◌, arith, take, drop}
use mathlib.Core.Bool.{and_comm}
use lib.ListN.{take-append-drop}
use lib.Seq.{take-add, drop-drop}
use Rattle.holding.specs.Bounds.{every}
use Rattle.format.proofs.Sames as Sames

pub and_assoc : (a b c : Bool) → (a && (b && c)) ≡ ((a && b) && c)
and_assoc false b c = refl
and_assoc true b c = refl

pub and_left : (a b c : Bool) → (a && (b && c)) ≡ (b && (a && c))
and_left a b c = and_assoc a b c ∙ ap (λ (t : Bool). t && c) (and_comm a b) ∙ sym (and_assoc b a c)

-- tests in any order
pub ruleset and-sorts = (← and_assoc, and_comm, and_left)

pub and_swap : (a b c : Bool) → ((a && b) && c) ≡ ((a && c) && b)
and_swap a b c = simp and-sorts

-- four tests of one kind, and four of another
pub and_fours : (a b c d p q r s : Bool) → ((a && p) && ((b && q) && ((c && r) && (d && s)))) ≡ ((a && (b && (c && d))) && (p && (q && (r && s))))
and_fours a b c d p q r s = simp and-sorts

-- a test that was made already
pub and_again : (a b c : Bool) → ((a && b) && (b && c)) ≡ (a && (b && c))
and_again false b c = refl
and_again true false c = refl
and_again true true c = refl

-- ---- of each number of a list

module _ (test : ℕ → Bool) where
  every_append : (l m : List ℕ) → every test (l ++ m) ≡ (every test l && every test m)
  unfolding every
  every_append [] m = refl
  every_append (n ∷ l) m = ap (λ (t : Bool). test n && t) (every_append l m) ∙ and_assoc (test n) (every test l) (every test m)

  -- the next ones and those behind them
  pub every_next : (l : List ℕ) (i a b : ℕ) → every test (take (a + b) (drop i l)) ≡ (every test (take a (drop i l)) && every test (take b (drop (i + a) l)))
  every_next l i a b = rw (take-add a b (drop i l), every_append, drop-drop a i l)

  -- those from one on to another meet it just if they do up to one between and from it on
  pub every_parts : (l : List ℕ) (from i to : ℕ) → from ≤ i → i ≤ to
      → every test (take (to - from) (drop from l)) ≡ (every test (take (i - from) (drop from l)) && every test (take (to - i) (drop i l)))
  every_parts l from i to low high =
      let whole : to - from ≡ (i - from) + (to - i) = omega arith in
      let place : from + (i - from) ≡ i = omega arith in
      rw (whole, every_next l from (i - from) (to - i), place)

  -- so the first of them do
  pub every_fewer : (l : List ℕ) (from i to : ℕ) → from ≤ i → i ≤ to → every test (take (to - from) (drop from l)) ≡ true → every test (take (i - from) (drop from l)) ≡ true
  every_fewer l from i to low high e = (Sames.and_true (every test (take (i - from) (drop from l))) _ (sym (every_parts l from i to low high) ∙ e)).0

  -- or to the end
  every_split : (l : List ℕ) (from i : ℕ) → from ≤ i → every test (drop from l) ≡ (every test (take (i - from) (drop from l)) && every test (drop i l))
  every_split l from i low =
      let place : from + (i - from) ≡ i = omega arith in
      let parts = every_append (take (i - from) (drop from l)) (drop (i - from) (drop from l)) in
      ap (every test) (sym (take-append-drop (i - from) (drop from l))) ∙ parts ∙ rw (drop-drop (i - from) from l, place)

  -- the last ones may be tested with some that were tested before
  pub every_last : (l : List ℕ) (from last i : ℕ) → from ≤ last → last ≤ i → (every test (take (i - from) (drop from l)) && every test (drop last l)) ≡ every test (drop from l)
  every_last l from last i low high =
      let first = every test (take (last - from) (drop from l)) in
      let again = every test (take (i - last) (drop last l)) in
      let rest = every_split l last i high in
      rw (every_parts l from last i low high, rest) (and_again first again (every test (drop i l)))
      ∙ sym (every_split l from last low ∙ ap (λ (t : Bool). first && t) rest)
